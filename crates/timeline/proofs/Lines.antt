-- Lines: how long they are, and that the code's two parts of a line make it.
use Prim.Native.Nat.{ℕ, zero, suc, ◌+◌, ◌-◌, ◌*◌, ◌≤◌, ◌<◌}
use native.Mathlib.Omega.{arith}
use native.Mathlib.Numerals.{add-one}
use native.Mathlib.Nat.{add-zero, add-suc}
use mathlib.Core.Path.{◌≡◌, refl, sym, ap, ◌∙◌}
use mathlib.Core.Bool.{Bool, true, false, ◌&&◌}
use mathlib.Core.List.{List, [], ◌∷◌, ◌++◌, append_assoc, append-nil}
use lib.ListN.{length, get_or, take, drop, replicate, length-append, length-drop, length-replicate, get_or-replicate, replicate-append-replicate, get_or-append}
use lib.Seq.{take_all, take_at, drop_at, get_or_at, take-append-le, drop-append-le, drop-append-add, get_or-append-add, get_or-drop}
use lib.Dec.{leb, eqb}
use native.Mathlib.Decide.{dec_lt}
use borrow.Author.Tests.{lt-leb, le-leb}
use Rattle.std.specs.Prelude.{if◌then◌else◌}
use Rattle.text.specs.Text.{space, line_feed, decimal}
use Rattle.text.proofs.Decimals.{decimal_few}
use Rattle.history.specs.History.{empty_remove, no_kind}
use Rattle.timeline.specs.Page.{page_records, right_aligned, left_aligned, joined, letter_of, label_of, hash, dot, column_of, columns, line_bytes, operation_line}
use Rattle.timeline.specs.Spans.{column_runs, left_part, right_part}

-- texts that are the same, one by one, are the same when they are joined
pub joined_same : (f g : ℕ → List ℕ) (n : ℕ) → ((i : ℕ) → i < n → f i ≡ g i) → joined f n ≡ joined g n
unfolding joined
joined_same f g zero same = refl
joined_same f g (suc n) same = rw (joined_same f g n (λ i l. same i (omega arith)), same n (omega arith)) refl

-- texts of one length
pub joined_length : (f : ℕ → List ℕ) (n width : ℕ) → ((i : ℕ) → i < n → length (f i) ≡ width) → length (joined f n) ≡ n * width
unfolding joined
joined_length f zero width all = omega arith
joined_length f (suc n) width all =
    omega (arith, length-append (joined f n) (f n), joined_length f n width (λ i l. all i (omega arith)), all n (omega arith))

-- which stand one after the other
pub joined_at : (f : ℕ → List ℕ) (n o : ℕ) → ((i : ℕ) → i < n → length (f i) ≡ line_bytes) → o < n → take line_bytes (drop (o * line_bytes) (joined f n)) ≡ f o
unfolding joined
joined_at f zero o all l = absurd (omega arith)
joined_at f (suc n) o all l = go (dec_lt o n) (λ b. joined_at f n o before b)
  where
    before : (i : ℕ) → i < n → length (f i) ≡ line_bytes
    before i l = all i (omega arith)

    long : length (joined f n) ≡ n * line_bytes
    long = joined_length f n line_bytes before

    go : Dec (o < n) → (o < n → take line_bytes (drop (o * line_bytes) (joined f n)) ≡ f o)
        → take line_bytes (drop (o * line_bytes) (joined f n ++ f n)) ≡ f o
    go (yes b) earlier =
        rw (
          drop-append-le (o * line_bytes) (joined f n) (f n) (omega (arith, long)),
          take-append-le line_bytes (drop (o * line_bytes) (joined f n)) (f n) (omega (arith, long, length-drop (o * line_bytes) (joined f n))),
        )
        (earlier b)
    go (no b) earlier =
        let last : o ≡ n = omega arith in
        rw (last, drop_at (joined f n) (f n) (n * line_bytes) long) (take_all line_bytes (f n) (omega (arith, all n (omega arith))))

-- texts of one character each
pub joined_character : (f : ℕ → ℕ) (n i : ℕ) → i < n → get_or (joined (λ j. f j ∷ []) n) i 0 ≡ f i
unfolding joined
joined_character f zero i l = absurd (omega arith)
joined_character f (suc n) i l = go (dec_lt i n) (joined_character f n i)
  where
    long : length (joined (λ j. f j ∷ []) n) ≡ n
    long = omega (arith, joined_length (λ j. f j ∷ []) n 1 (λ j m. refl))

    go : Dec (i < n) → (i < n → get_or (joined (λ j. f j ∷ []) n) i 0 ≡ f i) → get_or (joined (λ j. f j ∷ []) n ++ (f n ∷ [])) i 0 ≡ f i
    go (yes b) earlier = get_or-append (joined (λ j. f j ∷ []) n) (f n ∷ []) 0 i (omega (arith, long)) ∙ earlier b
    go (no b) earlier =
        let last : i ≡ n = omega arith in
        rw last (get_or_at (joined (λ j. f j ∷ []) n) (f n) [] 0 n long)

-- a run of texts that are one character
joined_more : (f : ℕ → List ℕ) (x a k : ℕ) → ((i : ℕ) → a ≤ i → i < a + k → f i ≡ x ∷ []) → joined f (a + k) ≡ joined f a ++ replicate k x
unfolding joined
joined_more f x a zero all = rw (add-zero a) (sym (append-nil (joined f a)))
joined_more f x a (suc k) all =
    let one : replicate k x ++ (x ∷ []) ≡ replicate (suc k) x = rw add-one at (replicate-append-replicate k 1 x) in
    rw (add-suc a k, joined_more f x a k (λ i l m. all i l (omega arith)), all (a + k) (omega arith) (omega arith), ← one)
    (append_assoc (joined f a) (replicate k x) (x ∷ []))

joined_run : (f : ℕ → List ℕ) (x a b : ℕ) → a ≤ b → ((i : ℕ) → a ≤ i → i < b → f i ≡ x ∷ []) → joined f b ≡ joined f a ++ replicate (b - a) x
joined_run f x a b h all =
    let whole : a + (b - a) ≡ b = omega arith in
    rw whole at (joined_more f x a (b - a) (λ i l m. all i l (omega arith)))

-- a column after the return
pub column_late : (call : ℕ) {return i : ℕ} → return < i → column_of call return i ≡ dot
column_late call {return} {i} l = go (leb call i)
  where
    go : (b : Bool) → (if b && leb i return then hash else dot) ≡ dot
    go true = rw (lt-leb i return l) refl
    go false = refl

-- so columns are dots, hashes, and dots again
module _ (call return end n : ℕ) (begun : call ≤ end) (ended : end ≤ return + 1) (within : end ≤ n) (last : (i : ℕ) → end ≤ i → i < n → return < i) where
  -- the text of a column
  abbrev at : ℕ → List ℕ
  at i = column_of call return i ∷ []

  before : joined at call ≡ replicate call dot
  unfolding joined
  before =
      let all : call - 0 ≡ call = omega arith in
      rw all at (joined_run at dot 0 call (omega arith) (λ i l m. rw (lt-leb call i m) refl))

  pub columns_runs : columns call return n ≡ column_runs call end n
  columns_runs =
      rw (
        joined_run at dot end n within (λ i l m. ap (λ c. c ∷ []) (column_late call (last i l m))),
        joined_run at hash call end begun (λ i l m. rw (le-leb call i l, le-leb i return (omega arith)) refl),
        before,
      )
      (append_assoc (replicate call dot) (replicate (end - call) hash) (replicate (n - end) dot))

-- the length of a field
right_length : (width : ℕ) (text : List ℕ) → length text ≤ width → length (right_aligned width text) ≡ width
right_length width text h = omega (arith, length-append (replicate (width - length text) space) text, length-replicate (width - length text) space)

left_length : (width : ℕ) (text : List ℕ) → length text ≤ width → length (left_aligned width text) ≡ width
left_length width text h = omega (arith, length-append text (replicate (width - length text) space), length-replicate (width - length text) space)

-- spaces fill it
pub left_blank : (width : ℕ) (text : List ℕ) (i : ℕ) → length text ≤ i → i < width → get_or (left_aligned width text) i 0 ≡ space
left_blank width text i h l =
    let whole : length text + (i - length text) ≡ i = omega arith in
    rw whole at (get_or-append-add text (replicate (width - length text) space) (i - length text) 0)
    ∙ get_or-replicate (width - length text) (i - length text) space 0 (omega arith)

-- the length of a label
pub label_length : (kind value : ℕ) → value < 4294967296 → length (label_of kind value) ≤ 11
label_length kind value h = go (eqb kind empty_remove) (eqb kind no_kind)
  where
    go : (empty pending : Bool) → length (letter_of kind ∷ (if empty then [] else if pending then [] else decimal value)) ≤ 11
    go true pending = omega arith
    go false true = omega arith
    go false false = omega (arith, decimal_few 9 value (omega arith))

-- the number of columns
pub columns_length : (call return n : ℕ) → length (columns call return n) ≡ n
columns_length call return n = omega (arith, joined_length (λ i. column_of call return i ∷ []) n 1 (λ i l. refl))

-- the widths of the fields of a line
pub number_width : (o : ℕ) → o < page_records → length (right_aligned 4 (decimal o)) ≡ 4
number_width o h = right_length 4 (decimal o) (omega (arith, decimal_few 1 o (omega arith)))

pub label_width : (kind value : ℕ) → value < 4294967296 → length (left_aligned 11 (label_of kind value)) ≡ 11
label_width kind value v = left_length 11 (label_of kind value) (label_length kind value v)

pub columns_width : (call return n : ℕ) → n ≤ page_records → length (left_aligned page_records (columns call return n)) ≡ page_records
columns_width call return n few = left_length page_records (columns call return n) (omega (arith, columns_length call return n))

-- three fields, with a space after each of the first two and a line feed at the end
module _ (a b c : List ℕ) where
  abbrev fields : List ℕ
  fields = a ++ (space ∷ (b ++ (space ∷ (c ++ (line_feed ∷ [])))))

  pub fields_length : length fields ≡ length a + length b + length c + 3
  fields_length = omega (
    arith,
    length-append a (space ∷ (b ++ (space ∷ (c ++ (line_feed ∷ []))))),
    length-append b (space ∷ (c ++ (line_feed ∷ []))),
    length-append c (line_feed ∷ []),
  )

  -- in two parts
  fields_parts : fields ≡ (a ++ (space ∷ (b ++ (space ∷ [])))) ++ (c ++ (line_feed ∷ []))
  fields_parts = sym
      (append_assoc a (space ∷ (b ++ (space ∷ []))) (c ++ (line_feed ∷ []))
      ∙ ap (λ t. a ++ (space ∷ t)) (append_assoc b (space ∷ []) (c ++ (line_feed ∷ []))))

  module _ (wide-a : length a ≡ 4) (wide-b : length b ≡ 11) where
    -- where each of them stands, and the spaces
    pub first_field : take 4 fields ≡ a
    first_field = take_at a (space ∷ (b ++ (space ∷ (c ++ (line_feed ∷ []))))) 4 wide-a

    pub first_space : get_or fields 4 0 ≡ space
    first_space = get_or_at a space (b ++ (space ∷ (c ++ (line_feed ∷ [])))) 0 4 wide-a

    from_second : drop 5 fields ≡ b ++ (space ∷ (c ++ (line_feed ∷ [])))
    from_second = rw wide-a at (drop-append-add a (space ∷ (b ++ (space ∷ (c ++ (line_feed ∷ []))))) 1)

    pub second_field : take 11 (drop 5 fields) ≡ b
    second_field = rw from_second (take_at b (space ∷ (c ++ (line_feed ∷ []))) 11 wide-b)

    pub second_space : get_or fields 16 0 ≡ space
    second_space = sym (get_or-drop 5 fields 11 0) ∙ rw from_second (get_or_at b space (c ++ (line_feed ∷ [])) 0 11 wide-b)

    pub from_third : (i : ℕ) → get_or fields (17 + i) 0 ≡ get_or (c ++ (line_feed ∷ [])) i 0
    from_third i =
        let wide : length (a ++ (space ∷ (b ++ (space ∷ [])))) ≡ 17 = omega (arith, length-append a (space ∷ (b ++ (space ∷ []))), length-append b (space ∷ [])) in
        rw fields_parts (rw wide at (get_or-append-add (a ++ (space ∷ (b ++ (space ∷ [])))) (c ++ (line_feed ∷ [])) i 0))

-- a line in its two parts
pub line_parts : (o kind value call return end n : ℕ) → columns call return n ≡ column_runs call end n
    → left_part o kind value ++ right_part call end n ≡ operation_line o kind value call return n
line_parts o kind value call return end n e =
    rw e (sym (fields_parts (right_aligned 4 (decimal o)) (left_aligned 11 (label_of kind value)) (left_aligned page_records (column_runs call end n))))
