-- Pieces of a line that are put one after the other.
use Prim.Native.Nat.{ℕ, ◌+◌, ◌-◌, ◌≤◌}
use native.Mathlib.Omega.{arith}
use mathlib.Core.Path.{◌≡◌, refl, sym, ap, ◌∙◌}
use mathlib.Core.List.{List, [], ◌∷◌, ◌++◌, append_assoc}
use lib.ListN.{length, replicate, length-append, length-replicate, replicate-append-replicate}
use lib.Dec.{eqb}
use mathlib.Core.Bool.{Bool}
use Rattle.std.specs.Prelude.{if◌then◌else◌}
use borrow.Author.Tests.{ne_eqb}
use Rattle.text.specs.Text.{space, line_feed, decimal, Puts}
use Rattle.text.proofs.Putting.{puts_more, puts_same}
use Rattle.history.specs.History.{empty_remove, no_kind}
use Rattle.timeline.specs.Page.{right_aligned, letter_of, label_of, hash, dot, page_records}
use Rattle.timeline.specs.Spans.{column_runs, left_bytes, left_part, right_part}

-- the label of an operation, by whether it is an empty remove and whether it is a remove that has not returned
abbrev label_if : ℕ → ℕ → Bool → Bool → List ℕ
label_if kind value empty pending = letter_of kind ∷ (if empty then [] else if pending then [] else decimal value)

label_is : (kind value : ℕ) {empty pending : Bool} → eqb kind empty_remove ≡ empty → eqb kind no_kind ≡ pending → label_of kind value ≡ label_if kind value empty pending
label_is kind value {pending = pending} e f = ap (label_if kind value (eqb kind empty_remove)) f ∙ ap (λ empty. label_if kind value empty pending) e

-- a label of a letter and a value
module _ (kind value : ℕ) {letter : ℕ} (e : letter ≡ letter_of kind) {at mid : ℕ} {text text' : List ℕ} (p : Puts (letter ∷ []) at text mid text') where
  pub label_value : (kind ≡ empty_remove → ⊥) → (kind ≡ no_kind → ⊥) → at ≤ length text → {next : ℕ} {text'' : List ℕ} → Puts (decimal value) mid text' next text''
      → Puts (label_of kind value) at text next text''
  label_value z n l q = puts_same (label_is kind value (ne_eqb kind empty_remove z) (ne_eqb kind no_kind n) ∙ ap (λ l. l ∷ decimal value) (sym e)) (puts_more p q l)

-- the left part of a line: spaces, the number, a space, the label, and spaces up to character 17
pub number_put : (o pad : ℕ) {at a b : ℕ} {t t₁ t₂ : List ℕ} → pad + length (decimal o) ≡ 4 → at ≤ length t
    → Puts (replicate ((at + pad) - at) space) at t a t₁ → Puts (decimal o) a t₁ b t₂ → Puts (right_aligned 4 (decimal o)) at t b t₂
number_put o pad {at} width room spaces number =
    let few : (at + pad) - at ≡ 4 - length (decimal o) = omega arith in
    puts_more (rw few at spaces) number room

left_pieces : (a label : List ℕ) (k : ℕ) → a ++ (space ∷ ((label ++ replicate k space) ++ (space ∷ []))) ≡ ((a ++ (space ∷ [])) ++ label) ++ replicate (k + 1) space
left_pieces a label k =
    rw (
      append_assoc (a ++ (space ∷ [])) label (replicate (k + 1) space),
      append_assoc a (space ∷ []) (label ++ replicate (k + 1) space),
      append_assoc label (replicate k space) (space ∷ []),
      replicate-append-replicate k 1 space,
    )
    refl

pub left_part_put : (o kind value : ℕ) {at b c d next : ℕ} {t t₂ t₃ t₄ t₅ : List ℕ} → length (right_aligned 4 (decimal o)) ≡ 4 → length (label_of kind value) ≤ 11
    → at ≤ length t → Puts (right_aligned 4 (decimal o)) at t b t₂ → Puts (space ∷ []) b t₂ c t₃ → Puts (label_of kind value) c t₃ d t₄
    → Puts (replicate ((at + left_bytes) - d) space) d t₄ next t₅ → Puts (left_part o kind value) at t next t₅
left_part_put o kind value {at} {d = d} wide short room number blank label rest =
    let few : (at + left_bytes) - d ≡ (11 - length (label_of kind value)) + 1 = omega (arith, number.ends, blank.ends, label.ends) in
    puts_same (left_pieces (right_aligned 4 (decimal o)) (label_of kind value) (11 - length (label_of kind value)))
    (puts_more (puts_more (puts_more number blank room) label room) (rw few at rest) room)

-- the right part of a line: dots, hashes, dots, spaces up to character 80, and the line feed
runs_length : (start end n : ℕ) → start ≤ end → end ≤ n → length (column_runs start end n) ≡ n
runs_length start end n l m = omega (
  arith,
  length-append (replicate start dot) (replicate (end - start) hash ++ replicate (n - end) dot),
  length-append (replicate (end - start) hash) (replicate (n - end) dot),
  length-replicate start dot,
  length-replicate (end - start) hash,
  length-replicate (n - end) dot,
)

-- from column x up to column y
between : (at x y : ℕ) {c : ℕ} → c ≡ at + x → (at + y) - c ≡ y - x
between at x y e = omega arith

pub right_part_put : (start end n : ℕ) {at a b c d next : ℕ} {t t₁ t₂ t₃ t₄ t₅ : List ℕ} → start ≤ end → end ≤ n → at ≤ length t
    → (a ≡ at + start) × Puts (replicate ((at + start) - at) dot) at t a t₁
    → (b ≡ at + end) × Puts (replicate ((at + end) - a) hash) a t₁ b t₂
    → (c ≡ at + n) × Puts (replicate ((at + n) - b) dot) b t₂ c t₃
    → Puts (replicate ((at + page_records) - c) space) c t₃ d t₄ → Puts (line_feed ∷ []) d t₄ next t₅ → Puts (right_part start end n) at t next t₅
right_part_put start end n {at} {a} {b} {c} l m room (e, dots) (f, hashes) (g, more) spaces feed =
    let k₁ : (at + start) - at ≡ start = omega arith in
    let k₂ = between at start end e in
    let k₃ = between at end n f in
    let k₄ : (at + page_records) - c ≡ page_records - length (column_runs start end n) = rw (runs_length start end n l m) (between at n page_records g) in
    let drawn = puts_more (puts_more (rw k₁ at dots) (rw k₂ at hashes) room) (rw k₃ at more) room in
    puts_more (puts_more (rw (append_assoc (replicate start dot) (replicate (end - start) hash) (replicate (n - end) dot)) at drawn) (rw k₄ at spaces) room) feed room
