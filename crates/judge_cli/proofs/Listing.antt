-- The laws of the operations that a sheet lists, as they are put one behind the other.
use Prim.Native.Nat.{ℕ, zero, suc, ◌+◌, ◌-◌, ◌*◌, ◌≤◌, ◌<◌}
use native.Mathlib.Omega.{arith}
use mathlib.Core.Path.{◌≡◌, refl, sym, ap, ◌∙◌}
use mathlib.Core.List.{List, [], ◌∷◌, ◌++◌, map, append_assoc, append-nil, map-append}
use lib.ListN.{length, length-append}
use Rattle.record.specs.Number.{big_endian}
use Rattle.text.specs.Text.{space, decimal, spaced}
use Rattle.history.specs.Sheet.{sheet_header, numbers_from}
use Rattle.judge_cli.specs.Writing.{listing}

numbers_split : (sheet : List ℕ) (at i j : ℕ) → numbers_from sheet at (i + j) ≡ numbers_from sheet at i ++ numbers_from sheet (at + 2 * i) j
unfolding numbers_from
numbers_split sheet at zero j = ap (λ n. numbers_from sheet at n) {x = 0 + j} {y = j} (omega arith) ∙ ap (λ n. numbers_from sheet n j) {x = at} {y = at + 2 * 0} (omega arith)
numbers_split sheet at (suc i) j =
    ap (λ n. numbers_from sheet at n) {x = suc i + j} {y = suc (i + j)} (omega arith)
    ∙ ap (λ xs. big_endian sheet at 2 ∷ xs) (numbers_split sheet (at + 2) i j ∙ ap (λ n. numbers_from sheet (at + 2) i ++ numbers_from sheet n j) {x = at + 2 + 2 * i} {y = at + 2 * suc i} (omega arith))

spaced_append : (xs ys : List (List ℕ)) → spaced (xs ++ ys) ≡ spaced xs ++ spaced ys
unfolding spaced
spaced_append [] ys = refl
spaced_append (x ∷ xs) ys = ap (λ zs. space ∷ zs) (ap (λ zs. x ++ zs) (spaced_append xs ys) ∙ sym (append_assoc x (spaced xs) (spaced ys)))

-- the first i operations, then j more
listing_split : (sheet : List ℕ) (i j : ℕ) → listing sheet (i + j) ≡ listing sheet i ++ spaced (map decimal (numbers_from sheet (sheet_header + 2 * i) j))
listing_split sheet i j =
    ap (λ xs. spaced (map decimal xs)) (numbers_split sheet sheet_header i j)
    ∙ ap spaced (map-append decimal (numbers_from sheet sheet_header i) (numbers_from sheet (sheet_header + 2 * i) j))
    ∙ spaced_append (map decimal (numbers_from sheet sheet_header i)) (map decimal (numbers_from sheet (sheet_header + 2 * i) j))

pub listing_none : (sheet : List ℕ) → listing sheet 0 ≡ []
unfolding spaced numbers_from
listing_none sheet = refl

-- the operation with number i, as it is read off the sheet
module _ (sheet : List ℕ) (i : ℕ) {x : ℕ} (read : x ≡ big_endian sheet (sheet_header + 2 * i) 2) where
  pub listing_more : listing sheet (i + 1) ≡ listing sheet i ++ (space ∷ decimal x)
  unfolding spaced numbers_from
  listing_more = listing_split sheet i 1 ∙ ap (λ xs. listing sheet i ++ (space ∷ xs)) (append-nil (decimal (big_endian sheet (sheet_header + 2 * i) 2)) ∙ ap decimal (sym read))

  -- where there is room for all, there is room for one more
  pub listing_room : (k : ℕ) → i < k → length (listing sheet i) + length (space ∷ decimal x) ≤ length (listing sheet k)
  listing_room k l =
      let rest : List ℕ = spaced (map decimal (numbers_from sheet (sheet_header + 2 * (i + 1)) (k - (i + 1)))) in
      let all : length (listing sheet k) ≡ length (listing sheet (i + 1)) + length rest =
      ap (λ n. length (listing sheet n)) {x = k} {y = i + 1 + (k - (i + 1))} (omega arith) ∙ ap length (listing_split sheet (i + 1) (k - (i + 1))) ∙ length-append (listing sheet (i + 1)) rest in
      omega (arith, all, ap length listing_more, length-append (listing sheet i) (space ∷ decimal x))
