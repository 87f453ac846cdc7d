-- Laws of the lists that tables hold.
use Prim.Native.Nat.{ℕ, zero, suc, ◌+◌, ◌-◌, ◌≤◌, ◌<◌}
use native.Mathlib.Omega.{arith}
use native.Mathlib.Numerals.{add-one}
use mathlib.Core.Path.{◌≡◌, refl, sym, ◌∙◌}
use mathlib.Core.Bool.{Bool, true, false}
use mathlib.Core.List.{List, [], ◌∷◌, ◌++◌}
use lib.ListN.{length, get_or, set, replicate, take, drop, length-set, length-append, length-drop, length-take}
use Rattle.std.proofs.lemmas.List.{drop-take}
use lib.Seq.{take-suc-set, take-take, take_at, length-take-le}
use lib.Dec.{eqb}
use borrow.Author.Tests.{eq-eqb, ne_eqb}
use Rattle.std.specs.Prelude.{◌||◌, if◌then◌else◌}
use Rattle.std.specs.List.{list_any, copy_within}
use Rattle.table.specs.Table.{table_size, is_in, without, Pushed}

-- an array of zeros
pub zeros : (n i : ℕ) → ◌≡◌ {A = ℕ} (get_or (replicate n 0) i 0) 0
zeros zero i = refl
zeros (suc n) zero = refl
zeros (suc n) (suc i) = zeros n i

-- a number is in two lists, one behind the other, if it is in one of them
pub is_in_append : (v : ℕ) (xs ys : List ℕ) → is_in v (xs ++ ys) ≡ (if is_in v xs then true else is_in v ys)
unfolding is_in
is_in_append v [] ys = refl
is_in_append v (x ∷ xs) ys = go (eqb x v) (is_in_append v xs ys)
  where
    go : (b : Bool) → is_in v (xs ++ ys) ≡ (if is_in v xs then true else is_in v ys)
        → (if b then true else is_in v (xs ++ ys)) ≡ (if (if b then true else is_in v xs) then true else is_in v ys)
    go true e = refl
    go false e = e

-- it is behind others
pub is_in_last : (v : ℕ) (xs : List ℕ) → is_in v (xs ++ (v ∷ [])) ≡ true
unfolding is_in
is_in_last v xs = rw (is_in_append v xs (v ∷ []), eq-eqb v v refl) (go (is_in v xs))
  where
    go : (b : Bool) → (if b then true else true) ≡ true
    go true = refl
    go false = refl

-- it is in a list if the library finds an element that is equal
pub is_in_any : (v : ℕ) (xs : List ℕ) → is_in v xs ≡ list_any (λ x. eqb x v) xs
unfolding is_in
is_in_any v [] = refl
is_in_any v (x ∷ xs) = go (eqb x v) (is_in_any v xs)
  where
    go : (b : Bool) → is_in v xs ≡ list_any (λ y. eqb y v) xs → (if b then true else is_in v xs) ≡ (b || list_any (λ y. eqb y v) xs)
    go true e = refl
    go false e = e

-- it is in a list if it stands at an index, and not if it stands at none
pub is_in_at : (v : ℕ) (xs : List ℕ) (i : ℕ) → i < length xs → get_or xs i 0 ≡ v → is_in v xs ≡ true
unfolding is_in
is_in_at v [] i l e = absurd (omega arith)
is_in_at v (x ∷ xs) zero l e = rw (eq-eqb x v e) refl
is_in_at v (x ∷ xs) (suc i) l e = go (eqb x v) (is_in_at v xs i (omega arith) e)
  where
    go : (b : Bool) → is_in v xs ≡ true → (if b then true else is_in v xs) ≡ true
    go true there = refl
    go false there = there

pub is_in_nowhere : (v : ℕ) (xs : List ℕ) → ((i : ℕ) → i < length xs → get_or xs i 0 ≡ v → ⊥) → is_in v xs ≡ false
unfolding is_in
is_in_nowhere v [] none = refl
is_in_nowhere v (x ∷ xs) none = rw (ne_eqb x v (none 0 (omega arith))) (is_in_nowhere v xs (λ i l. none (suc i) (omega arith)))

-- the entries in use, the first `count` of a table
module _ (ys : List ℕ) (count : ℕ) (long : count ≤ length ys) where
  pub used : length (take count ys) ≡ count
  used = length-take-le count ys long

-- a number stored behind the entries in use
pub pushed : (table : List ℕ) (count x : ℕ) → count < table_size → length table ≡ table_size → Pushed count x table (set table count x)
pushed table count x room sized = record { holds = rw add-one (take-suc-set table count x (omega arith)); sized = length-set table count x ∙ sized }

-- the entries behind the one at an index, moved up
pub moved_up : (t : List ℕ) (count index : ℕ) → index < count → count ≤ length t
    → take (count - 1) (copy_within t (index + 1) count index) ≡ without index (take count t)
moved_up t count index l long =
    let moved : List ℕ = take index t ++ take (count - (index + 1)) (drop (index + 1) t) in
    let long : length moved ≡ count - 1 = simp (length-append, length-take, length-drop) (omega arith) in
    take_at moved _ (count - 1) long ∙ sym (rest (count - (index + 1)) (omega arith))
  where
    rest : (n : ℕ) → index + 1 + n ≡ count → without index (take count t) ≡ take index t ++ take n (drop (index + 1) t)
    rest n e = rw (← e, take-take index (index + 1 + n) t (omega arith), ← (add-one index), drop-take (index + 1) n t)
