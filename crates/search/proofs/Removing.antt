-- A list without what stands at an index.
use Prim.Native.Nat.{ℕ, suc, ◌+◌, ◌-◌, ◌≤◌, ◌<◌}
use native.Mathlib.Omega.{arith}
use native.Mathlib.Decide.{dec_lt}
use mathlib.Core.Path.{◌≡◌, sym, ap, ◌∙◌}
use mathlib.Core.List.{List}
use lib.ListN.{length, take, drop, length-append, length-drop, get_or-append}
use lib.Seq.{length-take-le, get_or-take, get_or-drop, get_or-append-add}
use Rattle.table.specs.Table.{without}
use Rattle.history.specs.Linearization.{placed, Listed}

module _ (xs : List ℕ) (k : ℕ) (inside : k < length xs) where
  taken : length (take k xs) ≡ k
  taken = length-take-le k xs (omega arith)

  pub length_without : length (without k xs) + 1 ≡ length xs
  length_without = omega (arith, length-append (take k xs) (drop (suc k) xs), taken, length-drop (suc k) xs)

  -- what stands before the index stays, what stands behind it moves up
  without_before : (j : ℕ) → j < k → placed (without k xs) j ≡ placed xs j
  without_before j l = get_or-append (take k xs) (drop (suc k) xs) 0 j (omega (arith, taken)) ∙ get_or-take k xs j 0 l

  without_behind : (j : ℕ) → k ≤ j → placed (without k xs) j ≡ placed xs (j + 1)
  without_behind j l =
      let split : length (take k xs) + (j - k) ≡ j = omega (arith, taken) in
      let moved : suc k + (j - k) ≡ j + 1 = omega arith in
      ap (placed (without k xs)) (sym split) ∙ get_or-append-add (take k xs) (drop (suc k) xs) (j - k) 0 ∙ get_or-drop (suc k) xs (j - k) 0 ∙ ap (placed xs) moved

  -- where an element that is left stood
  record Stood (j : ℕ) : Type 0 where
    at : ℕ
    below : at < length xs
    other : at ≡ k → ⊥
    same : placed (without k xs) j ≡ placed xs at

  stood : (j : ℕ) → j < length (without k xs) → Stood j
  stood j l = go (dec_lt j k)
    where
      go : Dec (j < k) → Stood j
      go (yes m) = record { at = j; below = omega arith; other = λ e. omega arith; same = without_before j m }
      go (no m) = record { at = j + 1; below = omega (arith, length_without); other = λ e. omega arith; same = without_behind j (omega arith) }

  -- what is left was in the list, at another index
  pub without_was : {o : ℕ} → Listed (without k xs) o → (i : ℕ) × (i < length xs) × (i ≡ k → ⊥) × (placed xs i ≡ o)
  without_was l = let s = stood l.at l.below in (s.at, s.below, s.other, sym s.same ∙ l.here)

  -- and all that is at another index is left
  pub without_keeps : (i : ℕ) → i < length xs → (i ≡ k → ⊥) → Listed (without k xs) (placed xs i)
  without_keeps i l other = go (dec_lt i k)
    where
      go : Dec (i < k) → Listed (without k xs) (placed xs i)
      go (yes m) = record { at = i; below = omega (arith, length_without); here = without_before i m }
      go (no m) = let back : i - 1 + 1 ≡ i = omega arith in record { at = i - 1; below = omega (arith, length_without); here = without_behind (i - 1) (omega arith) ∙ ap (placed xs) back }

  -- a list that rises still does
  pub without_rises : ((i j : ℕ) → i < j → j < length xs → placed xs i < placed xs j) → (i j : ℕ) → i < j → j < length (without k xs) → placed (without k xs) i < placed (without k xs) j
  without_rises rise i j l m = go (dec_lt i k) (dec_lt j k)
    where
      go : Dec (i < k) → Dec (j < k) → placed (without k xs) i < placed (without k xs) j
      go (yes a) (yes b) = omega (arith, without_before i a, without_before j b, rise i j l (omega arith))
      go (yes a) (no b) = omega (arith, without_before i a, without_behind j (omega arith), rise i (j + 1) (omega arith) (omega (arith, length_without)))
      go (no a) (yes b) = absurd (omega arith)
      go (no a) (no b) = omega (arith, without_behind i (omega arith), without_behind j (omega arith), rise (i + 1) (j + 1) (omega arith) (omega (arith, length_without)))
