-- Laws of lists of operations: what stands in them, also when they grow at the back or at the front.
use Prim.Native.Nat.{ℕ, zero, suc, ◌+◌, ◌<◌}
use native.Mathlib.Omega.{arith}
use native.Mathlib.Decide.{dec_lt}
use mathlib.Core.Path.{◌≡◌, refl, sym, ap, ◌∙◌}
use mathlib.Core.Logic.{◌⊎◌, inl, inr}
use mathlib.Core.List.{List, [], ◌∷◌, ◌++◌}
use lib.ListN.{length, length-append, get_or-append}
use lib.Seq.{get_or-append_seam}
use Rattle.history.specs.Each.{Each}
use Rattle.history.specs.Linearization.{placed, Listed}

pub listed_none : {o : ℕ} → Listed [] o → ⊥
listed_none l = omega (arith, l.below)

module _ (xs : List ℕ) (o : ℕ) where
  -- one more
  abbrev pub snoc : List ℕ
  snoc = xs ++ (o ∷ [])

  longer : length snoc ≡ length xs + 1
  longer = length-append xs (o ∷ [])

  old_at : (i : ℕ) → i < length xs → placed snoc i ≡ placed xs i
  old_at i l = get_or-append xs (o ∷ []) 0 i l

  new_at : placed snoc (length xs) ≡ o
  new_at = get_or-append_seam xs o [] 0

  pub listed_old : {p : ℕ} → Listed xs p → Listed snoc p
  listed_old l = record { at = l.at; below = omega (arith, l.below, longer); here = old_at l.at l.below ∙ l.here }

  pub listed_new : Listed snoc o
  listed_new = record { at = length xs; below = omega (arith, longer); here = new_at }

  pub listed_either : {p : ℕ} → Listed snoc p → Listed xs p ⊎ (o ≡ p)
  listed_either {p} l = go (dec_lt l.at (length xs))
    where
      go : Dec (l.at < length xs) → Listed xs p ⊎ (o ≡ p)
      go (yes b) = inl (record { at = l.at; below = b; here = sym (old_at l.at b) ∙ l.here })
      go (no b) = let last : l.at ≡ length xs = omega (arith, l.below, longer) in inr (sym new_at ∙ ap (placed snoc) (sym last) ∙ l.here)

  -- what holds of each holds of each of one more, if it holds of that one; the same for each pair, in order
  pub each_snoc : (P : ℕ → Type 0) → ((i : ℕ) → i < length xs → P (placed xs i)) → P o → (i : ℕ) → i < length snoc → P (placed snoc i)
  each_snoc P old new i l = go (dec_lt i (length xs))
    where
      go : Dec (i < length xs) → P (placed snoc i)
      go (yes b) = rw (old_at i b) (old i b)
      go (no b) = let last : i ≡ length xs = omega (arith, longer) in rw (last, new_at) new

  pub pairs_snoc : (R : ℕ → ℕ → Type 0) → ((i j : ℕ) → i < j → j < length xs → R (placed xs i) (placed xs j)) → ((i : ℕ) → i < length xs → R (placed xs i) o)
      → (i j : ℕ) → i < j → j < length snoc → R (placed snoc i) (placed snoc j)
  pairs_snoc R old new i j l m = go (dec_lt j (length xs))
    where
      go : Dec (j < length xs) → R (placed snoc i) (placed snoc j)
      go (yes b) = rw (old_at i (omega arith), old_at j b) (old i j l b)
      go (no b) = let last : j ≡ length xs = omega (arith, longer) in rw (last, new_at, old_at i (omega arith)) (new i (omega arith))

-- the first stands in the list
pub listed_here : (x : ℕ) (xs : List ℕ) → Listed (x ∷ xs) x
listed_here x xs = record { at = 0; below = omega arith; here = refl }

-- what stands behind the first stands in the list, and what stands in it is the first or stands behind
pub listed_behind : (x : ℕ) (xs : List ℕ) {p : ℕ} → Listed xs p → Listed (x ∷ xs) p
listed_behind x xs l = record { at = suc l.at; below = omega (arith, l.below); here = l.here }

pub listed_first : (x : ℕ) (xs : List ℕ) {p : ℕ} → Listed (x ∷ xs) p → (x ≡ p) ⊎ Listed xs p
listed_first x xs {p} l = go l.at l.below l.here
  where
    go : (i : ℕ) → i < length (x ∷ xs) → placed (x ∷ xs) i ≡ p → (x ≡ p) ⊎ Listed xs p
    go zero below here = inl here
    go (suc i) below here = inr (record { at = i; below = omega arith; here = here })

-- What follows from a property for each follows for each of a list.
pub each_map : {A : Type 0} {P Q : A → Type 0} → ((x : A) → P x → Q x) → (xs : List A) → Each P xs → Each Q xs
each_map f [] e = tt
each_map f (x ∷ xs) e = (f x e.0, each_map f xs e.1)
