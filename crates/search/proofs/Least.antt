-- The least of what a function makes of the numbers in a list, found by going along the list.
use Prim.Native.Nat.{ℕ, zero, suc, ◌+◌, ◌≤◌, ◌<◌}
use native.Mathlib.Omega.{arith}
use native.Mathlib.Decide.{dec_lt}
use native.Mathlib.Numerals.{add-one}
use mathlib.Core.Path.{◌≡◌, refl, sym, ap, ◌∙◌}
use mathlib.Core.Logic.{◌⊎◌, inl, inr}
use mathlib.Core.List.{List, []}
use lib.ListN.{length, get_or, take}
use lib.Seq.{take-suc}
use Rattle.history.specs.Linearization.{Listed}
use Rattle.violations.proofs.Lists.{snoc, listed_none, listed_old, listed_new, listed_either}
use Rattle.search.specs.Searching.{LeastOf}

pub least_none : (f : ℕ → ℕ) (base : ℕ) → LeastOf f base [] base
least_none f base = record { within = omega arith; below = λ o at. absurd (listed_none at); met = inl refl }

pub least_more : {f : ℕ → ℕ} {base x y o : ℕ} (numbers : List ℕ) → LeastOf f base numbers x → (y ≤ x) × (y ≤ f o) × ((y ≡ x) ⊎ (y ≡ f o)) → LeastOf f base (snoc numbers o) y
least_more {f} {base} {x} {y} {o} numbers least (under, own, one) = record { within = omega (arith, least.within); below = λ p at. below p (listed_either numbers o at); met = met one least.met }
  where
    below : (p : ℕ) → Listed numbers p ⊎ (o ≡ p) → y ≤ f p
    below p (inl old) = omega (arith, least.below p old)
    below p (inr e) = omega (arith, ap f e)

    met : (y ≡ x) ⊎ (y ≡ f o) → (x ≡ base) ⊎ ((p : ℕ) × Listed numbers p × (f p ≡ x)) → (y ≡ base) ⊎ ((p : ℕ) × Listed (snoc numbers o) p × (f p ≡ y))
    met (inr e) m = inr (o, listed_new numbers o, sym e)
    met (inl e) (inl b) = inl (e ∙ b)
    met (inl e) (inr (p, at, b)) = inr (p, listed_old numbers o at, b ∙ sym e)

-- there is a least for the first numbers of a table
pub least_of : (f : ℕ → ℕ) (base : ℕ) (table : List ℕ) (i : ℕ) → i ≤ length table → (x : ℕ) × LeastOf f base (take i table) x
least_of f base table zero l = (base, least_none f base)
least_of f base table (suc i) l = go (least_of f base table i (omega arith))
  where
    go : (x : ℕ) × LeastOf f base (take i table) x → (y : ℕ) × LeastOf f base (take (suc i) table) y
    go (x, least) = by (dec_lt x (f (get_or table i 0)))
      where
        by : Dec (x < f (get_or table i 0)) → (y : ℕ) × LeastOf f base (take (suc i) table) y
        by (yes b) = (x, rw (take-suc table i 0 l) (least_more (take i table) least (omega arith, omega arith, inl refl)))
        by (no b) = (f (get_or table i 0), rw (take-suc table i 0 l) (least_more (take i table) least (omega arith, omega arith, inr refl)))

-- the same along a table
pub least_next : {f : ℕ → ℕ} {base x y : ℕ} (table : List ℕ) (i : ℕ) → i < length table → LeastOf f base (take i table) x
    → (y ≤ x) × (y ≤ f (get_or table i 0)) × ((y ≡ x) ⊎ (y ≡ f (get_or table i 0))) → LeastOf f base (take (i + 1) table) y
least_next table i l least one = rw (add-one, take-suc table i 0 l) (least_more (take i table) least one)
