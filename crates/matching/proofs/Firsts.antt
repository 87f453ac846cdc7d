-- The lowest number that has a property: how it is searched for.
use Prim.Native.Nat.{ℕ, ◌+◌, ◌≤◌, ◌<◌}
use native.Mathlib.Omega.{arith}
use mathlib.Core.Path.{◌≡◌}
use Rattle.history.proofs.Basics.{up_to}
use Rattle.matching.specs.Answers.{First}

-- No number below r has the property.
pub record Unfound (P : ℕ → Type 0) (count r : ℕ) : Type 0 where
  pub within : r ≤ count
  pub none_lower : (m : ℕ) → m < r → P m → ⊥

-- the search begins
pub first_starts : {P : ℕ → Type 0} (count : ℕ) → Unfound P count 0
first_starts count = record { within = omega arith; none_lower = λ m l. absurd (omega arith) }

module _ {P : ℕ → Type 0} {count r : ℕ} (unfound : Unfound P count r) where
  -- nor has r, so the search goes on
  pub first_more : r < count → (P r → ⊥) → Unfound P count (r + 1)
  first_more l n = record { within = omega arith; none_lower = up_to {P = λ m. P m → ⊥} unfound.none_lower n }

  -- r has it
  pub first_found : P r → First P count r
  first_found p = record { within = unfound.within; holds = λ l. p; none_lower = unfound.none_lower }

  -- none has it
  pub first_none : count ≤ r → First P count count
  first_none l = record { within = omega arith; holds = λ m. absurd (omega arith); none_lower = λ m b. unfound.none_lower m (omega arith) }

-- if the first number is the bound, no number below the bound has the property
pub none_found : {P : ℕ → Type 0} {count r : ℕ} → First P count r → r ≡ count → (m : ℕ) → m < count → P m → ⊥
none_found f e m l p = f.none_lower m (omega arith) p

-- the first number is not above any that has the property
pub first_not_above : {P : ℕ → Type 0} {count r m : ℕ} → First P count r → P m → r ≤ m
first_not_above {r = r} {m = m} f p = let none : m < r → ⊥ = λ l. f.none_lower m l p in omega arith
