-- Lists that are compared number by number.
use Prim.Native.Nat.{ℕ, ◌≤◌}
use native.Mathlib.Omega.{arith}
use mathlib.Core.Path.{◌≡◌}
use mathlib.Core.List.{List, ◌∷◌}
use Rattle.violations.specs.Verdict.{Lower, here, further}

-- a list is not lower than another if its first number is not and, where they begin with the same, its rest is not
pub not_lower : {x y : ℕ} {xs ys : List ℕ} → y ≤ x → (x ≡ y → Lower xs ys → ⊥) → Lower (x ∷ xs) (y ∷ ys) → ⊥
not_lower first rest (here l) = omega arith
not_lower first rest (further e l) = rest e l
