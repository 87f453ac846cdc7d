-- Answers of tests.
use Prim.Native.Nat.{ℕ, ◌<◌}
use native.Mathlib.Omega.{arith}
use mathlib.Core.Path.{◌≡◌, refl}
use mathlib.Core.Bool.{Bool, true, false}
use lib.Dec.{ltb, eqb}
use borrow.Author.Tests.{ltb-true, lt-ltb, eqb-true, eq-eqb}
use Rattle.history.specs.Answers.{Decides}

-- a test that says yes just if P holds
pub decided : {P : Type 0} (answer : Bool) → (answer ≡ true → P) → (P → answer ≡ true) → Decides P answer
decided true sound complete = sound refl
decided false sound complete = λ p. let e : false ≡ true = complete p in let z : ◌≡◌ {A = ℕ} 0 1 = cc in omega arith

-- the answer of a comparison
pub decided_less : {P : Type 0} (x y : ℕ) → (x < y → P) → (P → x < y) → Decides P (ltb x y)
decided_less x y sound complete = decided (ltb x y) (λ e. sound (ltb-true x y e)) (λ p. lt-ltb x y (complete p))

pub decided_equal : {P : Type 0} (x y : ℕ) → (x ≡ y → P) → (P → x ≡ y) → Decides P (eqb x y)
decided_equal x y sound complete = decided (eqb x y) (λ e. sound (eqb-true x y e)) (λ p. eq-eqb x y (complete p))
