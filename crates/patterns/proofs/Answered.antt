-- What is searched for is found where it is there.
use Prim.Native.Nat.{ℕ, ◌<◌}
use mathlib.Core.Path.{refl}
use Rattle.std.specs.Prelude.{Option, Some, None}
use Rattle.std.specs.Option.{IsSome}
use Rattle.matching.specs.Answers.{FirstIn}
use Rattle.patterns.specs.Pattern.{Listed}

-- a number that has the property is there
pub found_some : (P : ℕ → Type 0) {count m : ℕ} (found : Option ℕ) → FirstIn P count found → m < count → P m → IsSome found
found_some P (Some r) first l p = refl
found_some P None first l p = absurd (first.none_lower _ l p)

-- there is something to be listed
pub listed_some : (P : ℕ → Type 0) (listed : Option ℕ) → Listed P listed → (P 0 → ⊥) → IsSome listed
listed_some P (Some k) lists none = refl
listed_some P None lists none = absurd (none lists)
