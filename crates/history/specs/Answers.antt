-- What tests answer.
use Rattle.std.specs.Prelude.{Bool, true, false}

-- The answer of a test of P.
abbrev pub Decides : Type 0 → Bool → Type 0
Decides P true = P
Decides P false = P → ⊥
