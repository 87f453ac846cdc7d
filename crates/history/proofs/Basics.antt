-- Laws of numbers that more than one crate asks for.
use Prim.Native.Nat.{ℕ, ◌+◌, ◌<◌}
use native.Mathlib.Omega.{arith}
use native.Mathlib.Decide.{dec_lt}
use mathlib.Core.Path.{◌≡◌, refl}
use mathlib.Core.Bool.{Bool, true, false}
use mir.Val.{bool_byte}
use Rattle.std.specs.Prelude.{if◌then◌else◌}

-- what holds of all numbers below one, and of that one, holds of all numbers up to it
pub up_to : {P : ℕ → Type 0} {n : ℕ} → ((i : ℕ) → i < n → P i) → P n → (i : ℕ) → i < n + 1 → P i
up_to {P} {n} below new i h = go (dec_lt i n)
  where
    go : Dec (i < n) → P i
    go (yes l) = below i l
    go (no l) = let e : i ≡ n = omega arith in rw e new

-- a bool as a number
pub counts : (b : Bool) → (if b then 1 else 0) ≡ bool_byte b
counts true = refl
counts false = refl
