-- What a search below a bound answers if it finds nothing.
use Rattle.std.specs.Prelude.{ℕ, ◌<◌}

-- no number below the bound has the property
abbrev pub None : (ℕ → Type 0) → ℕ → Type 0
None P n = (m : ℕ) → m < n → P m → ⊥
