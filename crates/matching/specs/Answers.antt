-- What searches answer.
use Rattle.std.specs.Prelude.{ℕ, ◌≤◌, ◌<◌, ◌≡◌, ◌⊎◌, Option, Some, None}

-- r is the lowest number below `count` that has a property, or `count` if none has.
pub record First (P : ℕ → Type 0) (count r : ℕ) : Type 0 where
  pub within : r ≤ count
  pub holds : r < count → P r
  pub none_lower : (m : ℕ) → m < r → P m → ⊥

-- the lowest number below `count` that has a property, if one has
abbrev pub FirstIn : (ℕ → Type 0) → ℕ → Option ℕ → Type 0
FirstIn P count (Some r) = (r < count) × First P count r
FirstIn P count None = First P count count

-- x is the least value of f over the numbers from n on, below `count`, or `none` if no value is below that.
pub record LeastFrom (f : ℕ → ℕ) (none count n x : ℕ) : Type 0 where
  pub within : x ≤ none
  pub below : (o : ℕ) → n ≤ o → o < count → x ≤ f o
  pub met : (x ≡ none) ⊎ ((o : ℕ) × (n ≤ o) × (o < count) × (f o ≡ x))
