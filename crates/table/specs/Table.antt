-- Tables of numbers. What they hold is said by the list of the entries in use.
use Rattle.std.specs.Prelude.{ℕ, suc, ◌+◌, ◌≤◌, ◌≡◌, Bool, true, false, List, [], ◌∷◌, ◌++◌, length, take, drop, eqb, if◌then◌else◌}

-- as many entries as a log may have records
abbrev pub table_size : ℕ
table_size = 1024

-- whether a number is in a list
unfoldable pub is_in : ℕ → List ℕ → Bool
is_in v [] = false
is_in v (x ∷ xs) = if eqb x v then true else is_in v xs

-- a list without what stands at an index
abbrev pub without : {A : Type 0} → ℕ → List A → List A
without k xs = take k xs ++ drop (suc k) xs

-- A table has its size, and the first `count` entries are in use.
pub record Fits (count : ℕ) (table : List ℕ) : Type 0 where
  pub within : count ≤ table_size
  pub sized : length table ≡ table_size

-- x stands behind the entries in use.
pub record Pushed (count x : ℕ) (table table' : List ℕ) : Type 0 where
  pub holds : take (count + 1) table' ≡ take count table ++ (x ∷ [])
  pub sized : length table' ≡ table_size
