-- What the code keeps of the operations that a pattern lists: their values, in a table. What is written can be understood without this file.
use Rattle.std.specs.Prelude.{ℕ, ◌+◌, ◌≤◌, ◌<◌, ◌≡◌, List, [], ◌∷◌, ◌++◌, length, get_or, take}
use Rattle.reader.specs.Log.{max_records}
use Rattle.projection.specs.Projection.{values_of}
use Rattle.projection.specs.Marks.{entries_of}

-- Operations are listed that a table may hold, and no more of them than it may hold.
pub record Listable (listed : List ℕ) : Type 0 where
  pub few : length listed ≤ max_records
  pub small : (i : ℕ) → i < length listed → get_or listed i 0 < max_records

-- The value of operation o, if it has one, stands behind the first `count` values.
pub record ValueAdded (table : List ℕ) (o count : ℕ) (values : List ℕ) (count' : ℕ) (values' : List ℕ) : Type 0 where
  pub few : count' ≤ count + 1
  pub sized : length values' ≡ max_records
  pub holds : take count' values' ≡ take count values ++ values_of (entries_of table) (o ∷ [])

-- The first `count` values are those of the listed operations.
pub record ValuesAre (table listed : List ℕ) (count : ℕ) (values : List ℕ) : Type 0 where
  pub few : count ≤ length listed
  pub sized : length values ≡ max_records
  pub holds : take count values ≡ values_of (entries_of table) listed
