-- What the code keeps while it writes a log out of a log: which operations are kept, and which records are theirs. What is written can be
-- understood without this file.
use Rattle.std.specs.Prelude.{ℕ, ◌<◌, ◌≡◌, Bool, false, List, length, get_or}
use Rattle.record.specs.declared.record.Record.{Record}
use Rattle.reader.specs.Log.{max_records, readable, read_log}
use Rattle.history.specs.History.{History}
use Rattle.history.specs.Operations.{operation_at}
use Rattle.history.specs.Table.{tabled}
use Rattle.projection.specs.Projection.{keeps}

-- whether a mark is set
abbrev pub is_set : List Bool → ℕ → Bool
is_set marks i = get_or marks i false

-- the entries of a table as operations, where it does not matter how many it holds and where they end
abbrev pub entries_of : List ℕ → History
entries_of table = tabled max_records max_records table

-- whether an operation is kept, as its entry tells
abbrev pub keeps_in : List ℕ → List ℕ → List ℕ → ℕ → Bool
keeps_in table empties values o = keeps (entries_of table) empties values o

-- Of the first `count` operations of a table just those are marked that are kept.
pub record KeptAre (table : List ℕ) (count : ℕ) (empties values : List ℕ) (kept : List Bool) : Type 0 where
  pub sized : length kept ≡ max_records
  pub marked : (o : ℕ) → o < count → is_set kept o ≡ keeps_in table empties values o

-- The records of a readable log are marked as their operations are.
pub record MarksAre (log : List ℕ) (kept marks : List Bool) : Type 0 where
  pub sized : length marks ≡ max_records
  pub marked : (records : List Record) → read_log log ≡ readable records
      → (i : ℕ) → i < length records → is_set marks i ≡ is_set kept (operation_at records i)
