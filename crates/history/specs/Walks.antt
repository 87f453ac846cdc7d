-- What a walk along the records of a readable log keeps, and what it does. What a step tells of a record is said in Steps.
use Rattle.std.specs.Prelude.{ℕ, ◌+◌, ◌≤◌, ◌<◌, ◌≡◌, List, Option, Some, None, length}
use Rattle.record.specs.declared.record.Record.{Record}
use Rattle.reader.specs.Log.{max_records, readable, read_log}
use Rattle.reader.specs.Readable.{offset_of, ReadableLog}
use Rattle.history.specs.Owners.{Traced}
use Rattle.history.specs.Table.{Whole}
use Rattle.history.specs.Steps.{StepOf}
use Rattle.history.specs.declared.walk.Step.{Step}
use Rattle.history.specs.declared.walk.Walk.{Walk}

-- One that goes along the records of a log has come to record i.
pub record Along (log : List ℕ) (records : List Record) (at i : ℕ) : Type 0 where
  -- the log is readable, and these are its records
  pub readable : ReadableLog log records
  -- it has come no further than their end
  pub within : i ≤ length records
  -- record i stands at this offset
  pub stands : at ≡ offset_of records i

-- A walk has come to the record with its index.
pub record Walking (walk : Walk) : Type 0 where
  -- of a readable log, which stands at its offset
  pub whole : Whole walk.log.now walk.records
  pub along : Along walk.log.now whole.records walk.at walk.index
  -- the callers in the records before it are noted
  pub traced : Traced whole.records walk.index walk.callers

-- A walk stands before the first of a log's records, of which there are so many.
pub record Begun (log : List ℕ) (records : ℕ) (walk : Walk) : Type 0 where
  pub log_is : walk.log.now ≡ log
  pub records_are : walk.records ≡ records
  pub first : walk.index ≡ 0
  pub walking : Walking walk

-- A walk has come from a record to the next.
pub record Stepped (before : Walk) (step : Step) (after : Walk) : Type 0 where
  pub log_is : after.log ≡ before.log
  pub records_are : after.records ≡ before.records
  pub index_is : step.index ≡ before.index
  pub next_is : after.index ≡ before.index + 1
  pub walking : Walking after
  pub within : before.index < before.records
  -- the record and its operation are within the tables
  pub index_small : step.index < max_records
  pub owner_small : step.operation < max_records
  pub told : (records : List Record) → read_log before.log.now ≡ readable records → StepOf records step

-- It has done so, or there was none.
abbrev pub Walked : Walk → Option Step → Walk → Type 0
Walked before (Some step) after = Stepped before step after
Walked before None after = (after ≡ before) × (before.records ≤ before.index)
