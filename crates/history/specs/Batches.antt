-- What the code keeps of a batch, the records of one tick, to find positions as it goes from record to record. What a position is can be understood
-- without this file.
use Rattle.std.specs.Prelude.{ℕ, ◌+◌, ◌≤◌, ◌<◌, ◌≡◌, ◌↔◌, List, length, take}
use Rattle.record.specs.declared.record.Record.{Record}
use Rattle.reader.specs.Log.{readable, read_log, operations}
use Rattle.reader.specs.Readable.{record_of}
use Rattle.history.specs.Positions.{position_of}
use Rattle.history.specs.Table.{Whole}
use Rattle.history.specs.Steps.{StepOf}
use Rattle.history.specs.declared.walk.Step.{Step}
use Rattle.history.specs.declared.batches.Batch.{Batch}
use Rattle.history.specs.declared.batches.Place.{Place}

-- The batch of record i.
pub record BatchOf (records : List Record) (i : ℕ) (b : Batch) : Type 0 where
  -- the records of lower ticks stand before its start, and those of its tick before its end
  pub start : ℕ
  pub starts : (j : ℕ) → j < length records → ((record_of records j).tick < (record_of records i).tick) ↔ (j < start)
  pub stops : (j : ℕ) → j < length records → ((record_of records j).tick ≤ (record_of records i).tick) ↔ (j < b.stop)
  pub within : b.stop ≤ length records
  -- what is not a call before its start is a return
  pub returns : b.returns + operations (take start records) ≡ start
  pub calls : b.calls ≡ operations (take b.stop records)

-- What is known of a record by a batch before it: it is in that batch, or begins another.
pub record Batched (records : List Record) (i : ℕ) (b : Batch) : Type 0 where
  pub inside : i < b.stop → BatchOf records i b
  pub begins : i < length records → b.stop ≤ i → (j : ℕ) → j < i → (record_of records j).tick < (record_of records i).tick

-- This step has come to a record of a readable log, and this is a batch before it.
pub record Beside (log : List ℕ) (step : Step) (end : ℕ) (before : Batch) : Type 0 where
  pub whole : Whole log end
  pub told : StepOf whole.records step
  pub batched : Batched whole.records step.index before

pub record BatchFound (log : List ℕ) (i : ℕ) (b : Batch) : Type 0 where
  pub found : (records : List Record) → read_log log ≡ readable records → BatchOf records i b

-- This is the position of record i, and what is known of the next one.
pub record PlaceFound (log : List ℕ) (i : ℕ) (p : Place) : Type 0 where
  pub at : (records : List Record) → read_log log ≡ readable records → position_of records i ≡ p.position
  pub batched : (records : List Record) → read_log log ≡ readable records → Batched records (i + 1) p.batch
