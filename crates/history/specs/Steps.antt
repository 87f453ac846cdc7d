-- What a step of a walk along the records of a log tells.
use Rattle.std.specs.Prelude.{◌+◌, ◌<◌, ◌≡◌, List, length, take}
use Rattle.record.specs.declared.record.Record.{Record}
use Rattle.reader.specs.Log.{operations}
use Rattle.reader.specs.Readable.{record_of, offset_of}
use Rattle.history.specs.Operations.{operation_at}
use Rattle.history.specs.declared.walk.Step.{Step}

-- The step has come to a record of these.
pub record StepOf (records : List Record) (step : Step) : Type 0 where
  pub there : step.index < length records
  pub here : record_of records step.index ≡ step.record
  -- the next one stands at this offset
  pub stands : step.next ≡ offset_of records (step.index + 1)
  -- so many operations are called before it
  pub counted : step.called ≡ operations (take step.index records)
  -- and this is its operation
  pub owner : step.operation ≡ operation_at records step.index
