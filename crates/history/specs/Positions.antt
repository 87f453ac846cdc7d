-- Where the records of a log stand in time. Document 02, change 3: "records are taken by tick, within a tick the calls before the returns, else as
-- they stand".
use Rattle.std.specs.Prelude.{ℕ, zero, suc, ◌+◌, ◌-◌, ◌*◌, Bool, List, length, ltb, if◌then◌else◌}
use Rattle.record.specs.declared.record.Record.{Record}
use Rattle.reader.specs.Log.{is_call, max_records}
use Rattle.reader.specs.Readable.{record_of}

-- how many numbers below n pass a test
unfoldable pub tally : (ℕ → Bool) → ℕ → ℕ
tally test zero = 0
tally test (suc n) = tally test n + (if test n then 1 else 0)

-- a number that is lower for a record that is taken earlier: what counts is the tick, then whether it is a return, then the index
abbrev pub time_of : List Record → ℕ → ℕ
time_of records i = ((record_of records i).tick * 2 + (1 - is_call (record_of records i).event)) * max_records + i

-- the position of the record with an index: how many records are taken before it. Everything above knows positions by the laws of
-- proofs/Positions.antt alone.
unfoldable pub position_of : List Record → ℕ → ℕ
position_of records i = tally (λ j. ltb (time_of records j) (time_of records i)) (length records)

-- the end: a number above every position. The position below it is spare, since no record stands there: a remove that has not returned could come
-- back there, behind all that is logged.
abbrev pub end_of : List Record → ℕ
end_of records = length records + 1

-- the positions that a log may have: one for each record, and the spare one
abbrev pub max_positions : ℕ
max_positions = max_records + 1

-- the position of a return, or the end if there is none
abbrev pub return_position : List Record → ℕ → ℕ
return_position records i = if ltb i (length records) then position_of records i else end_of records
