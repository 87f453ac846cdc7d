-- The operations that the records of a log tell of. Document 01, "The log": "Operations are numbered from 0 in the order of
-- their call records."
use Rattle.std.specs.Prelude.{ℕ, zero, suc, ◌+◌, ◌-◌, ◌<◌, List, [], ◌∷◌, length, drop, ltb, eqb, if◌then◌else◌}
use Rattle.record.specs.Record.{value_in}
use Rattle.record.specs.declared.record.Removed.TheVariants.{Value, Empty}
use Rattle.record.specs.declared.record.Event.{Event}
use Rattle.record.specs.declared.record.Event.TheVariants.{CallAdd, CallRemove, ReturnAdd, ReturnRemove}
use Rattle.record.specs.declared.record.Record.{Record}
use Rattle.reader.specs.Log.{is_call, operations}
use Rattle.reader.specs.Readable.{record_of}
use Rattle.history.specs.Positions.{position_of, end_of, return_position}
use Rattle.history.specs.History.{History, add, remove, empty_remove, no_kind}

-- the index of the call record of operation o
unfoldable pub call_index : List Record → ℕ → ℕ
call_index [] o = 0
call_index (r ∷ records) o = if ltb o (is_call r.event) then 0 else suc (call_index records (o - is_call r.event))

-- the index of the first record of a client, or the number of records if there is none
unfoldable pub first_of : ℕ → List Record → ℕ
first_of client [] = 0
first_of client (r ∷ records) = if eqb r.client client then 0 else suc (first_of client records)

-- the index of the return of the call at index i: the next record of its client, or the number of records if there is none
abbrev pub return_index : List Record → ℕ → ℕ
return_index records i = i + 1 + first_of (record_of records i).client (drop (i + 1) records)

-- the kind of a remove, by the event of its return; a remove without return has none
abbrev pub remove_kind : Event → ℕ
remove_kind (CallAdd v) = no_kind
remove_kind CallRemove = no_kind
remove_kind ReturnAdd = no_kind
remove_kind (ReturnRemove (Value v)) = remove
remove_kind (ReturnRemove Empty) = empty_remove

-- the kind and the value of an operation, by the events of its call and of its return
abbrev pub kind_by : Event → Event → ℕ
kind_by (CallAdd v) return = add
kind_by CallRemove return = remove_kind return
kind_by ReturnAdd return = no_kind
kind_by (ReturnRemove x) return = no_kind

abbrev pub value_by : Event → Event → ℕ
value_by (CallAdd v) return = v
value_by CallRemove return = value_in return
value_by ReturnAdd return = 0
value_by (ReturnRemove x) return = 0

-- the history of a log with these records
abbrev pub history_of : List Record → History
history_of records = record {
  count = operations records;
  kind = λ o. kind_by (record_of records (call_index records o)).event (record_of records (return_index records (call_index records o))).event;
  value = λ o. value_by (record_of records (call_index records o)).event (record_of records (return_index records (call_index records o))).event;
  call = λ o. position_of records (call_index records o);
  ret = λ o. return_position records (return_index records (call_index records o));
  end = end_of records;
}

-- Document 02, change 3: "an operation precedes another exactly if its return's tick is lower than the other's call's tick". So it is said of the
-- records of a log, and `precedes_by_ticks` in proofs/Laws.antt says that it is `Precedes`. An operation without return precedes none.
pub record PrecedesByTicks (records : List Record) (o p : ℕ) : Type 0 where
  pub returned : return_index records (call_index records o) < length records
  pub lower : (record_of records (return_index records (call_index records o))).tick < (record_of records (call_index records p)).tick

-- the operation that a client called last, by the records of the past, latest first: its call has as many calls before it as its
-- number says
unfoldable pub latest_of : List Record → ℕ → ℕ
latest_of [] client = 0
latest_of (r ∷ past) client =
    if eqb (is_call r.event) 0 then latest_of past client else
    if eqb r.client client then operations past else
    latest_of past client

-- the operation of a record: a call's own, and the one that a return ends, its client's latest
abbrev pub operation_of : List Record → Record → ℕ
operation_of past r = latest_of (r ∷ past) r.client

-- the operation of the record with an index among those that follow the past
unfoldable pub operation_from : List Record → List Record → ℕ → ℕ
operation_from past [] i = 0
operation_from past (r ∷ records) zero = operation_of past r
operation_from past (r ∷ records) (suc i) = operation_from (r ∷ past) records i

-- the operation of the record with an index
abbrev pub operation_at : List Record → ℕ → ℕ
operation_at records i = operation_from [] records i
