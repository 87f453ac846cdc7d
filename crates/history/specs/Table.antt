-- What the code keeps of a history: a table of numbers, four for each operation. What a history is can be understood without this file.
use Rattle.std.specs.Prelude.{ℕ, ◌+◌, ◌*◌, ◌≤◌, ◌<◌, ◌≡◌, List, length, get_or, take}
use Rattle.record.specs.declared.record.Event.{Event}
use Rattle.record.specs.declared.record.Event.TheVariants.{CallRemove}
use Rattle.record.specs.declared.record.Record.{Record}
use Rattle.reader.specs.Log.{max_records, Reading, readable, refused, read_log, operations}
use Rattle.reader.specs.Readable.{record_of, Regular}
use Rattle.history.specs.History.{History}
use Rattle.history.specs.Positions.{max_positions, position_of, end_of}
use Rattle.history.specs.Operations.{call_index, return_index, kind_by, value_by, history_of}
use Rattle.history.specs.Steps.{StepOf}
use Rattle.history.specs.declared.walk.Step.{Step}

abbrev pub fields : ℕ
fields = 4

-- the entries of a table, four for each operation that a log may have
abbrev pub table_length : ℕ
table_length = 4096

-- the fields of an operation's entry
abbrev pub kind_at : List ℕ → ℕ → ℕ
kind_at table o = get_or table (o * fields + 0) 0

abbrev pub value_at : List ℕ → ℕ → ℕ
value_at table o = get_or table (o * fields + 1) 0

abbrev pub call_at : List ℕ → ℕ → ℕ
call_at table o = get_or table (o * fields + 2) 0

abbrev pub return_at : List ℕ → ℕ → ℕ
return_at table o = get_or table (o * fields + 3) 0

-- the history that a table holds, of so many operations and with this end
abbrev pub tabled : ℕ → ℕ → List ℕ → History
tabled count end table = record { count = count; kind = kind_at table; value = value_at table; call = call_at table; ret = return_at table; end = end }

-- Two histories agree on all that they tell of their operations.
pub record Agree (h k : History) : Type 0 where
  pub count : h.count ≡ k.count
  pub end : h.end ≡ k.end
  pub kind : (o : ℕ) → o < h.count → h.kind o ≡ k.kind o
  pub value : (o : ℕ) → o < h.count → h.value o ≡ k.value o
  pub call : (o : ℕ) → o < h.count → h.call o ≡ k.call o
  pub ret : (o : ℕ) → o < h.count → h.ret o ≡ k.ret o

-- The entries from operation `count` on are as they were.
abbrev pub Untouched : ℕ → List ℕ → List ℕ → Type 0
Untouched count before after = (o f : ℕ) → count ≤ o → f < fields → get_or after (o * fields + f) 0 ≡ get_or before (o * fields + f) 0

-- The table holds the history of these records, and nothing else of it has changed.
pub record HistoryHeld (records : List Record) (before after : List ℕ) : Type 0 where
  pub sized : length after ≡ table_length
  pub agree : Agree (tabled (operations records) (end_of records) after) (history_of records)
  pub untouched : Untouched (operations records) before after

-- the table after a log was read: it holds its history, or is as it was if the log is refused
abbrev pub Tabulated : Reading → List ℕ → List ℕ → Type 0
Tabulated (readable records) before after = HistoryHeld records before after
Tabulated (refused refusal index) before after = after ≡ before

-- Operation o has this entry.
pub record Entry (table : List ℕ) (o kind value call ret : ℕ) : Type 0 where
  pub kind_is : kind_at table o ≡ kind
  pub value_is : value_at table o ≡ value
  pub call_is : call_at table o ≡ call
  pub ret_is : return_at table o ≡ ret

-- Operation o has this entry now, and the others are as they were.
pub record Entered (table : List ℕ) (o kind value call ret : ℕ) (table' : List ℕ) : Type 0 where
  pub entry : Entry table' o kind value call ret
  pub others : (p f : ℕ) → f < fields → (p ≡ o → ⊥) → get_or table' (p * fields + f) 0 ≡ get_or table (p * fields + f) 0
  pub sized : length table' ≡ length table

-- The entry of operation o, with what this event of its return says and this position of it. Where there is no return yet, the event is
-- a call of remove, which says nothing of one.
abbrev pub Told : List Record → List ℕ → ℕ → Event → ℕ → Type 0
Told records table o return ret =
    Entry table o
    (kind_by (record_of records (call_index records o)).event return)
    (value_by (record_of records (call_index records o)).event return)
    (position_of records (call_index records o))
    ret

-- The table holds what the first n records say: of each operation called by then its kind, its value and its return if it has returned by then,
-- and otherwise what its call alone says.
pub record Filled (records : List Record) (old : List ℕ) (n : ℕ) (table : List ℕ) : Type 0 where
  pub table_sized : length table ≡ table_length
  pub untouched : Untouched (operations (take n records)) old table
  pub returned : (o : ℕ) → o < operations (take n records) → return_index records (call_index records o) < n
      → Told records table o (record_of records (return_index records (call_index records o))).event
      (position_of records (return_index records (call_index records o)))
  pub pending : (o : ℕ) → o < operations (take n records) → n ≤ return_index records (call_index records o) → Told records table o CallRemove (end_of records)

-- There is room for what a step tells.
pub record Room (step : Step) (end : ℕ) (table : List ℕ) : Type 0 where
  pub end_small : end ≤ max_positions
  pub owner_small : step.operation < max_records
  pub table_sized : length table ≡ table_length

-- The table holds one record more, that of this step, which stands at this position.
pub record Noted (step : Step) (at end : ℕ) (table table' : List ℕ) : Type 0 where
  pub kept : (records : List Record) (old : List ℕ) → Regular records → end_of records ≡ end
      → StepOf records step → position_of records step.index ≡ at
      → Filled records old step.index table → Filled records old (step.index + 1) table'

-- A log that is readable, of so many records.
pub record Whole (log : List ℕ) (count : ℕ) : Type 0 where
  pub records : List Record
  pub reads : read_log log ≡ readable records
  pub counted : length records ≡ count

-- The table holds the operations of a readable log.
pub record TableOf (log : List ℕ) (size count : ℕ) (table : List ℕ) : Type 0 where
  -- the log is readable, and has so many records
  pub whole : Whole log size
  -- they call so many operations
  pub counted : operations whole.records ≡ count
  -- which the table holds
  pub agree : Agree (tabled count (size + 1) table) (history_of whole.records)
