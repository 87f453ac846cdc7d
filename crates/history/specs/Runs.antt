-- Document 01, "Runs": "A7( calls add of 7, A7) returns it; R( calls remove, R7) and R-) return it. Ticks rise by one; each
-- operation has a client of its own." What a table of runs is, and tables of lists that are legal orders of a run and of lists that
-- are not: of a queue, of a queue with a remove that does not return, of a cell, and of a queue with equal ticks. The runs that the
-- document marks * are a table of the crate violations, which knows the patterns.
use Rattle.std.specs.Prelude.{ℕ, suc, ◌+◌, ◌≡◌, List, [], ◌∷◌, length}
use Rattle.record.specs.declared.record.Removed.TheVariants.{Value, Empty}
use Rattle.record.specs.declared.record.Event.{Event}
use Rattle.record.specs.declared.record.Event.TheVariants.{CallAdd, CallRemove, ReturnAdd, ReturnRemove}
use Rattle.record.specs.declared.record.Record.{Record}
use Rattle.reader.specs.Log.{readable, read_log, encode_log}
use Rattle.history.specs.Each.{Each}
use Rattle.history.specs.History.{History}
use Rattle.history.specs.Object.{Object, Queue}
use Rattle.history.specs.Linearization.{Linearization}
use Rattle.history.specs.Positions.{position_of}
use Rattle.history.specs.Operations.{history_of}

-- a run: its events, each with its client, which is the number of its operation
abbrev pub Run : Type 0
Run = List (ℕ × Event)

-- the records of a run, from a tick on
unfoldable pub records_from : ℕ → Run → List Record
records_from tick [] = []
records_from tick (e ∷ run) = record { client = e.0; tick = tick; event = e.1 } ∷ records_from (tick + 1) run

abbrev pub records_of : Run → List Record
records_of run = records_from 1 run

-- A row of a table: a run, and what is said of it.
pub record Row (A : Type 0) : Type 0 where
  pub run : Run
  pub says : A

-- What the row says is right for the history of its run's records. (No log is read yet as one of a cell.)
abbrev pub Correct : {A : Type 0} → (History → A → Type 0) → Row A → Type 0
Correct Right row = Right (history_of (records_of row.run)) row.says

-- It is, and the log of the run is read as those records.
pub record Holds {A : Type 0} (Right : History → A → Type 0) (row : Row A) : Type 0 where
  pub read : read_log (encode_log (records_of row.run)) ≡ readable (records_of row.run)
  pub right : Correct Right row

-- All of the lists are legal orders of a history.
abbrev pub AllLegal : Object → History → List (List ℕ) → Type 0
AllLegal object h lists = Each (Linearization object h) lists

abbrev pub linearizations : List (Row (List (List ℕ)))
linearizations =
    -- A1(: an open add may be left out or listed
    record { run = (0, CallAdd 1) ∷ []; says = [] ∷ (0 ∷ []) ∷ [] } ∷
    -- A1( A2( A1) A2): neither add precedes the other
    record { run = (0, CallAdd 1) ∷ (1, CallAdd 2) ∷ (0, ReturnAdd) ∷ (1, ReturnAdd) ∷ []; says = (0 ∷ 1 ∷ []) ∷ (1 ∷ 0 ∷ []) ∷ [] } ∷
    []

-- None of the lists is a legal order of a history.
abbrev pub NoneLegal : Object → History → List (List ℕ) → Type 0
NoneLegal object h lists = Each (λ listed. Linearization object h listed → ⊥) lists

abbrev pub no_linearizations : List (Row (List (List ℕ)))
no_linearizations =
    -- A7( A7) R( R7): the remove is left out; there is no operation 2
    record { run = (0, CallAdd 7) ∷ (0, ReturnAdd) ∷ (1, CallRemove) ∷ (1, ReturnRemove (Value 7)) ∷ []; says = (0 ∷ []) ∷ (0 ∷ 1 ∷ 2 ∷ []) ∷ [] } ∷
    -- R( A7( R7) A7): 7 is not there yet; the add is listed twice
    record { run = (0, CallRemove) ∷ (1, CallAdd 7) ∷ (0, ReturnRemove (Value 7)) ∷ (1, ReturnAdd) ∷ []; says = (0 ∷ 1 ∷ []) ∷ (1 ∷ 0 ∷ 1 ∷ []) ∷ [] } ∷
    -- A7( R( R7): the open add is left out, though its value was removed
    record { run = (0, CallAdd 7) ∷ (1, CallRemove) ∷ (1, ReturnRemove (Value 7)) ∷ []; says = (1 ∷ []) ∷ [] } ∷
    -- A7( R( R-): the queue holds 7; the remove is listed twice; so is the open add
    record { run = (0, CallAdd 7) ∷ (1, CallRemove) ∷ (1, ReturnRemove Empty) ∷ []; says = (0 ∷ 1 ∷ []) ∷ (1 ∷ 1 ∷ []) ∷ (1 ∷ 0 ∷ 0 ∷ []) ∷ [] } ∷
    -- A0( A0) R( R-): the queue holds 0; the add precedes the remove
    record { run = (0, CallAdd 0) ∷ (0, ReturnAdd) ∷ (1, CallRemove) ∷ (1, ReturnRemove Empty) ∷ []; says = (0 ∷ 1 ∷ []) ∷ (1 ∷ 0 ∷ []) ∷ [] } ∷
    -- A0( R( A0) R0): the queue is empty, and does not hold 0
    record { run = (0, CallAdd 0) ∷ (1, CallRemove) ∷ (0, ReturnAdd) ∷ (1, ReturnRemove (Value 0)) ∷ []; says = (1 ∷ 0 ∷ []) ∷ [] } ∷
    -- A1( A2( A1) A2) R( R2): 1 is at the front
    record { run = (0, CallAdd 1) ∷ (1, CallAdd 2) ∷ (0, ReturnAdd) ∷ (1, ReturnAdd) ∷ (2, CallRemove) ∷ (2, ReturnRemove (Value 2)) ∷ []; says = (0 ∷ 1 ∷ 2 ∷ []) ∷ [] } ∷
    -- A3( A1( A1) A2( A2) A3): the add of 1 precedes the add of 2, also where the add of 3 stands between them
    record { run = (0, CallAdd 3) ∷ (1, CallAdd 1) ∷ (1, ReturnAdd) ∷ (2, CallAdd 2) ∷ (2, ReturnAdd) ∷ (0, ReturnAdd) ∷ []; says = (2 ∷ 0 ∷ 1 ∷ []) ∷ [] } ∷
    []

-- The same with a remove that does not return: it may be left out or stand once, where it takes the front or changes nothing.
abbrev pub open_linearizations : List (Row (List (List ℕ)))
open_linearizations =
    -- A7( R(: the add and the remove may each be listed or not, in either order
    record { run = (0, CallAdd 7) ∷ (1, CallRemove) ∷ []; says = [] ∷ (0 ∷ []) ∷ (1 ∷ []) ∷ (0 ∷ 1 ∷ []) ∷ (1 ∷ 0 ∷ []) ∷ [] } ∷
    -- A1( A1) A2( A2) Ra( R( R2): Ra takes 1
    record {
      run =
          (0, CallAdd 1) ∷ (0, ReturnAdd) ∷ (1, CallAdd 2) ∷ (1, ReturnAdd) ∷
          (2, CallRemove) ∷ (3, CallRemove) ∷ (3, ReturnRemove (Value 2)) ∷ [];
      says = (0 ∷ 1 ∷ 2 ∷ 3 ∷ []) ∷ [];
    } ∷
    []

abbrev pub no_open_linearizations : List (Row (List (List ℕ)))
no_open_linearizations =
    -- A7( A7) Ra(: Ra is listed twice; the add precedes it
    record { run = (0, CallAdd 7) ∷ (0, ReturnAdd) ∷ (1, CallRemove) ∷ []; says = (0 ∷ 1 ∷ 1 ∷ []) ∷ (1 ∷ 0 ∷ []) ∷ [] } ∷
    -- A1( A1) A2( A2) Ra( R( R2): 1 is at the front if Ra is left out; if it comes last, too
    record {
      run =
          (0, CallAdd 1) ∷ (0, ReturnAdd) ∷ (1, CallAdd 2) ∷ (1, ReturnAdd) ∷
          (2, CallRemove) ∷ (3, CallRemove) ∷ (3, ReturnRemove (Value 2)) ∷ [];
      says = (0 ∷ 1 ∷ 3 ∷ []) ∷ (0 ∷ 1 ∷ 3 ∷ 2 ∷ []) ∷ [];
    } ∷
    -- A7( A7) Ra( R( R7): where Ra comes before R it takes 7, which R cannot take then
    record {
      run = (0, CallAdd 7) ∷ (0, ReturnAdd) ∷ (1, CallRemove) ∷ (2, CallRemove) ∷ (2, ReturnRemove (Value 7)) ∷ [];
      says = (0 ∷ 1 ∷ 2 ∷ []) ∷ [];
    } ∷
    []

-- Of a cell: W7( and W7) call and return a write, R( and R7) or R-) a read.
abbrev pub cell_linearizations : List (Row (List (List ℕ)))
cell_linearizations =
    -- W7( Ra( Ra7) Rb( Rb7): two reads of one value, whose write does not return
    record {
      run = (0, CallAdd 7) ∷ (1, CallRemove) ∷ (1, ReturnRemove (Value 7)) ∷ (2, CallRemove) ∷ (2, ReturnRemove (Value 7)) ∷ [];
      says = (0 ∷ 1 ∷ 2 ∷ []) ∷ [];
    } ∷
    -- W1( R( R-) W1): the read comes first
    record { run = (0, CallAdd 1) ∷ (1, CallRemove) ∷ (1, ReturnRemove Empty) ∷ (0, ReturnAdd) ∷ []; says = (1 ∷ 0 ∷ []) ∷ [] } ∷
    -- W1(: an open write may be left out or listed
    record { run = (0, CallAdd 1) ∷ []; says = [] ∷ (0 ∷ []) ∷ [] } ∷
    -- R(: a read that does not return is left out
    record { run = (0, CallRemove) ∷ []; says = [] ∷ [] } ∷
    []

abbrev pub no_cell_linearizations : List (Row (List (List ℕ)))
no_cell_linearizations =
    -- W1( W2( W1) W2) R( R1): the latest write is 2
    record {
      run =
          (0, CallAdd 1) ∷ (1, CallAdd 2) ∷ (0, ReturnAdd) ∷
          (1, ReturnAdd) ∷ (2, CallRemove) ∷ (2, ReturnRemove (Value 1)) ∷ [];
      says = (0 ∷ 1 ∷ 2 ∷ []) ∷ [];
    } ∷
    -- W1( R( R-): 1 is written before; the open write is listed twice
    record {
      run = (0, CallAdd 1) ∷ (1, CallRemove) ∷ (1, ReturnRemove Empty) ∷ [];
      says = (0 ∷ 1 ∷ []) ∷ (1 ∷ 0 ∷ 0 ∷ []) ∷ [];
    } ∷
    -- R( W0( R0): nothing is written yet, not even 0
    record { run = (0, CallRemove) ∷ (1, CallAdd 0) ∷ (0, ReturnRemove (Value 0)) ∷ []; says = (0 ∷ 1 ∷ []) ∷ (0 ∷ []) ∷ [] } ∷
    -- R(: a read that does not return is in no order
    record { run = (0, CallRemove) ∷ []; says = (0 ∷ []) ∷ [] } ∷
    []

-- Document 02, change 3: "within one tick the order of records is chance". A run whose ticks are given: its records, the positions at which they stand,
-- and lists that are and that are not legal orders of it.
pub record TickRow : Type 0 where
  pub records : List Record
  pub positions : List ℕ
  pub legal : List (List ℕ)
  pub illegal : List (List ℕ)

-- a record of a tick
abbrev pub at : ℕ → ℕ → Event → Record
at tick client event = record { client = client; tick = tick; event = event }

-- The records from i on stand at these positions.
abbrev pub StandAt : List Record → ℕ → List ℕ → Type 0
StandAt records i [] = i ≡ length records
StandAt records i (p ∷ ps) = (position_of records i ≡ p) × StandAt records (suc i) ps

abbrev pub TicksRight : TickRow → Type 0
TicksRight row =
    StandAt row.records 0 row.positions × (AllLegal Queue (history_of row.records) row.legal × NoneLegal Queue (history_of row.records) row.illegal)

abbrev pub tick_rows : List TickRow
tick_rows =
    -- A1( A1) A2( A2), the return of 1 and the call of 2 in one tick: neither add precedes the other
    record {
      records = at 1 0 (CallAdd 1) ∷ at 2 0 ReturnAdd ∷ at 2 1 (CallAdd 2) ∷ at 3 1 ReturnAdd ∷ [];
      positions = 0 ∷ 2 ∷ 1 ∷ 3 ∷ [];
      legal = (0 ∷ 1 ∷ []) ∷ (1 ∷ 0 ∷ []) ∷ [];
      illegal = [];
    } ∷
    -- the same, but the call of 2 has a higher tick than the return of 1
    record {
      records = at 1 0 (CallAdd 1) ∷ at 2 0 ReturnAdd ∷ at 3 1 (CallAdd 2) ∷ at 3 1 ReturnAdd ∷ [];
      positions = 0 ∷ 1 ∷ 2 ∷ 3 ∷ [];
      legal = (0 ∷ 1 ∷ []) ∷ [];
      illegal = (1 ∷ 0 ∷ []) ∷ [];
    } ∷
    -- A7( A7) R( R-), all in one tick: the remove may come first
    record {
      records = at 1 0 (CallAdd 7) ∷ at 1 0 ReturnAdd ∷ at 1 1 CallRemove ∷ at 1 1 (ReturnRemove Empty) ∷ [];
      positions = 0 ∷ 2 ∷ 1 ∷ 3 ∷ [];
      legal = (1 ∷ 0 ∷ []) ∷ [];
      illegal = (0 ∷ 1 ∷ []) ∷ [];
    } ∷
    []
