-- How a table of runs is proved to hold, for the crates above too, and that the tables of this crate hold. What is read and what is
-- right is computed, for a whole table at once.
use Prim.Native.Nat.{ℕ, suc}
use mathlib.Core.Path.{◌≡◌, refl}
use mathlib.Core.Bool.{true, decide, decide_iff}
use mathlib.Core.Logic.Dec
use mathlib.Core.List.{List, [], ◌∷◌, map}
use native.Mathlib.Decide.{ℕ_discrete}
use lib.ListN.{length}
use Rattle.record.specs.declared.record.Record.{Record}
use Rattle.record.specs.Number.{big_endian, bytes_of}
use Rattle.record.specs.Frame.{frame_at}
use Rattle.record.specs.Record.{length_of, event_of, encode, decode_at}
use Rattle.reader.specs.Log.{pending_kind, returned_at, pending_remove, added_values, event_fault, fault, scan, read_partial, operations, encode_all, Reading, readable, read_log, encode_log}
use Rattle.table.specs.Table.{is_in}
use Rattle.history.specs.Each.{Each}
use Rattle.history.specs.History.{History}
use Rattle.history.specs.Object.{Object, Queue, Cell}
use Rattle.history.specs.Positions.{tally, position_of}
use Rattle.history.specs.Operations.{call_index, first_of, history_of}
use Rattle.history.specs.Runs.{records_from, records_of, Row, Holds, Correct, AllLegal, linearizations, NoneLegal, no_linearizations, open_linearizations, no_open_linearizations, cell_linearizations, no_cell_linearizations, StandAt, TickRow, TicksRight, tick_rows}
use Rattle.history.proofs.Deciding.{linearization?}

-- whether each of a list has a property
unfoldable pub each? : {A : Type 0} {P : A → Type 0} → ((a : A) → Dec (P a)) → (xs : List A) → Dec (Each P xs)
unfolding Dec.and
each? d [] = yes tt
each? d (x ∷ xs) = Dec.and (d x) (each? d xs)

-- whether all of some lists are legal orders, and whether none is
all_legal? : (object : Object) (h : History) (lists : List (List ℕ)) → Dec (AllLegal object h lists)
unfolding each? linearization?
all_legal? object h lists = each? (linearization? object h) lists

none_legal? : (object : Object) (h : History) (lists : List (List ℕ)) → Dec (NoneLegal object h lists)
unfolding each? linearization? Dec.not
none_legal? object h lists = each? (λ listed. Dec.not (linearization? object h listed)) lists

-- the history of a row's run, and what its log is read as; to unfold the two is to unfold all that computes them
unfoldable pub history : {A : Type 0} → Row A → History
unfolding records_from operations call_index first_of tally position_of
history row = history_of (records_of row.run)

unfoldable pub reading : {A : Type 0} → Row A → Reading
unfolding records_from encode encode_all bytes_of big_endian length_of event_of frame_at decode_at pending_kind returned_at pending_remove added_values is_in event_fault fault scan read_partial
reading row = read_log (encode_log (records_of row.run))

-- the same of records as they are given
unfoldable pub history_told : List Record → History
unfolding operations call_index first_of tally position_of
history_told records = history_of records

unfoldable pub reading_told : List Record → Reading
unfolding encode encode_all bytes_of big_endian length_of event_of frame_at decode_at pending_kind returned_at pending_remove added_values is_in event_fault fault scan read_partial
reading_told records = read_log (encode_log records)

-- a table is correct if what its rows say is decided to be right
pub rows_correct : {A : Type 0} {Right : History → A → Type 0} (right? : (h : History) (says : A) → Dec (Right h says)) (rows : List (Row A))
    → decide (each? (λ row. right? (history row) row.says) rows) ≡ true → Each (Correct Right) rows
unfolding history
rows_correct right? rows right = (decide_iff (each? (λ row. right? (history row) row.says) rows)).0 right

-- it holds if the logs of its runs are read as their records, too
pub rows_hold : {A : Type 0} {Right : History → A → Type 0} (right? : (h : History) (says : A) → Dec (Right h says)) (rows : List (Row A))
    → map reading rows ≡ map (λ row. readable (records_of row.run)) rows → decide (each? (λ row. right? (history row) row.says) rows) ≡ true → Each (Holds Right) rows
unfolding reading
rows_hold {A} {Right} right? rows read right = go rows read (rows_correct right? rows right)
  where
    go : (rows : List (Row A)) → map reading rows ≡ map (λ row. readable (records_of row.run)) rows → Each (Correct Right) rows → Each (Holds Right) rows
    go [] read right = tt
    go (row ∷ rows) read right = (record { read = cc; right = right.0 }, go rows (cc) right.1)

pub linearizations_hold : Each (Holds (AllLegal Queue)) linearizations
unfolding decide each? all_legal? history reading
linearizations_hold = rows_hold (all_legal? Queue) linearizations refl refl

pub no_linearizations_hold : Each (Holds (NoneLegal Queue)) no_linearizations
unfolding decide each? none_legal? history reading
no_linearizations_hold = rows_hold (none_legal? Queue) no_linearizations refl refl

pub open_linearizations_hold : Each (Holds (AllLegal Queue)) open_linearizations
unfolding decide each? all_legal? history reading
open_linearizations_hold = rows_hold (all_legal? Queue) open_linearizations refl refl

pub no_open_linearizations_hold : Each (Holds (NoneLegal Queue)) no_open_linearizations
unfolding decide each? none_legal? history reading
no_open_linearizations_hold = rows_hold (none_legal? Queue) no_open_linearizations refl refl

pub cell_linearizations_correct : Each (Correct (AllLegal Cell)) cell_linearizations
unfolding decide each? all_legal? history
cell_linearizations_correct = rows_correct (all_legal? Cell) cell_linearizations refl

pub no_cell_linearizations_correct : Each (Correct (NoneLegal Cell)) no_cell_linearizations
unfolding decide each? none_legal? history
no_cell_linearizations_correct = rows_correct (none_legal? Cell) no_cell_linearizations refl

-- the rows with ticks
stand_at? : (records : List Record) (i : ℕ) (positions : List ℕ) → Dec (StandAt records i positions)
unfolding Dec.and
stand_at? records i [] = ℕ_discrete i (length records)
stand_at? records i (p ∷ ps) = Dec.and (ℕ_discrete (position_of records i) p) (stand_at? records (suc i) ps)

ticks_right? : (row : TickRow) → Dec (TicksRight row)
unfolding operations call_index first_of tally position_of Dec.and stand_at? all_legal? none_legal?
ticks_right? row =
    Dec.and (stand_at? row.records 0 row.positions)
    (Dec.and (all_legal? Queue (history_of row.records) row.legal) (none_legal? Queue (history_of row.records) row.illegal))

pub tick_rows_right : Each TicksRight tick_rows
unfolding decide each? ticks_right?
tick_rows_right = (decide_iff (each? ticks_right? tick_rows)).0 refl

-- their logs are read as their records
pub tick_rows_read : map (λ row. read_log (encode_log row.records)) tick_rows ≡ map (λ row. readable row.records) tick_rows
unfolding reading_told
tick_rows_read = refl
