-- Document 01, "Runs". The table `runs` has the runs marked *, in the document's order, with the verdict that it gives for each.
-- The table `picks` shows what is reported where they leave it open: its first three rows are the document's other runs with
-- a verdict; the next have several occurrences, ties or open adds; in the last three a pattern that is read too widely would be
-- reported in place of the right one. `ticked_runs` has runs with equal ticks, and `cell_runs` and `open_runs` are for cells and
-- open removes, of document 02. What a run and a row are is said in the crate history.
use Rattle.std.specs.Prelude.{ℕ, List, [], ◌∷◌}
use Rattle.record.specs.declared.record.Removed.TheVariants.{Value, Empty}
use Rattle.record.specs.declared.record.Event.TheVariants.{CallAdd, CallRemove, ReturnAdd, ReturnRemove}
use Rattle.record.specs.declared.record.Record.{Record}
use Rattle.history.specs.Object.{Object, Queue}
use Rattle.history.specs.History.{History}
use Rattle.history.specs.Runs.{Row, at}
use Rattle.violations.specs.Verdict.{FirstViolation, JudgedLinearization, Verdict}
use Rattle.violations.specs.Fates.{taking, Settled}

-- the verdict given for a run: an order, or a pattern with the operations that it lists
pub data Expected : Type 0 where
  linearization : List ℕ → Expected
  violation : ℕ → List ℕ → Expected

-- What a row says of the verdict is right for a history.
abbrev pub Judged : Object → History → Expected → Type 0
Judged object h (linearization listed) = JudgedLinearization object h listed
Judged object h (violation number listed) = FirstViolation object h number listed

abbrev pub runs : List (Row Expected)
runs =
    -- no records: order, k = 0
    record { run = []; says = linearization [] } ∷
    -- A7( A7) R( R7): order 0 1
    record { run = (0, CallAdd 7) ∷ (0, ReturnAdd) ∷ (1, CallRemove) ∷ (1, ReturnRemove (Value 7)) ∷ []; says = linearization (0 ∷ 1 ∷ []) } ∷
    -- R( A7( R7) A7): order 1 0
    record { run = (0, CallRemove) ∷ (1, CallAdd 7) ∷ (0, ReturnRemove (Value 7)) ∷ (1, ReturnAdd) ∷ []; says = linearization (1 ∷ 0 ∷ []) } ∷
    -- R( R7) A7( A7): pattern 3, 0 1
    record { run = (0, CallRemove) ∷ (0, ReturnRemove (Value 7)) ∷ (1, CallAdd 7) ∷ (1, ReturnAdd) ∷ []; says = violation 3 (0 ∷ 1 ∷ []) } ∷
    -- A7( R( R-): order 1
    record { run = (0, CallAdd 7) ∷ (1, CallRemove) ∷ (1, ReturnRemove Empty) ∷ []; says = linearization (1 ∷ []) } ∷
    -- A1( A1) A2( A2) R( R2): pattern 4, 0 1 2
    record { run = (0, CallAdd 1) ∷ (0, ReturnAdd) ∷ (1, CallAdd 2) ∷ (1, ReturnAdd) ∷ (2, CallRemove) ∷ (2, ReturnRemove (Value 2)) ∷ []; says = violation 4 (0 ∷ 1 ∷ 2 ∷ []) } ∷
    -- A1( A2( A1) A2) R( R2): order 1 0 2
    record { run = (0, CallAdd 1) ∷ (1, CallAdd 2) ∷ (0, ReturnAdd) ∷ (1, ReturnAdd) ∷ (2, CallRemove) ∷ (2, ReturnRemove (Value 2)) ∷ []; says = linearization (1 ∷ 0 ∷ 2 ∷ []) } ∷
    -- A1( A1) A2( A2) R( R2) R( R1): pattern 5, 0 1 2 3
    record { run = (0, CallAdd 1) ∷ (0, ReturnAdd) ∷ (1, CallAdd 2) ∷ (1, ReturnAdd) ∷ (2, CallRemove) ∷ (2, ReturnRemove (Value 2)) ∷ (3, CallRemove) ∷ (3, ReturnRemove (Value 1)) ∷ []; says = violation 5 (0 ∷ 1 ∷ 2 ∷ 3 ∷ []) } ∷
    -- A1( A1) A2( A2) Ra( Rb( Ra2) Rb1): order 0 1 3 2
    record { run = (0, CallAdd 1) ∷ (0, ReturnAdd) ∷ (1, CallAdd 2) ∷ (1, ReturnAdd) ∷ (2, CallRemove) ∷ (3, CallRemove) ∷ (2, ReturnRemove (Value 2)) ∷ (3, ReturnRemove (Value 1)) ∷ []; says = linearization (0 ∷ 1 ∷ 3 ∷ 2 ∷ []) } ∷
    -- A1( A1) Ra( A2( A2) Rb( Rb1) Ra-) R( R2): pattern 6, 1 0 2
    record { run = (0, CallAdd 1) ∷ (0, ReturnAdd) ∷ (1, CallRemove) ∷ (2, CallAdd 2) ∷ (2, ReturnAdd) ∷ (3, CallRemove) ∷ (3, ReturnRemove (Value 1)) ∷ (1, ReturnRemove Empty) ∷ (4, CallRemove) ∷ (4, ReturnRemove (Value 2)) ∷ []; says = violation 6 (1 ∷ 0 ∷ 2 ∷ []) } ∷
    -- A1( A1) Ra( A2( Rb( A2) Rb1) Ra-) R( R2): order 0 3 1 2 4
    record { run = (0, CallAdd 1) ∷ (0, ReturnAdd) ∷ (1, CallRemove) ∷ (2, CallAdd 2) ∷ (3, CallRemove) ∷ (2, ReturnAdd) ∷ (3, ReturnRemove (Value 1)) ∷ (1, ReturnRemove Empty) ∷ (4, CallRemove) ∷ (4, ReturnRemove (Value 2)) ∷ []; says = linearization (0 ∷ 3 ∷ 1 ∷ 2 ∷ 4 ∷ []) } ∷
    -- A0( A0) R( R-): pattern 6, 1 0
    record { run = (0, CallAdd 0) ∷ (0, ReturnAdd) ∷ (1, CallRemove) ∷ (1, ReturnRemove Empty) ∷ []; says = violation 6 (1 ∷ 0 ∷ []) } ∷
    []

abbrev pub picks : List (Row Expected)
picks =
    -- R( R9): pattern 1, 0
    record { run = (0, CallRemove) ∷ (0, ReturnRemove (Value 9)) ∷ []; says = violation 1 (0 ∷ []) } ∷
    -- A7( A7) R( R7) R( R7): pattern 2, 1 2
    record { run = (0, CallAdd 7) ∷ (0, ReturnAdd) ∷ (1, CallRemove) ∷ (1, ReturnRemove (Value 7)) ∷ (2, CallRemove) ∷ (2, ReturnRemove (Value 7)) ∷ []; says = violation 2 (1 ∷ 2 ∷ []) } ∷
    -- A7( R( R7): order 0 1, with the open add, since its value was removed
    record { run = (0, CallAdd 7) ∷ (1, CallRemove) ∷ (1, ReturnRemove (Value 7)) ∷ []; says = linearization (0 ∷ 1 ∷ []) } ∷
    -- A1( A1) A2( R( R2): the open add may be add b, pattern 4, 0 1 2
    record { run = (0, CallAdd 1) ∷ (0, ReturnAdd) ∷ (1, CallAdd 2) ∷ (2, CallRemove) ∷ (2, ReturnRemove (Value 2)) ∷ []; says = violation 4 (0 ∷ 1 ∷ 2 ∷ []) } ∷
    -- R( R7) A7(: the open add is behind its remove, pattern 3, 0 1
    record { run = (0, CallRemove) ∷ (0, ReturnRemove (Value 7)) ∷ (1, CallAdd 7) ∷ []; says = violation 3 (0 ∷ 1 ∷ []) } ∷
    -- A0( A0) Ra( Ra-) Rb( Rb9): both 1 and 6 occur, pattern 1, 2
    record { run = (0, CallAdd 0) ∷ (0, ReturnAdd) ∷ (1, CallRemove) ∷ (1, ReturnRemove Empty) ∷ (2, CallRemove) ∷ (2, ReturnRemove (Value 9)) ∷ []; says = violation 1 (2 ∷ []) } ∷
    -- Ra( Ra9) Rb( Rb8): two removes are unknown, pattern 1, 0
    record { run = (0, CallRemove) ∷ (0, ReturnRemove (Value 9)) ∷ (1, CallRemove) ∷ (1, ReturnRemove (Value 8)) ∷ []; says = violation 1 (0 ∷ []) } ∷
    -- A7( A7) Ra( Ra7) Rb( Rb7) Rc( Rc7): three removes are of one value, pattern 2, 1 2
    record { run = (0, CallAdd 7) ∷ (0, ReturnAdd) ∷ (1, CallRemove) ∷ (1, ReturnRemove (Value 7)) ∷ (2, CallRemove) ∷ (2, ReturnRemove (Value 7)) ∷ (3, CallRemove) ∷ (3, ReturnRemove (Value 7)) ∷ []; says = violation 2 (1 ∷ 2 ∷ []) } ∷
    -- Ra( Ra1) Rb( Rb2) A2( A2) A1( A1): both removes are early, pattern 3, 0 3
    record { run = (0, CallRemove) ∷ (0, ReturnRemove (Value 1)) ∷ (1, CallRemove) ∷ (1, ReturnRemove (Value 2)) ∷ (2, CallAdd 2) ∷ (2, ReturnAdd) ∷ (3, CallAdd 1) ∷ (3, ReturnAdd) ∷ []; says = violation 3 (0 ∷ 3 ∷ []) } ∷
    -- A1( A1) A2( A2) A3( A3) R( R3): 1 and 2 are stuck before 3, pattern 4, 0 2 3
    record { run = (0, CallAdd 1) ∷ (0, ReturnAdd) ∷ (1, CallAdd 2) ∷ (1, ReturnAdd) ∷ (2, CallAdd 3) ∷ (2, ReturnAdd) ∷ (3, CallRemove) ∷ (3, ReturnRemove (Value 3)) ∷ []; says = violation 4 (0 ∷ 2 ∷ 3 ∷ []) } ∷
    -- A1( A1) A2( A2) A3( A3) Ra( Ra3) Rb( Rb2) Rc( Rc1): each overtakes those before it, pattern 5, 0 1 4 5
    record { run = (0, CallAdd 1) ∷ (0, ReturnAdd) ∷ (1, CallAdd 2) ∷ (1, ReturnAdd) ∷ (2, CallAdd 3) ∷ (2, ReturnAdd) ∷ (3, CallRemove) ∷ (3, ReturnRemove (Value 3)) ∷ (4, CallRemove) ∷ (4, ReturnRemove (Value 2)) ∷ (5, CallRemove) ∷ (5, ReturnRemove (Value 1)) ∷ []; says = violation 5 (0 ∷ 1 ∷ 4 ∷ 5 ∷ []) } ∷
    -- A1( A1) Ra( A0( A0) Rb( Ra-) Rb1): 1 covers all gaps but the one behind its remove's call, pattern 6, 1 0 2
    record { run = (0, CallAdd 1) ∷ (0, ReturnAdd) ∷ (1, CallRemove) ∷ (2, CallAdd 0) ∷ (2, ReturnAdd) ∷ (3, CallRemove) ∷ (1, ReturnRemove Empty) ∷ (3, ReturnRemove (Value 1)) ∷ []; says = violation 6 (1 ∷ 0 ∷ 2 ∷ []) } ∷
    -- A1( A2( A1) A2) Re( Re-) Ra( Ra1) Rb( Rb2): 2 reaches further, though not within the empty remove, pattern 6, 2 1
    record { run = (0, CallAdd 1) ∷ (1, CallAdd 2) ∷ (0, ReturnAdd) ∷ (1, ReturnAdd) ∷ (2, CallRemove) ∷ (2, ReturnRemove Empty) ∷ (3, CallRemove) ∷ (3, ReturnRemove (Value 1)) ∷ (4, CallRemove) ∷ (4, ReturnRemove (Value 2)) ∷ []; says = violation 6 (2 ∷ 1 ∷ []) } ∷
    -- A1( A1) A2( A2) Re( Re-) Ra( Ra1): 2 is never removed and reaches furthest, pattern 6, 2 1
    record { run = (0, CallAdd 1) ∷ (0, ReturnAdd) ∷ (1, CallAdd 2) ∷ (1, ReturnAdd) ∷ (2, CallRemove) ∷ (2, ReturnRemove Empty) ∷ (3, CallRemove) ∷ (3, ReturnRemove (Value 1)) ∷ []; says = violation 6 (2 ∷ 1 ∷ []) } ∷
    -- A1( A1) A2( A2) R( R-): neither is removed, the lowest add, pattern 6, 2 0
    record { run = (0, CallAdd 1) ∷ (0, ReturnAdd) ∷ (1, CallAdd 2) ∷ (1, ReturnAdd) ∷ (2, CallRemove) ∷ (2, ReturnRemove Empty) ∷ []; says = violation 6 (2 ∷ 0 ∷ []) } ∷
    -- A1( A1) Ra( Ra-) Rb( Rb-): both are false, the lowest empty remove, pattern 6, 1 0
    record { run = (0, CallAdd 1) ∷ (0, ReturnAdd) ∷ (1, CallRemove) ∷ (1, ReturnRemove Empty) ∷ (2, CallRemove) ∷ (2, ReturnRemove Empty) ∷ []; says = violation 6 (1 ∷ 0 ∷ []) } ∷
    -- A1( A2( A1) A2) Ra( Ra2) Re( Re-): add 0 does not precede add 1, so 4 does not occur; pattern 6, 3 0
    record {
      run =
          (0, CallAdd 1) ∷ (1, CallAdd 2) ∷ (0, ReturnAdd) ∷ (1, ReturnAdd) ∷ (2, CallRemove) ∷
          (2, ReturnRemove (Value 2)) ∷ (3, CallRemove) ∷ (3, ReturnRemove Empty) ∷ [];
      says = violation 6 (3 ∷ 0 ∷ []);
    } ∷
    -- A1( A1) A2( A2) Ra( Rb( Ra2) Rb1) A3( A3) Re( Re-): remove 2 does not precede remove 3, so 5 does not occur; pattern 6, 5 4
    record {
      run =
          (0, CallAdd 1) ∷ (0, ReturnAdd) ∷ (1, CallAdd 2) ∷ (1, ReturnAdd) ∷ (2, CallRemove) ∷ (3, CallRemove) ∷
          (2, ReturnRemove (Value 2)) ∷ (3, ReturnRemove (Value 1)) ∷ (4, CallAdd 3) ∷ (4, ReturnAdd) ∷
          (5, CallRemove) ∷ (5, ReturnRemove Empty) ∷ [];
      says = violation 6 (5 ∷ 4 ∷ []);
    } ∷
    -- A1( A1) Ra( A2( Rb( A2) Rb1) Ra-) R( R2) A3( A3) Re( Re-): 2 covers no gap before its add returns, so the empty remove 1 is
    -- not false; pattern 6, 6 5
    record {
      run =
          (0, CallAdd 1) ∷ (0, ReturnAdd) ∷ (1, CallRemove) ∷ (2, CallAdd 2) ∷ (3, CallRemove) ∷ (2, ReturnAdd) ∷
          (3, ReturnRemove (Value 1)) ∷ (1, ReturnRemove Empty) ∷ (4, CallRemove) ∷ (4, ReturnRemove (Value 2)) ∷
          (5, CallAdd 3) ∷ (5, ReturnAdd) ∷ (6, CallRemove) ∷ (6, ReturnRemove Empty) ∷ [];
      says = violation 6 (6 ∷ 5 ∷ []);
    } ∷
    []

-- A run whose ticks are given: its records, and the verdict. Document 02, change 3: "Gaps follow: records are taken by tick, within a tick the calls
-- before the returns, else as they stand".
pub record TickedRun : Type 0 where
  pub records : List Record
  pub says : Expected

abbrev pub ticked_runs : List TickedRun
ticked_runs =
    -- A7( A7) R( R-), the return of the add and the call of the remove in one tick: order 1 0
    record { records = at 1 0 (CallAdd 7) ∷ at 2 0 ReturnAdd ∷ at 2 1 CallRemove ∷ at 3 1 (ReturnRemove Empty) ∷ []; says = linearization (1 ∷ 0 ∷ []) } ∷
    -- A7( A7) in one tick, R( R-) in the next: the remove has a gap, which is covered, pattern 6, 1 0
    record { records = at 1 0 (CallAdd 7) ∷ at 1 0 ReturnAdd ∷ at 2 1 CallRemove ∷ at 2 1 (ReturnRemove Empty) ∷ []; says = violation 6 (1 ∷ 0 ∷ []) } ∷
    -- A1( A2( A1) A2) in one tick, Re( Re-) in the next, Ra( Rb( Ra1) Rb2) in the last: 2 reaches further than 1, pattern 6, 2 1
    record { records = at 1 0 (CallAdd 1) ∷ at 1 1 (CallAdd 2) ∷ at 1 0 ReturnAdd ∷ at 1 1 ReturnAdd ∷ at 2 2 CallRemove ∷ at 2 2 (ReturnRemove Empty) ∷ at 3 3 CallRemove ∷ at 3 4 CallRemove ∷ at 3 3 (ReturnRemove (Value 1)) ∷ at 3 4 (ReturnRemove (Value 2)) ∷ []; says = violation 6 (2 ∷ 1 ∷ []) } ∷
    []

-- Runs of a cell: W7( and W7) call and return a write, R( and R7) or R-) a read.
abbrev pub cell_runs : List (Row Expected)
cell_runs =
    -- R( R9): 7, 0
    record { run = (0, CallRemove) ∷ (0, ReturnRemove (Value 9)) ∷ []; says = violation 7 (0 ∷ []) } ∷
    -- R( R7) W7( W7): 8, 0 1
    record {
      run = (0, CallRemove) ∷ (0, ReturnRemove (Value 7)) ∷ (1, CallAdd 7) ∷ (1, ReturnAdd) ∷ [];
      says = violation 8 (0 ∷ 1 ∷ []);
    } ∷
    -- W1( W1) W2( W2) R( R1): 9, 0 1 1 2
    record {
      run =
          (0, CallAdd 1) ∷ (0, ReturnAdd) ∷ (1, CallAdd 2) ∷
          (1, ReturnAdd) ∷ (2, CallRemove) ∷ (2, ReturnRemove (Value 1)) ∷ [];
      says = violation 9 (0 ∷ 1 ∷ 1 ∷ 2 ∷ []);
    } ∷
    -- W1( W2( W1) W2) Ra( Ra1) Rb( Rb2): 9, 0 3 1 2
    record {
      run =
          (0, CallAdd 1) ∷ (1, CallAdd 2) ∷ (0, ReturnAdd) ∷ (1, ReturnAdd) ∷ (2, CallRemove) ∷
          (2, ReturnRemove (Value 1)) ∷ (3, CallRemove) ∷ (3, ReturnRemove (Value 2)) ∷ [];
      says = violation 9 (0 ∷ 3 ∷ 1 ∷ 2 ∷ []);
    } ∷
    -- W1( R( R1) W2( W2) Rb( Rb1): 9, 1 2 2 3; the open write precedes nothing
    record {
      run =
          (0, CallAdd 1) ∷ (1, CallRemove) ∷ (1, ReturnRemove (Value 1)) ∷
          (2, CallAdd 2) ∷ (2, ReturnAdd) ∷ (3, CallRemove) ∷ (3, ReturnRemove (Value 1)) ∷ [];
      says = violation 9 (1 ∷ 2 ∷ 2 ∷ 3 ∷ []);
    } ∷
    -- W1( W1) R( R-): 10, 0 1
    record {
      run = (0, CallAdd 1) ∷ (0, ReturnAdd) ∷ (1, CallRemove) ∷ (1, ReturnRemove Empty) ∷ [];
      says = violation 10 (0 ∷ 1 ∷ []);
    } ∷
    -- Ra( Ra-) W1( W1) Rb( Rb-) Rc( Rc-): 10, 1 2
    record {
      run =
          (0, CallRemove) ∷ (0, ReturnRemove Empty) ∷ (1, CallAdd 1) ∷ (1, ReturnAdd) ∷
          (2, CallRemove) ∷ (2, ReturnRemove Empty) ∷ (3, CallRemove) ∷ (3, ReturnRemove Empty) ∷ [];
      says = violation 10 (1 ∷ 2 ∷ []);
    } ∷
    -- Ra( W7( Ra7) W7) Rb( Rb-): a read may be called before the write of its value, 10, 0 2
    record {
      run =
          (0, CallRemove) ∷ (1, CallAdd 7) ∷ (0, ReturnRemove (Value 7)) ∷
          (1, ReturnAdd) ∷ (2, CallRemove) ∷ (2, ReturnRemove Empty) ∷ [];
      says = violation 10 (0 ∷ 2 ∷ []);
    } ∷
    -- W1( Ra( Ra-) W1) Rb( Rb-): an initial read may be called after a write that has not returned, 10, 0 2
    record {
      run =
          (0, CallAdd 1) ∷ (1, CallRemove) ∷ (1, ReturnRemove Empty) ∷
          (0, ReturnAdd) ∷ (2, CallRemove) ∷ (2, ReturnRemove Empty) ∷ [];
      says = violation 10 (0 ∷ 2 ∷ []);
    } ∷
    -- W1( W1) Ra( Ra1) Rb( Rb-): the operations on one value do not cross, 10, 0 2
    record {
      run =
          (0, CallAdd 1) ∷ (0, ReturnAdd) ∷ (1, CallRemove) ∷
          (1, ReturnRemove (Value 1)) ∷ (2, CallRemove) ∷ (2, ReturnRemove Empty) ∷ [];
      says = violation 10 (0 ∷ 2 ∷ []);
    } ∷
    -- W1( R( R1): order 0 1; the value of the open write was read
    record { run = (0, CallAdd 1) ∷ (1, CallRemove) ∷ (1, ReturnRemove (Value 1)) ∷ []; says = linearization (0 ∷ 1 ∷ []) } ∷
    -- W1( R( R-): order 1
    record { run = (0, CallAdd 1) ∷ (1, CallRemove) ∷ (1, ReturnRemove Empty) ∷ []; says = linearization (1 ∷ []) } ∷
    -- W1( W2( W1) W2) R( R1): order 1 0 2
    record {
      run =
          (0, CallAdd 1) ∷ (1, CallAdd 2) ∷ (0, ReturnAdd) ∷
          (1, ReturnAdd) ∷ (2, CallRemove) ∷ (2, ReturnRemove (Value 1)) ∷ [];
      says = linearization (1 ∷ 0 ∷ 2 ∷ []);
    } ∷
    -- Ra( W1( Rb( Ra1) W1) Rb-): order 2 1 0
    record {
      run =
          (0, CallRemove) ∷ (1, CallAdd 1) ∷ (2, CallRemove) ∷
          (0, ReturnRemove (Value 1)) ∷ (1, ReturnAdd) ∷ (2, ReturnRemove Empty) ∷ [];
      says = linearization (2 ∷ 1 ∷ 0 ∷ []);
    } ∷
    -- Ra( Rb( W0( W0): two reads that do not return, order 2
    record { run = (0, CallRemove) ∷ (1, CallRemove) ∷ (2, CallAdd 0) ∷ (2, ReturnAdd) ∷ []; says = linearization (2 ∷ []) } ∷
    -- Ra( W0( W0) Rb( Rb0): the value 0 is read, though not by the read that does not return, order 1 2
    record {
      run = (0, CallRemove) ∷ (1, CallAdd 0) ∷ (1, ReturnAdd) ∷ (2, CallRemove) ∷ (2, ReturnRemove (Value 0)) ∷ [];
      says = linearization (1 ∷ 2 ∷ []);
    } ∷
    []

-- What a row says of a run of a queue with a remove that does not return: the verdict with it left out; or, where another fate is
-- the first success, that remove o takes the value of add a, and the order then.
pub data Settling : Type 0 where
  leaves_out : Expected → Settling
  lets_take : ℕ → ℕ → List ℕ → Settling

-- What it says is right: the verdict is this one, with this fate.
abbrev pub Settles : History → Settling → Type 0
Settles h (leaves_out (linearization listed)) = JudgedLinearization Queue h listed
Settles h (leaves_out (violation number listed)) = Verdict Queue h number listed
Settles h (lets_take o a listed) = Settled Queue h (taking h o a) × JudgedLinearization Queue (taking h o a) listed

-- No record stands at the last position of a run, so the remove may come back there, also after a call that is the last record.
abbrev pub open_runs : List (Row Settling)
open_runs =
    -- R(: order, k = 0
    record { run = (0, CallRemove) ∷ []; says = leaves_out (linearization []) } ∷
    -- Ra( A0( A0): the value 0 was not removed, though the entry of the remove that does not return is 0 too; order 1
    record { run = (0, CallRemove) ∷ (1, CallAdd 0) ∷ (1, ReturnAdd) ∷ []; says = leaves_out (linearization (1 ∷ [])) } ∷
    -- Ra( A0( A1( A1): nor is the open add of 0 listed; order 2
    record {
      run = (0, CallRemove) ∷ (1, CallAdd 0) ∷ (2, CallAdd 1) ∷ (2, ReturnAdd) ∷ [];
      says = leaves_out (linearization (2 ∷ []));
    } ∷
    -- A0( Ra( R( R0): order 0 2
    record {
      run = (0, CallAdd 0) ∷ (1, CallRemove) ∷ (2, CallRemove) ∷ (2, ReturnRemove (Value 0)) ∷ [];
      says = leaves_out (linearization (0 ∷ 2 ∷ []));
    } ∷
    -- A1( A1) A2( A2) Ra( R( R2): left out it is pattern 4; Ra takes 1, order 0 1 2 3
    record {
      run =
          (0, CallAdd 1) ∷ (0, ReturnAdd) ∷ (1, CallAdd 2) ∷ (1, ReturnAdd) ∷
          (2, CallRemove) ∷ (3, CallRemove) ∷ (3, ReturnRemove (Value 2)) ∷ [];
      says = lets_take 2 0 (0 ∷ 1 ∷ 2 ∷ 3 ∷ []);
    } ∷
    -- A1( A1) A2( A2) Ra( R( R2) A3(: the same, and the last record is a call; the open add is not listed
    record {
      run =
          (0, CallAdd 1) ∷ (0, ReturnAdd) ∷ (1, CallAdd 2) ∷ (1, ReturnAdd) ∷
          (2, CallRemove) ∷ (3, CallRemove) ∷ (3, ReturnRemove (Value 2)) ∷ (4, CallAdd 3) ∷ [];
      says = lets_take 2 0 (0 ∷ 1 ∷ 2 ∷ 3 ∷ []);
    } ∷
    -- A1( A2( A2) A3( A3) Ra( R( R3) A1): Ra takes 2 and not 1, whose add is lower but returns later; order 1 2 3 4 0
    record {
      run =
          (0, CallAdd 1) ∷ (1, CallAdd 2) ∷ (1, ReturnAdd) ∷ (2, CallAdd 3) ∷ (2, ReturnAdd) ∷
          (3, CallRemove) ∷ (4, CallRemove) ∷ (4, ReturnRemove (Value 3)) ∷ (0, ReturnAdd) ∷ [];
      says = lets_take 3 1 (1 ∷ 2 ∷ 3 ∷ 4 ∷ 0 ∷ []);
    } ∷
    -- A1( A1) Ra( Rb( Rb1) A2( A2) R( R-): left out it is pattern 6; 1 is removed, so Ra takes 2; order 0 2 3 1 4
    record {
      run =
          (0, CallAdd 1) ∷ (0, ReturnAdd) ∷ (1, CallRemove) ∷ (2, CallRemove) ∷ (2, ReturnRemove (Value 1)) ∷
          (3, CallAdd 2) ∷ (3, ReturnAdd) ∷ (4, CallRemove) ∷ (4, ReturnRemove Empty) ∷ [];
      says = lets_take 1 3 (0 ∷ 2 ∷ 3 ∷ 1 ∷ 4 ∷ []);
    } ∷
    -- A1( A1) A2( A2) Ra( R( R-): if Ra takes 1 or 2, R still meets the other; pattern 6, 3 0
    record {
      run =
          (0, CallAdd 1) ∷ (0, ReturnAdd) ∷ (1, CallAdd 2) ∷ (1, ReturnAdd) ∷
          (2, CallRemove) ∷ (3, CallRemove) ∷ (3, ReturnRemove Empty) ∷ [];
      says = leaves_out (violation 6 (3 ∷ 0 ∷ []));
    } ∷
    []
