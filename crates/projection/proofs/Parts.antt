-- The history of records picked out of those of a readable log is a part of the log's history, if calls are picked with their returns, and
-- with an operation all operations on its value.
use Prim.Native.Nat.{ℕ, ◌<◌}
use native.Mathlib.Omega.{arith}
use mathlib.Core.Path.{◌≡◌}
use mathlib.Core.Bool.{Bool, true}
use mathlib.Core.Logic.Iff
use mathlib.Core.Logic.{◌↔◌}
use mathlib.Core.List.{List}
use lib.ListN.{length}
use Rattle.record.specs.declared.record.Record.{Record}
use Rattle.reader.specs.Log.{operations}
use Rattle.reader.specs.Readable.{record_of, PartialLog}
use Rattle.history.specs.History.{Returned, Precedes}
use Rattle.history.specs.Operations.{call_index, return_index, history_of, PrecedesByTicks}
use Rattle.history.proofs.Positions.{position_returned}
use Rattle.history.proofs.Laws.{precedes_by_ticks}
use Rattle.violations.specs.Parts.{HasValue, Part, Kept}
use Rattle.projection.proofs.Picking.{Picked}
use Rattle.projection.proofs.Turns.{Together}
use Rattle.projection.proofs.Originals.{original, same_call_record, original_only, original_known, original_one, original_every, same_return_record, return_there}

-- The operations whose calls are marked are all operations of some values, and some empty removes.
abbrev pub OnValues : (ℕ → Bool) → List Record → Type 0
OnValues marked records = (o q : ℕ) → HasValue (history_of records) o → HasValue (history_of records) q → (history_of records).value o ≡ (history_of records).value q
    → marked (call_index records q) ≡ true → marked (call_index records o) ≡ true

module _ {marked : ℕ → Bool} {records kept : List Record} (together : Together marked records) (p : Picked marked records kept) where
  -- kinds and values are told by the call and the return, so they are the same
  kind_same : (q : ℕ) → q < operations kept → (history_of records).kind (original p q) ≡ (history_of kept).kind q
  kind_same q h = rw (same_return_record together p q h, same_call_record p q h)

  value_same : (q : ℕ) → q < operations kept → (history_of records).value (original p q) ≡ (history_of kept).value q
  value_same q h = rw (same_return_record together p q h, same_call_record p q h)

  -- so the original of an operation with a value has one
  original_valued : (q : ℕ) → HasValue (history_of kept) q → HasValue (history_of records) (original p q)
  original_valued q x = record { known = original_known p q x.known; valued = omega (arith, x.valued, kind_same q x.known) }

-- Operation q of the kept records is operation o of all: its call and its return are the same records.
pub record SameRecords (records kept : List Record) (o q : ℕ) : Type 0 where
  pub call : record_of kept (call_index kept q) ≡ record_of records (call_index records o)
  pub return : record_of kept (return_index kept (call_index kept q)) ≡ record_of records (return_index records (call_index records o))
  -- where there is no return, these are the records behind the last
  pub returned : (return_index records (call_index records o) < length records) ↔ (return_index kept (call_index kept q) < length kept)

module _ {marked : ℕ → Bool} {records kept : List Record} (together : Together marked records) (p : Picked marked records kept)
    {log log' : List ℕ} (read : PartialLog log records) (read' : PartialLog log' kept) (whole : OnValues marked records) where
  -- openness and precedence are told by returns that are there, and by their ticks and those of calls, so they are kept too
  returned_same : (q : ℕ) → q < operations kept → Returned (history_of records) (original p q) ↔ Returned (history_of kept) q
  returned_same q h =
      Iff.trans (position_returned records (return_index records (call_index records (original p q))))
      (Iff.trans (return_there together p q h) (Iff.symm (position_returned kept (return_index kept (call_index kept q)))))

  precedes_same : (o q : ℕ) → o < operations kept → q < operations kept → Precedes (history_of records) (original p o) (original p q) ↔ Precedes (history_of kept) o q
  precedes_same o q h k =
      Iff.trans (precedes_by_ticks read.regular (original p o) (original p q) (original_known p o h) (original_known p q k))
      (Iff.trans (down, up) (Iff.symm (precedes_by_ticks read'.regular o q h k)))
    where
      down : PrecedesByTicks records (original p o) (original p q) → PrecedesByTicks kept o q
      down b = record { returned = (return_there together p o h).0 b.returned; lower = rw (same_return_record together p o h, same_call_record p q k) b.lower }

      up : PrecedesByTicks kept o q → PrecedesByTicks records (original p o) (original p q)
      up b = record { returned = (return_there together p o h).1 b.returned; lower = rw (same_return_record together p o h, same_call_record p q k) at b.lower }

  -- so the history of the kept records is a part of the history of all
  pub picked_part : Part (history_of records) (history_of kept)
  picked_part = record {
    to = original p;
    known = original_known p;
    one = original_one p;
    kind = kind_same together p;
    returned = returned_same;
    precedes = precedes_same;
    value = λ o q x y. rw (value_same together p o x.known, value_same together p q y.known) Iff.rfl;
    whole = λ o q x y e. original_every p o x.known (whole o (original p q) x (original_valued together p q y) e (original_only p q y.known));
  }

  -- an operation is kept if its call is marked
  pub picked_kept : (o : ℕ) → o < operations records → marked (call_index records o) ≡ true → Kept picked_part o
  unfolding picked_part
  picked_kept = original_every p

  -- and only then; all its records are kept
  pub picked_only : (q : ℕ) → q < operations kept → (marked (call_index records (picked_part.to q)) ≡ true) × SameRecords records kept (picked_part.to q) q
  unfolding picked_part
  picked_only q h = (original_only p q h, record { call = same_call_record p q h; return = same_return_record together p q h; returned = return_there together p q h })
