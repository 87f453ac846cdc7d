-- The laws of positions: all that is known above of where the records of a log stand in time.
use Prim.Native.Nat.{ℕ, ◌<◌}
use native.Mathlib.Omega.{arith}
use native.Mathlib.Decide.{dec_lt, ℕ_discrete}
use mathlib.Core.Path.{◌≡◌}
use mathlib.Core.Logic.{◌↔◌}
use mathlib.Core.List.{List}
use lib.ListN.{length}
use borrow.Author.Tests.{lt-ltb, le-ltb}
use Rattle.record.specs.declared.record.Record.{Record}
use Rattle.reader.specs.Log.{is_call}
use Rattle.reader.specs.Readable.{record_of, Next, Regular}
use Rattle.history.specs.Positions.{time_of, position_of, end_of, return_position}
use Rattle.reader.proofs.Events.{is_call_small}
use Rattle.history.proofs.Tallies.{rank_order, rank_within}

module _ (records : List Record) where
  -- records have their positions in the order in which they are taken
  pub position_order : (i j : ℕ) → i < length records → (position_of records i < position_of records j) ↔ (time_of records i < time_of records j)
  unfolding position_of
  position_order i j h = rank_order (time_of records) (length records) i j h

  -- they are below the number of records, so that there is one more below the end
  pub position_within : (i : ℕ) → i < length records → position_of records i < length records
  unfolding position_of
  position_within i h = rank_within (time_of records) (length records) i h

  -- a return stands below the end exactly if there is one
  pub position_returned : (i : ℕ) → (return_position records i < end_of records) ↔ (i < length records)
  position_returned i = go (dec_lt i (length records))
    where
      go : Dec (i < length records) → (return_position records i < end_of records) ↔ (i < length records)
      go (yes l) = rw (lt-ltb i (length records) l) (λ b. l, λ m. omega (arith, position_within i m))
      go (no l) = rw (le-ltb i (length records) (omega arith)) (omega arith)

module _ {records : List Record} (regular : Regular records) where
  -- no two records share one
  pub position_apart : (i j : ℕ) → i < length records → j < length records → position_of records i ≡ position_of records j → i ≡ j
  position_apart i j h k e =
      let not_lower : time_of records i < time_of records j → ⊥ = λ l. omega (arith, (position_order records i j h).1 l) in
      let not_higher : time_of records j < time_of records i → ⊥ = λ l. omega (arith, (position_order records j i k).1 l) in
      omega (arith, regular.few, is_call_small (record_of records i).event, is_call_small (record_of records j).event)

  -- a client's records stand one behind the other: a call before its return even within a tick, and a return has a lower tick than the next call
  pub position_next : (i j : ℕ) → Next records i j → position_of records i < position_of records j
  position_next i j next = (position_order records i j (omega (arith, next.later, next.there))).1 (go (ℕ_discrete (is_call (record_of records j).event) 1))
    where
      go : Dec (is_call (record_of records j).event ≡ 1) → time_of records i < time_of records j
      go (yes c) = omega (arith, regular.rises i j next c, is_call_small (record_of records i).event, next.there, regular.few, next.later)
      go (no c) =
          omega (arith, regular.ticks i j (omega (arith, next.later)) next.there, is_call_small (record_of records j).event, next.later)

  -- calls stand one behind the other
  pub position_calls : (i j : ℕ) → i < j → j < length records → is_call (record_of records i).event ≡ 1 → is_call (record_of records j).event ≡ 1
      → position_of records i < position_of records j
  position_calls i j l h c d = (position_order records i j (omega arith)).1 (omega (arith, c, d, regular.ticks i j (omega arith) h))

  -- a return stands before a call exactly if it has the lower tick
  pub position_precedes : (i j : ℕ) → i < length records → j < length records → is_call (record_of records i).event ≡ 0 → is_call (record_of records j).event ≡ 1
      → (position_of records i < position_of records j) ↔ ((record_of records i).tick < (record_of records j).tick)
  position_precedes i j h k c d = (
    λ l. omega (arith, c, d, (position_order records i j h).0 l, regular.few),
    λ l. (position_order records i j h).1 (omega (arith, c, d, regular.few)),
  )
