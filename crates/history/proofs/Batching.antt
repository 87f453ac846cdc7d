-- Positions by batches. A record stands behind those calls and those returns that are taken before it: for a call the calls before it and the returns
-- before its batch, for a return the calls up to the end of its batch and the returns before it.
use Prim.Native.Nat.{ℕ, zero, suc, ◌+◌, ◌≤◌, ◌<◌, min}
use native.Mathlib.Omega.{arith}
use native.Mathlib.Decide.{dec_lt, ℕ_discrete}
use mathlib.Core.Path.{◌≡◌, ap}
use mathlib.Core.Logic.{◌↔◌, ◌⊎◌, inl, inr, ⊎_elim}
use mathlib.Core.List.{List}
use lib.ListN.{length, take}
use lib.Dec.{ltb}
use Rattle.record.specs.declared.record.Record.{Record}
use Rattle.reader.specs.Log.{is_call, operations}
use Rattle.reader.specs.Readable.{record_of, Regular}
use Rattle.history.specs.Positions.{tally, time_of, position_of}
use Rattle.history.specs.Batches.{BatchOf}
use Rattle.history.specs.declared.batches.Batch.{Batch}
use Rattle.reader.proofs.Events.{is_call_small}
use Rattle.history.proofs.Numbering.{rank_step}
use Rattle.history.proofs.Tallies.{counted, uncounted}

-- If the calls that are taken before a time are the first ones, up to record a, and the returns are those up to record b, then so many are taken.
module _ (records : List Record) (time a b : ℕ)
    (calls-taken : (j : ℕ) → j < length records → is_call (record_of records j).event ≡ 1 → (time_of records j < time) ↔ (j < a))
    (returns-taken : (j : ℕ) → j < length records → is_call (record_of records j).event ≡ 0 → (time_of records j < time) ↔ (j < b)) where
  abbrev taken : ℕ → ℕ
  taken m = tally (λ j. ltb (time_of records j) time) m

  abbrev calls : ℕ → ℕ
  calls m = operations (take m records)

  abbrev call? : ℕ → ℕ
  call? m = is_call (record_of records m).event

  -- one record more, up to a bound c: it is taken exactly if it stands before that bound, a call is one more call, and a return is none
  module _ (m c : ℕ) (h : m < length records) where
    abbrev next : ℕ
    next = min (suc m) c

    step_taken : (time_of records m < time) ↔ (m < c) → taken (suc m) + min m c ≡ taken m + next
    step_taken exactly = go (dec_lt m c)
      where
        go : Dec (m < c) → taken (suc m) + min m c ≡ taken m + next
        go (yes l) = omega (arith, counted (time_of records) time m (exactly.1 l))
        go (no l) = let later : time_of records m < time → ⊥ = λ t. l (exactly.0 t) in omega (arith, uncounted (time_of records) time m (omega arith))

    step_calls : Dec (m < c) → ((m < c) × (calls next ≡ calls (min m c) + call? m)) ⊎ ((c ≤ m) × (calls next ≡ calls (min m c)))
    step_calls (yes l) =
        let here : min m c ≡ m = omega arith in
        let there : next ≡ m + 1 = omega arith in
        inl (l, rw (there, here) (rank_step records m h))
    step_calls (no l) = let same : next ≡ min m c = omega arith in inr (omega arith, ap calls same)

    step_call : call? m ≡ 1 → calls next + min m c ≡ calls (min m c) + next
    step_call e = ⊎_elim (λ s. omega (arith, s.0, s.1)) (λ s. omega (arith, s.0, s.1)) (step_calls (dec_lt m c))

    step_return : call? m ≡ 0 → calls next ≡ calls (min m c)
    step_return e = ⊎_elim (λ s. omega (arith, s.1)) (λ s. s.1) (step_calls (dec_lt m c))

  taken_first : (m : ℕ) → m ≤ length records → taken m + calls (min m b) ≡ calls (min m a) + min m b
  unfolding tally
  taken_first zero h =
      let at_a : min 0 a ≡ 0 = omega arith in
      let at_b : min 0 b ≡ 0 = omega arith in
      rw (at_a, at_b) (omega arith)
  taken_first (suc m) h = go (ℕ_discrete (call? m) 1) (taken_first m (omega arith))
    where
      there : m < length records
      there = omega arith

      go : Dec (call? m ≡ 1) → taken m + calls (min m b) ≡ calls (min m a) + min m b → taken (suc m) + calls (min (suc m) b) ≡ calls (min (suc m) a) + min (suc m) b
      go (yes e) rest = omega (arith, step_taken m a there (calls-taken m there e), step_call m a there e, step_call m b there e)
      go (no n) rest =
          let e : call? m ≡ 0 = omega (arith, is_call_small (record_of records m).event) in
          omega (arith, step_taken m b there (returns-taken m there e), step_return m a there e, step_return m b there e)

  pub taken_all : a ≤ length records → b ≤ length records → taken (length records) + calls b ≡ calls a + b
  taken_all la lb =
      let at_a : min (length records) a ≡ a = omega arith in
      let at_b : min (length records) b ≡ b = omega arith in
      rw (at_a, at_b) at (taken_first (length records) (omega arith))

-- a batch starts no later than with its record
pub start_within : {records : List Record} {i : ℕ} {b : Batch} → i < length records → (batch : BatchOf records i b) → batch.start ≤ i
start_within {i = i} h batch = go (dec_lt i batch.start)
  where
    go : Dec (i < batch.start) → batch.start ≤ i
    go (yes l) = absurd (omega (arith, (batch.starts i h).1 l))
    go (no l) = omega arith

module _ {records : List Record} (regular : Regular records) {i : ℕ} (h : i < length records) {b : Batch} (batch : BatchOf records i b) where
  abbrev is_call_lem : ℕ → ℕ
  is_call_lem j = is_call (record_of records j).event

  -- of one sort, calls or returns, those before record i are taken before it
  alike : (j : ℕ) → j < length records → is_call_lem j ≡ is_call_lem i → (time_of records j < time_of records i) ↔ (j < i)
  alike j k e = go (dec_lt j i)
    where
      go : Dec (j < i) → (time_of records j < time_of records i) ↔ (j < i)
      go (yes l) = (λ t. l, λ t. omega (arith, regular.ticks j i (omega arith) h))
      go (no l) = (λ t. absurd (omega (arith, regular.ticks i j (omega arith) k)), λ t. absurd (l t))

  pub call_position : is_call_lem i ≡ 1 → position_of records i ≡ b.returns + operations (take i records)
  unfolding position_of
  call_position call = omega (arith, batch.returns, taken_all records (time_of records i) i batch.start calls returns (omega arith) (omega (arith, start_within h batch)))
    where
      calls : (j : ℕ) → j < length records → is_call_lem j ≡ 1 → (time_of records j < time_of records i) ↔ (j < i)
      calls j k e = alike j k (omega arith)

      returns : (j : ℕ) → j < length records → is_call_lem j ≡ 0 → (time_of records j < time_of records i) ↔ (j < batch.start)
      returns j k e = (λ t. (batch.starts j k).0 (omega (arith, regular.few)), λ l. omega (arith, (batch.starts j k).1 l, regular.few))

  pub return_position_lem : is_call_lem i ≡ 0 → position_of records i + operations (take i records) ≡ b.calls + i
  unfolding position_of
  return_position_lem return = omega (arith, batch.calls, taken_all records (time_of records i) b.stop i calls returns batch.within (omega arith))
    where
      calls : (j : ℕ) → j < length records → is_call_lem j ≡ 1 → (time_of records j < time_of records i) ↔ (j < b.stop)
      calls j k e = (λ t. (batch.stops j k).0 (omega (arith, regular.few)), λ l. omega (arith, (batch.stops j k).1 l, regular.few))

      returns : (j : ℕ) → j < length records → is_call_lem j ≡ 0 → (time_of records j < time_of records i) ↔ (j < i)
      returns j k e = alike j k (omega arith)
