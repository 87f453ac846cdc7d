-- The laws of the history of a readable log, for everything above. specs/History.antt says what each part means.
use Prim.Native.Nat.{ℕ, ◌+◌, ◌≤◌, ◌<◌}
use native.Mathlib.Omega.{arith}
use native.Mathlib.Decide.{dec_lt}
use mathlib.Core.Path.{◌≡◌, refl, sym, ap, ◌∙◌}
use mathlib.Core.Logic.{◌↔◌}
use mathlib.Core.Bool.{Bool, true, false}
use mathlib.Core.List.{List}
use lib.ListN.{length, take, get_or-eq_default}
use borrow.Author.Tests.{lt-ltb, le-ltb}
use Rattle.record.specs.Number.{Bytes}
use Rattle.record.specs.Record.{value_in}
use Rattle.record.specs.declared.record.Removed.{Removed}
use Rattle.record.specs.declared.record.Removed.TheVariants.{Value, Empty}
use Rattle.record.specs.declared.record.Event.{Event}
use Rattle.record.specs.declared.record.Event.TheVariants.{CallAdd, CallRemove, ReturnAdd, ReturnRemove}
use Rattle.record.specs.declared.record.Record.{Record}
use Rattle.reader.specs.Log.{is_call, leaves, operations, has_pending_remove}
use Rattle.reader.specs.Readable.{record_of, Regular, Unreturned, ReadableLog}
use Rattle.reader.proofs.Laws.{readable_orderly, none_pending, some_pending}
use Rattle.history.specs.History.{add, empty_remove, no_kind, Returned, Precedes, Lawful, Lone, RemovesReturned}
use Rattle.history.specs.Positions.{position_of, end_of}
use Rattle.history.specs.Operations.{call_index, return_index, value_by, history_of, PrecedesByTicks}
use Rattle.history.proofs.Numbering.{Called, call_of_lem, same_call, index_of_rank, rank_known, calls_rise, return_is_next, next_is_return, next_of_one}
use Rattle.reader.proofs.Events.{asks_remove, turns_change}
use Rattle.history.proofs.Positions.{position_within, position_apart, position_next, position_calls, position_returned, position_precedes}

-- a return is no call
pub return_no_call : {records : List Record} → Regular records → (o : ℕ) → o < operations records → return_index records (call_index records o) < length records
    → is_call (record_of records (return_index records (call_index records o))).event ≡ 0
return_no_call {records} regular o h l =
    let follows = regular.next (call_index records o) (return_index records (call_index records o)) (return_is_next records (call_index records o) l) in
    omega (arith, (call_of_lem records o h).is_call_lem, turns_change (record_of records (call_index records o)).event (record_of records (return_index records (call_index records o))).event follows)

-- Document 02, change 3: "an operation precedes another exactly if its return's tick is lower than the other's call's tick". Precedence by positions,
-- on which everything above rests, is that.
pub precedes_by_ticks : {records : List Record} → Regular records → (o p : ℕ) → o < operations records → p < operations records
    → Precedes (history_of records) o p ↔ PrecedesByTicks records o p
precedes_by_ticks {records} regular o p h k = go (dec_lt return (length records))
  where
    return : ℕ
    return = return_index records (call_index records o)

    call : Called records p
    call = call_of_lem records p k

    go : Dec (return < length records) → Precedes (history_of records) o p ↔ PrecedesByTicks records o p
    go (yes l) =
        let exactly = position_precedes regular return (call_index records p) l call.below (return_no_call regular o h l) call.is_call_lem in
        rw (lt-ltb _ _ l) (λ b. record { returned = l; lower = exactly.0 b }, λ t. exactly.1 t.lower)
    go (no l) =
        let past : length records ≤ return = omega arith in
        rw (le-ltb _ _ past) (λ b. absurd (omega (arith, position_within records (call_index records p) call.below)), λ t. absurd (l t.returned))

module _ {log : List ℕ} {records : List Record} (readable : ReadableLog log records) where
  -- the call and the return of an operation
  abbrev call_of : ℕ → ℕ
  call_of o = call_index records o

  abbrev return_of : ℕ → ℕ
  return_of o = return_index records (call_of o)

  -- what returns below the end returns at the position of its return
  returned_at_lem : (o : ℕ) → return_of o < length records → (history_of records).ret o ≡ position_of records (return_of o)
  returned_at_lem o l = rw (lt-ltb _ _ l) refl

  never_returned : (o : ℕ) → length records ≤ return_of o → (history_of records).ret o ≡ end_of records
  never_returned o l = rw (le-ltb _ _ l) refl

  -- the events of an operation: an add's call, a remove's call and its return, or the call of a remove without return
  data Shape (o : ℕ) : Type 0 where
    adds : (v : ℕ) → (record_of records (call_of o)).event ≡ CallAdd v → Shape o
    removes : (x : Removed) → (record_of records (call_of o)).event ≡ CallRemove → return_of o < length records → (record_of records (return_of o)).event ≡ ReturnRemove x → Shape o
    pends : (record_of records (call_of o)).event ≡ CallRemove → length records ≤ return_of o → Shape o

  shape : (o : ℕ) → o < operations records → Shape o
  shape o h = go (record_of records (call_of o)).event refl call.is_call_lem
    where
      call : Called records o
      call = call_of_lem records o h

      go : (e : Event) → (record_of records (call_of o)).event ≡ e → is_call (record_of records (call_of o)).event ≡ 1 → Shape o
      go (CallAdd v) e c = adds v e
      go CallRemove e c = by (dec_lt (return_of o) (length records))
        where
          by : Dec (return_of o < length records) → Shape o
          by (yes l) =
              let follows = readable.partial.regular.next (call_of o) (return_of o) (return_is_next records (call_of o) l) in
              let (x, back) = asks_remove (record_of records (return_of o)).event (follows ∙ ap leaves e) in
              removes x e l back
          by (no l) = pends e (omega arith)
      go ReturnAdd e c = absurd (omega (arith, ap is_call e))
      go (ReturnRemove x) e c = absurd (omega (arith, ap is_call e))

  -- a remove without return has no kind, and what has no kind is one
  pends_kind : (o : ℕ) → (record_of records (call_of o)).event ≡ CallRemove → length records ≤ return_of o → (history_of records).kind o ≡ no_kind
  pends_kind o e l = rw (e, get_or-eq_default records (record { client = 0; tick = 0; event = CallRemove }) {n = return_of o} l) refl

  kindless : (o : ℕ) → o < operations records → (history_of records).kind o ≡ no_kind → ((record_of records (call_of o)).event ≡ CallRemove) × (length records ≤ return_of o)
  kindless o h k = go (shape o h)
    where
      go : Shape o → ((record_of records (call_of o)).event ≡ CallRemove) × (length records ≤ return_of o)
      go (adds v e) = let z : 1 ≡ no_kind = rw e at k in absurd (omega arith)
      go (removes (Value v) e l r) = let z : 2 ≡ no_kind = rw (e, r) at k in absurd (omega arith)
      go (removes Empty e l r) = let z : 3 ≡ no_kind = rw (e, r) at k in absurd (omega arith)
      go (pends e l) = (e, l)

  kindless_unreturned : (o : ℕ) → o < operations records → (history_of records).kind o ≡ no_kind → Unreturned records (call_of o)
  kindless_unreturned o h k = let (e, l) = kindless o h k in
      record { there = (call_of_lem records o h).below; removes = e; last = λ j next. omega (arith, next_is_return records (call_of o) j next, next.there) }

  kinds : (o : ℕ) → o < operations records → (history_of records).kind o ≤ empty_remove
  kinds o h = go (shape o h)
    where
      go : Shape o → (history_of records).kind o ≤ empty_remove
      go (adds v e) = rw e (omega arith)
      go (removes (Value v) e l r) = rw (e, r) (omega arith)
      go (removes Empty e l r) = rw (e, r) (omega arith)
      go (pends e l) = rw (pends_kind o e l) (omega arith)

  spans : (o : ℕ) → o < operations records → (history_of records).call o < (history_of records).ret o
  spans o h = go (dec_lt (return_of o) (length records))
    where
      go : Dec (return_of o < length records) → (history_of records).call o < (history_of records).ret o
      go (yes l) = rw (returned_at_lem o l) (position_next readable.partial.regular (call_of o) (return_of o) (return_is_next records (call_of o) l))
      go (no l) = rw (never_returned o (omega arith)) (omega (arith, position_within records (call_of o) (call_of_lem records o h).below))

  ends : (o : ℕ) → (history_of records).ret o ≤ end_of records
  ends o = go (dec_lt (return_of o) (length records))
    where
      go : Dec (return_of o < length records) → (history_of records).ret o ≤ end_of records
      go (yes l) = rw (returned_at_lem o l) (omega (arith, position_within records (return_of o) l))
      go (no l) = rw (never_returned o (omega arith)) (omega arith)

  returned : (o : ℕ) → o < operations records → add < (history_of records).kind o → Returned (history_of records) o
  returned o h n = go (shape o h)
    where
      go : Shape o → Returned (history_of records) o
      go (adds v e) = let z : add < 1 = rw e at n in absurd (omega arith)
      go (removes x e l r) = rw (returned_at_lem o l) (omega (arith, position_within records (return_of o) l))
      go (pends e l) = absurd (omega (arith, pends_kind o e l))

  unreturned : (o : ℕ) → o < operations records → (history_of records).kind o ≡ no_kind → Returned (history_of records) o → ⊥
  unreturned o h k back = omega (arith, never_returned o (kindless o h k).1)

  apart : (o p : ℕ) → o < operations records → p < operations records → (history_of records).ret o ≡ (history_of records).call p → ⊥
  apart o p h k e = go (dec_lt (return_of o) (length records))
    where
      go : Dec (return_of o < length records) → ⊥
      go (yes l) =
          let same = position_apart readable.partial.regular (return_of o) (call_of p) l (call_of_lem records p k).below (sym (returned_at_lem o l) ∙ e) in
          omega (arith, return_no_call readable.partial.regular o h l, (call_of_lem records p k).is_call_lem, ap (λ i. is_call (record_of records i).event) same)
      go (no l) = omega (arith, never_returned o (omega arith), position_within records (call_of p) (call_of_lem records p k).below)

  -- one value, one call, one operation
  add_call_lem : (o : ℕ) → o < operations records → (history_of records).kind o ≡ add → (record_of records (call_of o)).event ≡ CallAdd ((history_of records).value o)
  add_call_lem o h k = go (shape o h)
    where
      go : Shape o → (record_of records (call_of o)).event ≡ CallAdd ((history_of records).value o)
      go (adds v e) = rw e refl
      go (removes (Value v) e l r) = let z : 2 ≡ add = rw (e, r) at k in absurd (omega arith)
      go (removes Empty e l r) = let z : 3 ≡ add = rw (e, r) at k in absurd (omega arith)
      go (pends e l) = absurd (omega (arith, pends_kind o e l))

  once : (a b : ℕ) → a < operations records → b < operations records → (history_of records).kind a ≡ add → (history_of records).kind b ≡ add
      → (history_of records).value a ≡ (history_of records).value b → a ≡ b
  once a b h k ka kb e = go (dec_lt (call_of a) (call_of b)) (dec_lt (call_of b) (call_of a))
    where
      in_a : (record_of records (call_of a)).event ≡ CallAdd ((history_of records).value b)
      in_a = rw (← e) (add_call_lem a h ka)

      in_b : (record_of records (call_of b)).event ≡ CallAdd ((history_of records).value b)
      in_b = add_call_lem b k kb

      go : Dec (call_of a < call_of b) → Dec (call_of b < call_of a) → a ≡ b
      go (yes l) d = absurd (readable.partial.regular.once (call_of a) (call_of b) ((history_of records).value b) l (call_of_lem records b k).below in_a in_b)
      go (no l) (yes m) = absurd (readable.partial.regular.once (call_of b) (call_of a) ((history_of records).value b) m (call_of_lem records a h).below in_b in_a)
      go (no l) (no m) = same_call records a b h k (omega arith)

  -- two that have returned and return at one position are one
  pub returns_apart : (o p : ℕ) → o < operations records → p < operations records → Returned (history_of records) o → (history_of records).ret o ≡ (history_of records).ret p → o ≡ p
  returns_apart o p h k back e =
      let at_o : return_of o < length records = (position_returned records (return_of o)).0 back in
      let at_p : return_of p < length records = (position_returned records (return_of p)).0 (rw (← e) back) in
      let same : return_of o ≡ return_of p = position_apart readable.partial.regular (return_of o) (return_of p) at_o at_p (sym (returned_at_lem o at_o) ∙ e ∙ returned_at_lem p at_p) in
      same_call records o p h k (next_of_one records (call_of o) (call_of p) (return_of p) (rw (← same) (return_is_next records (call_of o) at_o)) (return_is_next records (call_of p) at_p))

-- calls stand at positions of records, and so do returns
pub calls_within : {log : List ℕ} {records : List Record} → ReadableLog log records → (o : ℕ) → o < operations records → (history_of records).call o < length records
calls_within {records = records} readable o h = position_within records (call_index records o) (call_of_lem records o h).below

pub returns_within : {log : List ℕ} {records : List Record} → ReadableLog log records → (o : ℕ) → Returned (history_of records) o → (history_of records).ret o < length records
returns_within {records = records} readable o back =
    let at : return_index records (call_index records o) < length records = (position_returned records (return_index records (call_index records o))).0 back in
    rw (lt-ltb _ _ at) (position_within records (return_index records (call_index records o)) at)

-- so the position below the end is behind every call
history_spare : {log : List ℕ} {records : List Record} → ReadableLog log records → (o : ℕ) → o < operations records → (history_of records).call o + 1 < (history_of records).end
history_spare readable o h = omega (arith, calls_within readable o h)

-- at most one remove is pending, since the reader refuses a second one
history_one : {log : List ℕ} {records : List Record} → ReadableLog log records → (o p : ℕ) → o < operations records → p < operations records
    → (history_of records).kind o ≡ no_kind → (history_of records).kind p ≡ no_kind → o ≡ p
history_one {records = records} readable o p h k e f =
    same_call records o p h k (readable.lone (call_index records o) (call_index records p) (kindless_unreturned readable o h e) (kindless_unreturned readable p k f))

pub history_lone : {log : List ℕ} {records : List Record} → ReadableLog log records → Lone (history_of records)
history_lone readable = record { one = history_one readable; spare = λ o p h k e. history_spare readable p k }

-- none is where the reader's test finds none, and else there is one
pub history_returned : {log : List ℕ} {records : List Record} → ReadableLog log records → has_pending_remove records ≡ false → RemovesReturned (history_of records)
history_returned {records = records} readable none o h = go (dec_lt ((history_of records).kind o) add)
  where
    go : Dec ((history_of records).kind o < add) → add ≤ (history_of records).kind o
    go (yes l) = absurd (none_pending records none (call_index records o) (kindless_unreturned readable o h (omega arith)))
    go (no l) = omega arith

pub history_pending : {log : List ℕ} {records : List Record} → ReadableLog log records → has_pending_remove records ≡ true
    → (o : ℕ) × (o < operations records) × ((history_of records).kind o ≡ no_kind)
history_pending {records = records} readable some =
    let (i, u) = some_pending records some in
    let call : is_call (record_of records i).event ≡ 1 = ap is_call u.removes in
    let at : call_index records (operations (take i records)) ≡ i = index_of_rank records i u.there call in
    (operations (take i records), rank_known records i u.there call, pends_kind readable (operations (take i records)) (rw at u.removes) (rw at (never i u (dec_lt (return_index records i) (length records)))))
  where
    never : (i : ℕ) → Unreturned records i → Dec (return_index records i < length records) → length records ≤ return_index records i
    never i u (yes l) = absurd (u.last (return_index records i) (return_is_next records i l))
    never i u (no l) = omega arith

-- the other way round: where every remove has returned, the test finds none
pub history_none_pending : {log : List ℕ} {records : List Record} → ReadableLog log records → RemovesReturned (history_of records) → has_pending_remove records ≡ false
history_none_pending {records = records} readable returned = go (has_pending_remove records) refl
  where
    go : (b : Bool) → has_pending_remove records ≡ b → b ≡ false
    go true e = let (o, known, k) = history_pending readable e in absurd (omega (arith, returned o known))
    go false e = refl

-- the history of a readable log
pub history_lawful : {log : List ℕ} {records : List Record} → ReadableLog log records → Lawful (history_of records)
history_lawful {records = records} readable = record {
  kinds = kinds readable;
  spans = spans readable;
  ends = λ o h. ends readable o;
  returned = returned readable;
  unreturned = unreturned readable;
  apart = apart readable;
  numbered = λ o p l h. position_calls readable.partial.regular (call_index records o) (call_index records p) (calls_rise records o p l h) (call_of_lem records p h).below (call_of_lem records o (omega arith)).is_call_lem (call_of_lem records p h).is_call_lem;
  once = once readable;
}

-- the values of operations fit their four bytes
value_small : (call return : Event) → value_in call < 4294967296 → value_in return < 4294967296 → value_by call return < 4294967296
value_small (CallAdd v) return h k = h
value_small CallRemove return h k = k
value_small ReturnAdd return h k = omega arith
value_small (ReturnRemove x) return h k = omega arith

pub history_values : {log : List ℕ} {records : List Record} → ReadableLog log records → Bytes log → (o : ℕ) → o < operations records
    → (history_of records).value o < 4294967296
history_values {records = records} readable bytes o h =
    value_small (record_of records (call_index records o)).event (record_of records (return_index records (call_index records o))).event
    (small (call_index records o)) (small (return_index records (call_index records o)))
  where
    small : (i : ℕ) → value_in (record_of records i).event < 4294967296
    small i = go (dec_lt i (length records))
      where
        go : Dec (i < length records) → value_in (record_of records i).event < 4294967296
        go (yes l) = ((readable_orderly readable bytes).small i l).value
        go (no l) = rw (get_or-eq_default records (record { client = 0; tick = 0; event = CallRemove }) {n = i} (omega arith)) (omega arith)
