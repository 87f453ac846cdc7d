-- Where two neighbouring records trade places that may, the histories are alike: an operation goes where its call goes, and its
-- return goes with it.
use Prim.Native.Nat.{ℕ, ◌<◌}
use native.Mathlib.Omega.{arith}
use native.Mathlib.Decide.{dec_lt}
use mathlib.Core.Path.{◌≡◌, sym, ap, ◌∙◌}
use mathlib.Core.Logic.Iff
use mathlib.Core.List.{List}
use lib.ListN.{length, take}
use Rattle.record.specs.declared.record.Event.{Event}
use Rattle.record.specs.declared.record.Record.{Record}
use Rattle.reader.specs.Log.{is_call, operations}
use Rattle.reader.specs.Readable.{record_of, Orderly}
use Rattle.history.specs.History.{Returned, Precedes}
use Rattle.history.specs.Operations.{call_index, return_index, kind_by, value_by, history_of}
use Rattle.history.proofs.Numbering.{Called, call_of_lem, rank_known, index_of_rank, return_within, return_is_next, next_is_return}
use Rattle.history.proofs.Positions.{position_returned}
use Rattle.history.proofs.Laws.{return_no_call, precedes_by_ticks}
use Rattle.violations.specs.Parts.{Alike}
use Rattle.archive.specs.Trade.{traded, Tradable}
use Rattle.archive.proofs.Exchange.{exchange, exchange_back, exchange_above}
use Rattle.archive.proofs.Trade.{Trades, trades_back, index_there, next_trades, trades_orderly, traded_trades}

-- the index of an operation's return
abbrev return_of : List Record → ℕ → ℕ
return_of records o = return_index records (call_index records o)

-- the number that an operation has after the trade: that of its call in its new place
abbrev renumbered : List Record → List Record → ℕ → ℕ → ℕ
renumbered records records' i o = operations (take (exchange i (call_index records o)) records')

-- the return of a call stays its return, both in their new places
return_trades : {records records' : List Record} {i : ℕ} → Trades records records' i → (c : ℕ) → c < length records → return_index records' (exchange i c) ≡ exchange i (return_index records c)
return_trades {records} {records'} {i} t c h = go (dec_lt (return_index records c) (length records)) (dec_lt (return_index records' (exchange i c)) (length records'))
  where
    go : Dec (return_index records c < length records) → Dec (return_index records' (exchange i c) < length records') → return_index records' (exchange i c) ≡ exchange i (return_index records c)
    go (yes l) d = next_is_return records' (exchange i c) (exchange i (return_index records c)) (next_trades t (return_is_next records c l))
    go (no l) (yes m) =
        let next = rw (exchange_back i c) at (next_trades (trades_back t) (return_is_next records' (exchange i c) m)) in
        absurd (omega (arith, next.there, next_is_return records c _ next))
    go (no l) (no m) =
        let none : return_index records c ≡ length records = omega (arith, return_within records c h) in
        let none' : return_index records' (exchange i c) ≡ length records = omega (arith, t.long, return_within records' (exchange i c) (index_there t c h)) in
        rw (none, none') (sym (exchange_above i (length records) t.there))

-- an operation and its new number
module _ {records records' : List Record} {i : ℕ} (t : Trades records records' i) (o : ℕ) (known : o < operations records) where
  abbrev call : ℕ
  call = call_index records o

  call_is : Called records o
  call_is = call_of_lem records o known

  -- its call is a call in its new place
  call_there : is_call (record_of records' (exchange i call)).event ≡ 1
  call_there = ap is_call (t.event call) ∙ call_is.is_call_lem

  -- the new number is one of an operation
  renumbered_known : renumbered records records' i o < operations records'
  renumbered_known = rank_known records' (exchange i call) (index_there t call call_is.below) call_there

  -- that operation has its call and its return in their new places
  renumbered_call : call_index records' (renumbered records records' i o) ≡ exchange i call
  renumbered_call = index_of_rank records' (exchange i call) (index_there t call call_is.below) call_there

  renumbered_return : return_of records' (renumbered records records' i o) ≡ exchange i (return_of records o)
  renumbered_return = ap (return_index records') renumbered_call ∙ return_trades t call call_is.below

  -- the trade back gives the old number
  renumbered_back : renumbered records' records i (renumbered records records' i o) ≡ o
  renumbered_back = ap (λ c. operations (take (exchange i c) records)) renumbered_call ∙ ap (λ c. operations (take c records)) (exchange_back i call) ∙ call_is.rank

  -- what the events of its call and its return tell, they tell still
  told_trades : (tell : Event → Event → ℕ)
      → tell (record_of records' (call_index records' (renumbered records records' i o))).event (record_of records' (return_of records' (renumbered records records' i o))).event
      ≡ tell (record_of records call).event (record_of records (return_of records o)).event
  told_trades tell = rw (renumbered_return, renumbered_call, t.event call, t.event (return_of records o))

module _ {records records' : List Record} {i : ℕ} (t : Trades records records' i) (orderly : Orderly records) where
  -- what had returned has returned
  returned_trades : (o : ℕ) → o < operations records → Returned (history_of records) o → Returned (history_of records') (renumbered records records' i o)
  returned_trades o h returned =
      let there : return_of records o < length records = (position_returned records (return_of records o)).0 returned in
      rw (renumbered_return t o h) ((position_returned records' (exchange i (return_of records o))).1 (index_there t (return_of records o) there))

  -- what preceded precedes, since a return and a call compare by their ticks as before
  precedes_trades : (o p : ℕ) → o < operations records → p < operations records → Precedes (history_of records) o p → Precedes (history_of records') (renumbered records records' i o) (renumbered records records' i p)
  precedes_trades o p h k precedes =
      let call = call_of_lem records p k in
      let before = (precedes_by_ticks orderly.regular o p h k).0 precedes in
      let return = return_no_call orderly.regular o h before.returned in
      let still = (t.ticks (return_of records o) (call_index records p) before.returned call.below return call.is_call_lem).0 before.lower in
      (precedes_by_ticks (trades_orderly t orderly).regular (renumbered records records' i o) (renumbered records records' i p) (renumbered_known t o h) (renumbered_known t p k)).1
      (record {
        returned = rw (renumbered_return t o h) (index_there t (return_of records o) before.returned);
        lower = rw (renumbered_return t o h, renumbered_call t p k, t.tick (exchange i (return_of records o)), t.tick (exchange i (call_index records p))) still;
      })

-- so the histories are alike: what a trade keeps one way it keeps the other way, since it goes back
trades_alike : {records records' : List Record} {i : ℕ} → Trades records records' i → Orderly records → Alike (history_of records) (history_of records')
trades_alike {records} {records'} {i} t orderly = record {
  to = to;
  from = renumbered records' records i;
  to_known = renumbered_known t;
  from_known = renumbered_known back;
  back = renumbered_back t;
  forth = renumbered_back back;
  kind = λ o h. told_trades t o h kind_by;
  returned = λ o h. (λ x. rw (renumbered_back t o h) at (returned_trades back orderly' (to o) (renumbered_known t o h) x), returned_trades t orderly o h);
  precedes = λ o p h k. (
    λ x. rw (renumbered_back t o h, renumbered_back t p k) at (precedes_trades back orderly' (to o) (to p) (renumbered_known t o h) (renumbered_known t p k) x),
    precedes_trades t orderly o p h k,
  );
  value = λ o p x y. rw (told_trades t o x.known value_by, told_trades t p y.known value_by) Iff.rfl;
}
  where
    to : ℕ → ℕ
    to = renumbered records records' i

    back : Trades records' records i
    back = trades_back t

    orderly' : Orderly records'
    orderly' = trades_orderly t orderly

-- where two neighbours trade places, the histories are alike
pub traded_alike : {records : List Record} {i : ℕ} → Orderly records → Tradable records i → Alike (history_of records) (history_of (traded i records))
traded_alike orderly tradable = trades_alike (traded_trades orderly tradable) orderly
