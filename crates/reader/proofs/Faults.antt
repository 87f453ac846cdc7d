-- What it means that nothing is wrong with a record behind those before it, in both directions.
use Prim.Native.Nat.{ℕ, ◌≤◌}
use native.Mathlib.Omega.{arith}
use mathlib.Core.Path.{◌≡◌, refl}
use mathlib.Core.Bool.{Bool, true, false, not}
use mathlib.Core.List.{List}
use lib.Dec.{ltb, eqb}
use borrow.Author.Tests.{ltb-false, le-ltb, eqb-true}
use Rattle.std.specs.Prelude.{Result, Ok, Err, if◌then◌else◌}
use Rattle.record.specs.declared.refusal.Refusal.{Refusal}
use Rattle.record.specs.declared.refusal.Refusal.TheVariants.{TickFell, ClientBusy, TickRepeated, AddedTwice, NoSuchCall}
use Rattle.record.specs.declared.record.Event.{Event}
use Rattle.record.specs.declared.record.Event.TheVariants.{CallAdd, CallRemove, ReturnAdd, ReturnRemove}
use Rattle.record.specs.declared.record.Record.{Record}
use Rattle.reader.specs.Log.{is_call, pending_kind, returned_at, added_values, last_tick, event_fault, fault}
use Rattle.table.specs.Table.{is_in}
use Rattle.reader.specs.Readable.{asks}

pub record NoFault (past : List Record) (r : Record) : Type 0 where
  -- its tick is not below the record before
  pub tick : last_tick past ≤ r.tick
  -- the call that it asks for is pending
  pub asked : pending_kind past r.client ≡ asks r.event
  -- if it is a call, its tick is not that of its client's last return
  pub later : is_call r.event ≡ 1 → returned_at past r.client r.tick ≡ false
  -- a value that it calls to be added is a new one
  pub fresh : (v : ℕ) → r.event ≡ CallAdd v → is_in v (added_values past) ≡ false

-- the parts of an event that nothing is wrong with: the pending call, the tick and the value
pub record Fine (e : Event) (kind : ℕ) (repeats : Bool) (values : List ℕ) : Type 0 where
  pub asked : kind ≡ asks e
  pub later : is_call e ≡ 1 → repeats ≡ false
  pub fresh : (v : ℕ) → e ≡ CallAdd v → is_in v values ≡ false

event_fine : (e : Event) (kind : ℕ) (repeats : Bool) (values : List ℕ) → event_fault e kind repeats values ≡ Ok tt → Fine e kind repeats values
unfolding event_fault
event_fine e kind repeats values ok = go e ok
  where
    -- a test that refuses unless the kind is k, before a further test
    is : (k : ℕ) (refusal : Refusal) (further : Result (Unit {0}) Refusal) (b : Bool) → eqb kind k ≡ b → (if not b then Err refusal else further) ≡ Ok tt → (kind ≡ k) × (further ≡ Ok tt)
    is k refusal further true t z = (eqb-true kind k t, z)
    is k refusal further false t z = cc

    -- a test that refuses if something is so, before a further test
    not_so : (refusal : Refusal) (further : Result (Unit {0}) Refusal) (b : Bool) → (if b then Err refusal else further) ≡ Ok tt → (b ≡ false) × (further ≡ Ok tt)
    not_so refusal further true z = cc
    not_so refusal further false z = (refl, z)

    go : (e : Event) → event_fault e kind repeats values ≡ Ok tt → Fine e kind repeats values
    go (CallAdd w) z =
        let idle = is 0 ClientBusy (if repeats then Err TickRepeated else if is_in w values then Err AddedTwice else Ok tt) (eqb kind 0) refl z in
        let later = not_so TickRepeated (if is_in w values then Err AddedTwice else Ok tt) repeats idle.1 in
        record {
          asked = idle.0;
          later = λ c. later.0;
          fresh = λ v e. let same : w ≡ v = cc in rw same at (not_so AddedTwice (Ok tt) (is_in w values) later.1).0;
        }
    go CallRemove z =
        let idle = is 0 ClientBusy (if repeats then Err TickRepeated else Ok tt) (eqb kind 0) refl z in
        record { asked = idle.0; later = λ c. (not_so TickRepeated (Ok tt) repeats idle.1).0; fresh = λ v e. cc }
    go ReturnAdd z = record { asked = (is 1 NoSuchCall (Ok tt) (eqb kind 1) refl z).0; later = λ c. absurd (omega arith); fresh = λ v e. cc }
    go (ReturnRemove x) z = record { asked = (is 2 NoSuchCall (Ok tt) (eqb kind 2) refl z).0; later = λ c. absurd (omega arith); fresh = λ v e. cc }

pub no_fault : (past : List Record) (r : Record) → fault past r ≡ Ok tt → NoFault past r
unfolding fault
no_fault past r ok = go (ltb r.tick (last_tick past)) refl ok
  where
    go : (b : Bool) → ltb r.tick (last_tick past) ≡ b
        → (if b then Err TickFell else event_fault r.event (pending_kind past r.client) (returned_at past r.client r.tick) (added_values past)) ≡ Ok tt → NoFault past r
    go true t z = cc
    go false t z =
        let fine = event_fine r.event _ _ (added_values past) z in
        record { tick = ltb-false r.tick (last_tick past) t; asked = fine.asked; later = fine.later; fresh = fine.fresh }

-- and back: a record that has these parts has no fault
pub fault_none : {past : List Record} {r : Record} → NoFault past r → fault past r ≡ Ok tt
unfolding fault event_fault
fault_none {past} {r} fine = rw (le-ltb r.tick (last_tick past) fine.tick, fine.asked) (go r.event fine.later fine.fresh)
  where
    go : (e : Event) → (is_call e ≡ 1 → returned_at past r.client r.tick ≡ false) → ((v : ℕ) → e ≡ CallAdd v → is_in v (added_values past) ≡ false)
        → event_fault e (asks e) (returned_at past r.client r.tick) (added_values past) ≡ Ok tt
    go (CallAdd v) later new = rw (later refl, new v refl) refl
    go CallRemove later new = rw (later refl) refl
    go ReturnAdd later new = refl
    go (ReturnRemove x) later new = refl
