-- `fault` meets its contract: at each return the kind that the event asks for and the tests that led there say which case of `fault_in` holds.
use Prim.Native.Nat.{ℕ}
use native.Mathlib.Omega.{arith}
use mathlib.Core.Path.{◌≡◌, refl, sym, ◌∙◌}
use mathlib.Core.Bool.{Bool, true, not}
use mathlib.Core.List.{List}
use lib.ListN.{take}
use lib.Dec.{eqb}
use borrow.Author.Tests.{lt-ltb, le-ltb, eq-eqb, ne_eqb}
use Rattle.std.specs.Prelude.{Option, is_some, Ok, Err, if◌then◌else◌}
use Rattle.record.specs.declared.refusal.Refusal.TheVariants.{ClientBusy, TickRepeated, NoSuchCall}
use Rattle.record.specs.declared.record.Event.{Event}
use Rattle.record.specs.declared.record.Event.TheVariants.{CallAdd, CallRemove, ReturnAdd, ReturnRemove}
use Rattle.table.specs.Table.{is_in}
use Rattle.map.specs.Map.{Found}
use Rattle.map.specs.declared.map.Map.{Map}
use Rattle.map.proofs.Laws.{found_is_in}
use Rattle.reader.specs.Log.{event_fault}
use Rattle.reader.specs.Readable.{asks}
use Rattle.reader.specs.Tables.{fault_in}
use Rattle.reader.proofs.Arms.{remove_called}
use Rattle.reader.proofs.scan.Tables.fault.Goals as goal

module _ (kind : ℕ) (repeats : Bool) (values : List ℕ) where
  -- a return is tested against the call that it asks for,
  return-fault : (e : Event) → (asks e ≡ 0 → ⊥) → event_fault e kind repeats values ≡ (if not (eqb kind (asks e)) then Err NoSuchCall else Ok tt)
  unfolding event_fault
  return-fault (CallAdd v) n = absurd (n refl)
  return-fault CallRemove n = absurd (n refl)
  return-fault ReturnAdd n = refl
  return-fault (ReturnRemove x) n = refl

  -- a call is refused where its client is busy,
  call-busy : (e : Event) → asks e ≡ 0 → (kind ≡ 0 → ⊥) → event_fault e kind repeats values ≡ Err ClientBusy
  unfolding event_fault
  call-busy (CallAdd v) z busy = rw (ne_eqb kind 0 busy)
  call-busy CallRemove z busy = rw (ne_eqb kind 0 busy)
  call-busy ReturnAdd z busy = absurd (omega (arith, z))
  call-busy (ReturnRemove x) z busy = absurd (omega (arith, z))

  -- and where the client has returned at its tick
  call-repeats : (e : Event) → asks e ≡ 0 → kind ≡ 0 → repeats ≡ true → event_fault e kind repeats values ≡ Err TickRepeated
  unfolding event_fault
  call-repeats (CallAdd v) z idle so = rw (eq-eqb kind 0 idle, so)
  call-repeats CallRemove z idle so = rw (eq-eqb kind 0 idle, so)
  call-repeats ReturnAdd z idle so = absurd (omega (arith, z))
  call-repeats (ReturnRemove x) z idle so = absurd (omega (arith, z))

-- whether an added value is found is whether it is among those in use
value_found : (added : Map) (x : ℕ) (r : Option ℕ) → Found 0 added.keys added.count x r → is_some r ≡ is_in x (take added.count added.keys)
value_found added x r found = found_is_in added.keys x r (omega (arith, added.linked.within, added.linked.keys_sized)) found

pub returns-then-r-self : goal.returns-then-r-self
unfolding fault_in event_fault
returns-then-r-self c = rw (lt-ltb _ _ c.if-r-self.true)

pub returns-then-pending-kind : goal.returns-then-pending-kind
unfolding fault_in event_fault
returns-then-pending-kind c =
    rw (
      le-ltb _ _ c.if-r-self.false,
      return-fault _ _ _ _ (λ z. c.if-kind-ne0.true (c.asks-kind.ensures ∙ z)),
      ne_eqb _ _ (λ e. c.if-pending-kind.true (e ∙ sym c.asks-kind.ensures)),
    )

pub returns-then-kind-ne0 : goal.returns-then-kind-ne0
unfolding fault_in event_fault
returns-then-kind-ne0 c =
    rw (
      le-ltb _ _ c.if-r-self.false,
      return-fault _ _ _ _ (λ z. c.if-kind-ne0.true (c.asks-kind.ensures ∙ z)),
      eq-eqb _ _ (c.if-pending-kind.false ∙ c.asks-kind.ensures),
    )

pub returns-then-pending-ne0 : goal.returns-then-pending-ne0
unfolding fault_in event_fault
returns-then-pending-ne0 c = rw (le-ltb _ _ c.if-r-self.false, call-busy _ _ _ _ (sym c.asks-kind.ensures ∙ c.if-kind-ne0.false) c.if-pending-ne0.true)

pub returns-then-s : goal.returns-then-s
unfolding fault_in event_fault
returns-then-s c = rw (le-ltb _ _ c.if-r-self.false, call-repeats _ _ _ _ (sym c.asks-kind.ensures ∙ c.if-kind-ne0.false) c.if-pending-ne0.false (lt-ltb _ _ c.if-s.true))

pub returns-then-is_some : goal.returns-then-is_some
unfolding fault_in event_fault
returns-then-is_some c =
    rw (le-ltb _ _ c.if-r-self.false, c.in-CallAdd.is, eq-eqb _ _ c.if-pending-ne0.false, le-ltb _ _ c.if-s.false, sym (value_found c.args.self.now.added _ _ c.find.ensures) ∙ sym c.is_some.ensures ∙ c.if-is_some.true)

pub returns-else-is_some : goal.returns-else-is_some
unfolding fault_in event_fault
returns-else-is_some c =
    rw (le-ltb _ _ c.if-r-self.false, c.in-CallAdd.is, eq-eqb _ _ c.if-pending-ne0.false, le-ltb _ _ c.if-s.false, sym (value_found c.args.self.now.added _ _ c.find.ensures) ∙ sym c.is_some.ensures ∙ c.if-is_some.false)

pub returns-in_default : goal.returns-in_default
unfolding fault_in event_fault
returns-in_default c = rw (le-ltb _ _ c.if-r-self.false, remove_called c.args.r.event c.in_default.not-CallAdd (sym c.asks-kind.ensures ∙ c.if-kind-ne0.false), eq-eqb _ _ c.if-pending-ne0.false, le-ltb _ _ c.if-s.false)
