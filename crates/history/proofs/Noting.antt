-- A record is noted in the tables: a call begins an operation, a return ends one.
use Prim.Native.Nat.{ℕ, ◌+◌}
use native.Mathlib.Omega.{arith}
use mathlib.Core.Path.{◌≡◌, refl, ap, ◌∙◌}
use mathlib.Core.List.{List}
use Rattle.record.specs.Record.{value_in}
use Rattle.record.specs.declared.record.Removed.{Removed}
use Rattle.record.specs.declared.record.Event.{Event}
use Rattle.record.specs.declared.record.Event.TheVariants.{CallAdd, CallRemove, ReturnAdd, ReturnRemove}
use Rattle.record.specs.declared.record.Record.{Record}
use Rattle.reader.specs.Log.{is_call, leaves}
use Rattle.reader.specs.Readable.{record_of, asks, Regular}
use Rattle.history.specs.History.{add}
use Rattle.history.specs.Positions.{position_of, end_of}
use Rattle.history.specs.Operations.{call_index, remove_kind, kind_by, value_by}
use Rattle.history.specs.Steps.{StepOf}
use Rattle.history.specs.declared.walk.Step.{Step}
use Rattle.history.specs.Table.{value_at, call_at, Entered, Filled, Noted}
use Rattle.history.proofs.Filling.{filled_call, Ends, return_ends, filled_return}

-- a record that is a call is noted
pub noted_call : {step : Step} {at end : ℕ} {table table' : List ℕ} {e : Event} → step.record.event ≡ e → is_call e ≡ 1
    → Entered table step.operation (kind_by e CallRemove) (value_by e CallRemove) at end table' → Noted step at end table table'
noted_call {step} {at} {end} {table} {table'} {e} is c entered = record { kept = kept }
  where
    kept : (records : List Record) (old : List ℕ) → Regular records → end_of records ≡ end → StepOf records step → position_of records step.index ≡ at
        → Filled records old step.index table → Filled records old (step.index + 1) table'
    kept records old regular whole told placed filled =
        let event : (record_of records step.index).event ≡ e = ap (λ q. q.event) told.here ∙ is in
        filled_call regular told.there filled told.owner (ap is_call event ∙ c) (rw (event, placed, whole) entered)

-- What a return tells fits the call that it ends: the kind and the value that are entered are those of the operation, whose call had entered this value.
abbrev Fits : ℕ → Event → ℕ → ℕ → Type 0
Fits entered e kind value = (call : Event) → leaves call ≡ asks e → entered ≡ value_by call CallRemove → (kind ≡ kind_by call e) × (value ≡ value_by call e)

pub add_fits : (entered value : ℕ) → value ≡ entered → Fits entered ReturnAdd add value
add_fits entered value v (CallAdd w) l e = (refl, v ∙ e)
add_fits entered value v CallRemove l e = absurd (omega arith)
add_fits entered value v ReturnAdd l e = absurd (omega arith)
add_fits entered value v (ReturnRemove x) l e = absurd (omega arith)

pub remove_fits : (entered : ℕ) (x : Removed) → Fits entered (ReturnRemove x) (remove_kind (ReturnRemove x)) (value_in (ReturnRemove x))
remove_fits entered x (CallAdd w) l e = absurd (omega arith)
remove_fits entered x CallRemove l e = (refl, refl)
remove_fits entered x ReturnAdd l e = absurd (omega arith)
remove_fits entered x (ReturnRemove y) l e = absurd (omega arith)

-- a record that is a return is noted
pub noted_return : {step : Step} {at end : ℕ} {table table' : List ℕ} {e : Event} {kind value call : ℕ} → step.record.event ≡ e → is_call e ≡ 0
    → Fits (value_at table step.operation) e kind value → call ≡ call_at table step.operation
    → Entered table step.operation kind value call at table' → Noted step at end table table'
noted_return {step} {at} {end} {table} {table'} {e} is c fits called entered = record { kept = kept }
  where
    kept : (records : List Record) (old : List ℕ) → Regular records → end_of records ≡ end → StepOf records step → position_of records step.index ≡ at
        → Filled records old step.index table → Filled records old (step.index + 1) table'
    kept records old regular whole told placed filled =
        let event : (record_of records step.index).event ≡ e = ap (λ q. q.event) told.here ∙ is in
        let return = ap is_call event ∙ c in
        let ends : Ends records step.index step.operation = return_ends regular told.there filled told.owner return in
        let was = filled.pending step.operation ends.below (omega (arith, ends.returns)) in
        let fit = fits (record_of records (call_index records step.operation)).event (ends.asked ∙ ap asks event) was.value_is in
        filled_return regular told.there filled told.owner return (rw (event, ← fit.0, ← fit.1, ← was.call_is, ← called, placed) entered)
