-- `note` meets its contract: the laws of `Noting.antt` say what a call and what a return do to the table.
use Rattle.history.proofs.Noting.{noted_call, noted_return, add_fits, remove_fits}
use mathlib.Core.Path.{◌≡◌, refl}
use Rattle.std.proofs.Common.{rules}
use Rattle.record.specs.declared.record.Removed.TheVariants.{Value, Empty}
use Rattle.record.specs.declared.record.Event.TheVariants.{ReturnRemove}
use Rattle.history.proofs.fill.note.Goals as goal

pub returns-in-CallAdd : goal.returns-in-CallAdd
returns-in-CallAdd c = noted_call c.in-CallAdd.is refl c.enter.ensures

pub returns-in-CallRemove : goal.returns-in-CallRemove
returns-in-CallRemove c = noted_call c.in-CallRemove.is refl c.enter-in-CallRemove.ensures

pub returns-in-ReturnAdd : goal.returns-in-ReturnAdd
returns-in-ReturnAdd c = noted_return c.in-ReturnAdd.is refl (add_fits _ _ c.value_of-value.ensures) c.call_of-call.ensures c.enter-in-ReturnAdd.ensures

pub returns-in-ReturnRemove-Value : goal.returns-in-ReturnRemove-Value
returns-in-ReturnRemove-Value c =
    let is : c.args.step.record.event ≡ ReturnRemove (Value c.in-ReturnRemove-Value.value) = search rules in
    noted_return is refl (remove_fits _ _) c.call_of-call-in-ReturnRemove-Value.ensures c.enter-in-ReturnRemove-Value.ensures

pub returns-in-ReturnRemove-Empty : goal.returns-in-ReturnRemove-Empty
returns-in-ReturnRemove-Empty c =
    let is : c.args.step.record.event ≡ ReturnRemove Empty = search rules in
    noted_return is refl (remove_fits _ _) c.call_of-call-in-ReturnRemove-Empty.ensures c.enter-in-ReturnRemove-Empty.ensures
