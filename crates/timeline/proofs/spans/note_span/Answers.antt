-- `note_span` meets its contract: a call sets start and end, a return sets the end.
use mathlib.Core.Path.{refl}
use Rattle.timeline.proofs.spans.note_span.Goals as goal

pub returns-then-is_call : goal.returns-then-is_call
returns-then-is_call c = let call = rw c.if-is_call.true at c.is_call.ensures in record { starts_are = rw call refl; ends_are = rw call refl }

pub returns-else-is_call : goal.returns-else-is_call
returns-else-is_call c = let return = rw c.if-is_call.false at c.is_call.ensures in record { starts_are = rw return refl; ends_are = rw return refl }
