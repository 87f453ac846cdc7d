-- `span` meets its contract. What the loop keeps of the records before that of the walk is `Spanning`: the spans of the operations that they call are
-- noted, as far as they tell.
use Rattle.history.proofs.Walking.{keeping_starts}
use Rattle.timeline.proofs.Spanning.{spanning_starts, spanning_small, spanning_next, spanning_ends}
use Rattle.timeline.proofs.spans.span.Goals as goal

pub loop-step-init : goal.loop-step-init
loop-step-init c = keeping_starts c.new-walk.ensures (spanning_starts c.requires.2 c.requires.3)

pub note_span-requires : goal.note_span-requires
note_span-requires c = spanning_small c.loop-step.invariant c.requires.1 c.in-Some.ensures

pub loop-step-preserved : goal.loop-step-preserved
loop-step-preserved c = spanning_next c.loop-step.invariant c.requires.1 c.in-Some.ensures c.note_span.ensures

pub returns : goal.returns
returns c = spanning_ends c.loop-step.invariant c.in_default.ensures.1
