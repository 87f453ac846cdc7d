-- `mark` meets its contract. What the loop keeps of the records before that of the walk is `Marking`: they are marked.
use Rattle.history.proofs.Walking.{keeping_starts}
use Rattle.projection.proofs.Marking.{marking_starts, marking_next, marking_ends}
use Rattle.projection.proofs.mark.mark.Goals as goal

pub loop-step-init : goal.loop-step-init
loop-step-init c = keeping_starts c.new-walk.ensures (marking_starts c.requires.1)

pub bounds-kept-step : goal.bounds-kept-step
bounds-kept-step c = c.in-Some.ensures.owner_small

pub bounds-marks-step : goal.bounds-marks-step
bounds-marks-step c = c.in-Some.ensures.index_small

pub loop-step-preserved : goal.loop-step-preserved
loop-step-preserved c = marking_next c.loop-step.invariant c.in-Some.ensures

pub returns : goal.returns
returns c = marking_ends c.loop-step.invariant c.in_default.ensures.1
