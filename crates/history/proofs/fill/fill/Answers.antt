-- `fill` meets its contract. What the loop keeps of the records before that of the walk is `Reached`: the table holds them.
use Rattle.history.proofs.Walking.{keeping_starts}
use Rattle.history.proofs.Reaching.{reached_start, reached_beside, reached_room, reached_next, reached_end}
use Rattle.history.proofs.fill.fill.Goals as goal

pub loop-step-init : goal.loop-step-init
loop-step-init c = keeping_starts c.new-walk.ensures (reached_start _ c.requires.1)

pub place_of-place-requires : goal.place_of-place-requires
place_of-place-requires c = reached_beside c.loop-step.invariant c.in-Some.ensures

pub note-requires : goal.note-requires
note-requires c = reached_room c.loop-step.invariant c.in-Some.ensures

pub loop-step-preserved : goal.loop-step-preserved
loop-step-preserved c = reached_next c.loop-step.invariant c.in-Some.ensures c.place_of-place.ensures c.note.ensures

pub returns : goal.returns
returns c = reached_end c.loop-step.invariant c.in_default.ensures.1
