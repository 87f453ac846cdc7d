use Prim.Native.Nat.{◌-◌}
use Rattle.history.proofs.Walking.{Keeping}
use Rattle.projection.proofs.Marking.{Marking}
use Rattle.projection.proofs.mark.mark.Given as given

-- `mark` meets its contract. What the loop keeps of the records before that of the walk is `Marking`: they are marked.
abbrev pub invariant-loop-step : given.invariant-loop-step
invariant-loop-step l = Keeping l.log l.records (Marking l.kept l.marks) l.walk

abbrev pub decreases-loop-step : given.decreases-loop-step
decreases-loop-step l = l.walk.records - l.walk.index
