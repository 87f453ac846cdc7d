use Prim.Native.Nat.{◌-◌}
use Rattle.history.proofs.Walking.{Keeping}
use Rattle.timeline.proofs.Spanning.{Spanning}
use Rattle.timeline.proofs.spans.span.Given as given

-- `span` meets its contract. What the loop keeps of the records before that of the walk is `Spanning`: the spans of the operations that they call are
-- noted, as far as they tell.
abbrev pub invariant-loop-step : given.invariant-loop-step
invariant-loop-step l = Keeping l.log l.records (Spanning l.starts l.ends) l.walk

abbrev pub decreases-loop-step : given.decreases-loop-step
decreases-loop-step l = l.walk.records - l.walk.index
