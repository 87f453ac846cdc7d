use Prim.Native.Nat.{◌-◌}
use Rattle.history.proofs.Walking.{Keeping}
use Rattle.history.proofs.Reaching.{Reached}
use Rattle.history.proofs.fill.fill.Given as given

-- `fill` meets its contract. What the loop keeps of the records before that of the walk is `Reached`: the table holds them.
abbrev pub invariant-loop-step : given.invariant-loop-step
invariant-loop-step l = Keeping l.log l.records (Reached l.initial.table l.table l.batch) l.walk

abbrev pub decreases-loop-step : given.decreases-loop-step
decreases-loop-step l = l.walk.records - l.walk.index
