use Prim.Native.Nat.{◌-◌}
use Rattle.history.proofs.Looking.{Looking}
use Rattle.history.proofs.batches.batch_of.Given as given

-- `batch_of` meets its contract. The loop's invariant is `Looking`: the records before `stop` have no higher tick than the one whose batch it is.
abbrev pub invariant-loop-stop : given.invariant-loop-stop
invariant-loop-stop l = Looking l.log l.step.index l.end l.step.called l.tick l.at l.stop l.calls

abbrev pub decreases-loop-stop : given.decreases-loop-stop
decreases-loop-stop l = l.end - l.stop
