use Rattle.projection.proofs.Measuring.{Measuring}
use Rattle.projection.proofs.measure.measure.Given as given

-- `measure` meets its contract. The loop's invariant is `Measuring`: the marked ones of the records before it are added up.
abbrev pub invariant-loop-marked : given.invariant-loop-marked
invariant-loop-marked l = Measuring l.log l.marks l.count l.bytes l.at l.marked-index
