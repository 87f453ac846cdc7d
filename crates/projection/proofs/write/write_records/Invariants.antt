use Rattle.projection.proofs.Writing.{Writing}
use Rattle.projection.proofs.write.write_records.Given as given

-- `write_records` meets its contract. The loop's invariant is `Writing`: the marked ones of the records before it are copied.
abbrev pub invariant-loop-marked : given.invariant-loop-marked
invariant-loop-marked l = Writing l.log l.marks l.initial.out l.out l.from l.at l.marked-index
