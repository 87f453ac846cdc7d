use Rattle.search.specs.Bounds.{BoundTable}
use Rattle.search.proofs.bounds.fill_bounds.Given as given

-- `fill_bounds` meets its contract. The loop's invariant: o is within the operations, and the table is right from o on.
abbrev pub invariant-loop-o : given.invariant-loop-o
invariant-loop-o l = BoundTable l.h.count l.h.end l.limit l.o l.bound
