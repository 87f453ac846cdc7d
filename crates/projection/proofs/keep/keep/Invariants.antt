use Prim.Native.Nat.{◌≤◌}
use Rattle.projection.specs.Marks.{KeptAre}
use Rattle.projection.proofs.keep.keep.Given as given

-- `keep` meets its contract. The loop's invariant: the operations below o are marked as they should be.
abbrev pub invariant-loop-o : given.invariant-loop-o
invariant-loop-o l = (l.o ≤ l.h.count) × KeptAre l.h.table.now l.o l.empties l.values l.kept
