use Prim.Native.Nat.{ℕ, ◌<◌}
use Rattle.replay.specs.Trial.{ReturnIsMarked}
use Rattle.replay.proofs.order.all_marked.Given as given

-- `all_marked` meets its contract. The invariant: every returned operation below o is marked.
abbrev pub invariant-loop-o : given.invariant-loop-o
invariant-loop-o l = (r : ℕ) → r < l.o → ReturnIsMarked l.end l.table l.marks r
