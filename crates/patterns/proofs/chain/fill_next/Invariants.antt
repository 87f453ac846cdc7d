use Prim.Native.Nat.{◌≤◌}
use Rattle.patterns.specs.Chains.{NextNoted, NextTable}
use Rattle.patterns.proofs.chain.fill_next.Given as given

-- `fill_next` meets its contract. The loop's invariant: p is within the positions, `first` is the entry for p, and the table is right from p on.
abbrev pub invariant-loop-p : given.invariant-loop-p
invariant-loop-p l = (l.p ≤ l.end) × NextNoted l.end l.noted l.p l.first × NextTable l.end l.noted l.p l.next
