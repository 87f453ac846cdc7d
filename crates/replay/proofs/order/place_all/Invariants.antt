use Prim.Native.Nat.{ℕ}
use Rattle.history.specs.Table.{tabled}
use Rattle.replay.proofs.Running.{Running}
use Rattle.replay.proofs.order.place_all.Given as given

-- `place_all` meets its contract. The loop's invariant is `Running`: the first i operations of the sheet are placed.
abbrev pub invariant-loop-i : given.invariant-loop-i
invariant-loop-i l = (end : ℕ) → Running (tabled l.count end l.table) l.sheet l.i-end l.i l.p l.marks l.queue
