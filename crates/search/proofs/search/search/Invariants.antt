use Prim.Native.Nat.{◌-◌}
use Rattle.matching.specs.View.{history_in}
use Rattle.search.specs.Searching.{Stands}
use Rattle.search.proofs.search.search.Given as given

-- `search` meets its contract. The loop's invariant is `Stands`.
abbrev pub invariant-loop-s : given.invariant-loop-s
invariant-loop-s l = Stands (history_in l.reached.matched.history) l.reached.reach.now l.limit l.s l.waiting l.queue l.list

abbrev pub decreases-loop-s : given.decreases-loop-s
decreases-loop-s l = l.reached.matched.history.count - l.s.placed
