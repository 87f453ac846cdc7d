use Prim.Native.Nat.{◌-◌}
use Rattle.matching.specs.View.{history_in}
use Rattle.search.proofs.Admitting.{Admitting}
use Rattle.search.proofs.search.admit.Given as given

-- `admit` meets its contract. The loop's invariant is `Admitting`: those that wait go over from the ones before it, whatever has been placed.
abbrev pub invariant-loop-h : given.invariant-loop-h
invariant-loop-h l = Admitting (history_in l.reached.matched.history) l.s l.initial.waiting l.a l.waiting

abbrev pub decreases-loop-h : given.decreases-loop-h
decreases-loop-h l = l.reached.matched.history.count - l.a.next
