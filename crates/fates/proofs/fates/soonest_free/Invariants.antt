use Rattle.matching.specs.View.{history_in}
use Rattle.fates.specs.Fates.{free_return, LeastSoFar}
use Rattle.fates.proofs.fates.soonest_free.Given as given

-- `soonest_free` meets its contract. The loop's invariant: `soonest` and `least` are what the first operations say.
abbrev pub invariant-loop-a : given.invariant-loop-a
invariant-loop-a l = LeastSoFar (free_return (history_in l.h) l.partner) l.h.end l.a l.soonest l.least
