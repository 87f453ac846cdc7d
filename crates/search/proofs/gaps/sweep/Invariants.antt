use Rattle.search.proofs.Covering.{SweptTo}
use Rattle.search.proofs.gaps.sweep.Given as given

-- `sweep` meets its contract. The loop's invariant is `SweptTo`: the entries below g are right, and those from g on are as they were;
-- furthest is how far a value reaches at most that is noted below g; last is 1 above the last gap below g that no value covers.
abbrev pub invariant-loop-g : given.invariant-loop-g
invariant-loop-g l = SweptTo l.end l.initial.gaps l.gaps l.furthest l.last l.g
