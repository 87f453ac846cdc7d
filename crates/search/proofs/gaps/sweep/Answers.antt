-- `sweep` meets its contract. The loop's invariant is `SweptTo`: the entries below g are right, and those from g on are as they were;
-- furthest is how far a value reaches at most that is noted below g; last is 1 above the last gap below g that no value covers.
use mathlib.Core.Logic.{inl, inr}
use Rattle.matching.proofs.Numbers.{larger_is}
use Rattle.search.proofs.Covering.{swept_more, swept_all}
use Rattle.search.proofs.gaps.sweep.Goals as goal
use Rattle.search.proofs.gaps.sweep.Goals.{else-furthest-g, then-furthest-g}

pub loop-g-preserved : goal.loop-g-preserved
loop-g-preserved c = swept_more c.loop-g.invariant c.loop-g-test.true c.requires (larger_is c.max-furthest.ensures) (elim c.if-furthest-g.branch [
  | then-furthest-g w ↦ inl (w.if-furthest-g.true, w.last-is)
  | else-furthest-g w ↦ inr (w.if-furthest-g.false, w.last-is)
])

pub returns : goal.returns
returns c = swept_all c.loop-g.invariant c.loop-g-test.false
