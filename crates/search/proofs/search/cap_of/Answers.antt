-- `cap_of` meets its contract. The loop's invariant: `cap` is the least limit of those that wait before the index, and of those that are not
-- enabled yet.
use mathlib.Core.Path.{refl}
use Rattle.matching.proofs.Numbers.{smaller_is}
use Rattle.search.proofs.Least.{least_next}
use Rattle.search.proofs.search.cap_of.Goals as goal

pub bounds-limit-o : goal.bounds-limit-o
bounds-limit-o c = c.requires.1 _ (record { at = c.loop-o.o-index; below = c.loop-o-test.true; here = refl })

pub loop-o-preserved : goal.loop-o-preserved
loop-o-preserved c = least_next _ _ c.loop-o-test.true c.loop-o.invariant (smaller_is c.min-cap.ensures)
