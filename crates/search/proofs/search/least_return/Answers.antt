-- `least_return` meets its contract. The loop's invariant: `least` is the least return of those that wait before the index.
use Rattle.matching.proofs.Numbers.{smaller_is}
use Rattle.search.proofs.Least.{least_next}
use Rattle.search.proofs.search.least_return.Goals as goal

pub loop-o-preserved : goal.loop-o-preserved
loop-o-preserved c = least_next _ _ c.loop-o-test.true c.loop-o.invariant (smaller_is (rw c.returned.ensures at c.min-least.ensures))
