-- `collect` meets its contract. The loop's invariant is `Collecting`: the values of the first i listed operations are collected.
use Rattle.projection.proofs.Collecting.{collecting_starts, collecting_next}
use Rattle.projection.proofs.excerpt.collect.Goals as goal

pub loop-o-init : goal.loop-o-init
loop-o-init c = collecting_starts _ _ c.told-values

pub loop-o-preserved : goal.loop-o-preserved
loop-o-preserved c = collecting_next c.loop-o.invariant c.loop-o-test.true c.add_value-count.ensures
