-- `fill_limits` meets its contract. The loop's invariant: the table is right below o.
use native.Mathlib.Omega.{arith}
use Rattle.search.proofs.Limiting.{limits_more}
use Rattle.search.proofs.bounds.fill_limits.Goals as goal

pub loop-o-preserved : goal.loop-o-preserved
loop-o-preserved c = limits_more c.loop-o.invariant (omega arith) c.limit_of.ensures
