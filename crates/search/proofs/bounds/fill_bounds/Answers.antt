-- `fill_bounds` meets its contract. The loop's invariant: the table is right from o on.
use Prim.Native.Nat.{◌+◌, ◌-◌}
use native.Mathlib.Omega.{arith}
use mathlib.Core.Path.{◌≡◌}
use Rattle.matching.proofs.Numbers.{smaller_is}
use Rattle.search.proofs.Limiting.{bounds_more}
use Rattle.search.proofs.bounds.fill_bounds.Goals as goal

pub loop-o-preserved : goal.loop-o-preserved
loop-o-preserved c =
    let back : c.loop-o.o - 1 + 1 ≡ c.loop-o.o = omega arith in
    bounds_more c.args.h.now.held.few c.loop-o.invariant (omega arith) (omega arith) (smaller_is (rw back at c.min.ensures))
