-- `fill_reaches` meets its contract. The loop's invariant: the table is right below o.
use native.Mathlib.Omega.{arith}
use lib.ListN.{length-set}
use Rattle.matching.proofs.Storing.{filled_more}
use Rattle.matching.proofs.reaches.fill_reaches.Goals as goal

pub loop-o-preserved : goal.loop-o-preserved
loop-o-preserved c =
    let inv = c.loop-o.invariant in
    record {
      sized = simp length-set inv.sized;
      reaches = filled_more c.loop-o.reach (omega (arith, inv.sized, c.loop-o-test.true, c.args.matched.now.history.held.few)) inv.reaches c.reach_of.ensures;
    }
