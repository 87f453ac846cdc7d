-- `admit` meets its contract. The loop's invariant is `Admitting`: those that wait go over from the ones before it, whatever has been placed.
use Rattle.search.proofs.Admitting.{admitting_next, admitting_ends, admitted_all}
use Rattle.search.proofs.search.admit.Goals as goal

pub returns-then-h-s : goal.returns-then-h-s
returns-then-h-s c = admitted_all c.args.reached.now.matched.history.held c.requires c.if-h-s.true

pub loop-h-preserved : goal.loop-h-preserved
loop-h-preserved c = admitting_next c.loop-h.invariant c.admit_next-a.ensures

pub returns : goal.returns
returns c = admitting_ends c.args.reached.now.matched.history.held c.loop-h.invariant (rw c.loop-h-test.false at c.is_enabled.ensures)
