-- `admit_next` meets its contract.
use Rattle.matching.proofs.Numbers.{smaller_is}
use Rattle.search.proofs.Admitting.{admitted_skip, admitted_more}
use Rattle.search.proofs.search.admit_next.Goals as goal

pub returns-then-not-is_due : goal.returns-then-not-is_due
returns-then-not-is_due c = admitted_skip c.args.reached.now.matched.history.held _ c.requires.1 _ (rw c.if-not-is_due.true at c.is_due.ensures)

pub returns : goal.returns
returns c = admitted_more c.args.reached.now.matched.history.held _ c.requires.1 (rw c.if-not-is_due.false at c.is_due.ensures) c.requires.2 c.push.ensures (smaller_is (rw c.returned.ensures at c.min.ensures))
