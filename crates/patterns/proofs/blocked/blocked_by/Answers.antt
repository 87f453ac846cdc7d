-- `blocked_by` meets its contract. The invariant is `Unfound`: b is at most `count`, and add a blocks no operation below it.
use Rattle.matching.proofs.Firsts.{first_found}
use Rattle.matching.proofs.Reaching.{reaching_kept}
use Rattle.patterns.proofs.Blocking.{removal_blocks}
use Rattle.patterns.proofs.blocked.blocked_by.Goals as goal

pub returns-then-removal_of-reached : goal.returns-then-removal_of-reached
returns-then-removal_of-reached c = let before = rw (c.returned.ensures, c.call.ensures) at c.if-returned-call.true in
    let early = rw c.removal_of.ensures at c.if-removal_of-reached.true in
    (c.loop-b-test.true, first_found c.loop-b.invariant (removal_blocks _ _ c.args.reached.now.matched.history.held (reaching_kept c.args.reached.now.reaching) c.requires before early))
