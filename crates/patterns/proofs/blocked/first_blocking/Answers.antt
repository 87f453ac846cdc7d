-- `first_blocking` meets its contract. The invariant is `Unfound`: a is at most `count`, and no operation below it shows the pattern.
use Rattle.matching.proofs.Firsts.{first_more}
use Rattle.patterns.proofs.blocked.first_blocking.Goals as goal

pub loop-a-preserved : goal.loop-a-preserved
loop-a-preserved c = first_more c.loop-a.invariant c.loop-a-test.true (rw c.if-shows_blocking.false at c.shows_blocking.ensures)
