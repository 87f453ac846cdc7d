-- `first_showing` meets its contract. The loop's invariant is `Unfound`: no operation below r shows the pattern.
use Rattle.matching.proofs.Firsts.{first_more}
use Rattle.patterns.proofs.signs.first_showing.Goals as goal

pub loop-r-preserved : goal.loop-r-preserved
loop-r-preserved c = first_more c.loop-r.invariant c.loop-r-test.true (rw c.if-shows.false at c.shows.ensures)
