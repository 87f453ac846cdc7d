-- `is_due` meets its contract: an operation that has not returned is listed if its value reaches less far than the end.
use Rattle.matching.proofs.Reaching.{reaching_kept}
use Rattle.search.proofs.Fitting.{due_tested}
use Rattle.search.proofs.search.is_due.Goals as goal

pub returns : goal.returns
returns c =
    let reached = c.args.reached.now in
    due_tested reached.matched.history.held (reaching_kept reached.reaching) c.args.o c.requires (rw c.returned.ensures at c.if-returned-h.false)
