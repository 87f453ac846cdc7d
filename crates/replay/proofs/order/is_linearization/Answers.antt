-- `is_linearization` meets its contract: an order whose operations can all be placed is legal exactly if it omits no returned one.
use Rattle.replay.proofs.Marking.{unmarked_new}
use Rattle.replay.proofs.Placing.{legal_decided}
use Rattle.replay.proofs.order.is_linearization.Goals as goal

pub place_all-requires : goal.place_all-requires
place_all-requires c = (c.requires.0, c.requires.2, unmarked_new)

pub returns : goal.returns
returns c = legal_decided (rw c.if-not-place_all.false at (c.place_all.ensures.tried c.args.end)) c.all_marked.result c.all_marked.ensures
