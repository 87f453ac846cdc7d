-- `owner_of` meets its contract: the laws of `Tracing.antt` for a call and for a return.
use Rattle.map.proofs.Laws.{found_latest}
use Rattle.history.proofs.Tracing.{owned_call, owned_return}
use Rattle.history.proofs.owners.owner_of.Goals as goal

pub returns-then-is_call : goal.returns-then-is_call
returns-then-is_call c = owned_call _ (rw c.if-is_call.true at c.is_call.ensures) c.requires c.push.ensures.0 c.push.ensures.1

pub returns : goal.returns
returns c = owned_return _ (rw c.if-is_call.false at c.is_call.ensures) c.requires (rw c.unwrap_or.ensures (found_latest c.find.result c.find.ensures))
