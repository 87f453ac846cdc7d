-- `serve` meets its contract: the laws of `Serving.antt`, one for each kind and outcome.
use Rattle.replay.proofs.Serving.{serves_add, serves_remove, serves_not_there, serves_not_front, serves_empty, serves_not_empty, serves_front, serves_idle}
use Rattle.replay.proofs.order.serve.Goals as goal

pub returns-then-head-tail : goal.returns-then-head-tail
returns-then-head-tail c = serves_not_there _ _ _ _ c.requires c.in-2.is c.if-head-tail.true

pub returns-then-front-value : goal.returns-then-front-value
returns-then-front-value c = serves_not_front _ _ _ _ c.requires c.in-2.is c.if-head-tail.false c.if-front-value.true

pub returns-then-head-tail-2 : goal.returns-then-head-tail-2
returns-then-head-tail-2 c = serves_not_empty _ _ _ _ c.requires c.in-3.is c.if-head-tail-2.true

pub returns-then-head-tail-3 : goal.returns-then-head-tail-3
returns-then-head-tail-3 c = serves_idle _ _ _ _ c.requires c.in-0.is c.if-head-tail-3.true

pub returns-in-1 : goal.returns-in-1
returns-in-1 c = serves_add _ _ _ _ c.requires c.in-1.is

pub returns-else-front-value : goal.returns-else-front-value
returns-else-front-value c = serves_remove _ _ _ _ c.requires c.in-2.is c.if-head-tail.false c.if-front-value.false

pub returns-else-head-tail-2 : goal.returns-else-head-tail-2
returns-else-head-tail-2 c = serves_empty _ _ _ _ c.requires c.in-3.is c.if-head-tail-2.false

pub returns-else-head-tail-3 : goal.returns-else-head-tail-3
returns-else-head-tail-3 c = serves_front _ _ _ _ c.requires c.in-0.is c.if-head-tail-3.false
