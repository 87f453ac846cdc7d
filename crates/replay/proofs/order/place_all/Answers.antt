-- `place_all` meets its contract. The loop's invariant is `Running`: the first i operations of the sheet are placed.
use Rattle.replay.proofs.Running.{running_next, running_ends, running_stops}
use Rattle.replay.proofs.order.place_all.Goals as goal

pub place-requires : goal.place-requires
place-requires c = (c.loop-i.invariant 0).kept.has_room

pub returns-in_default : goal.returns-in_default
returns-in_default c = record {
  tried = λ end. running_stops (c.loop-i.invariant end) c.loop-i-test.true c.operation_at-o.ensures (c.place.ensures.stepped end) c.in_default.is;
}

pub loop-i-preserved : goal.loop-i-preserved
loop-i-preserved c = λ end.
    running_next (c.loop-i.invariant end) c.loop-i-test.true c.operation_at-o.ensures (c.place.ensures.stepped end) c.in-Some.is

pub returns : goal.returns
returns c = record { tried = λ end. running_ends (c.loop-i.invariant end) c.loop-i-test.false }
