-- `place` meets its contract: an operation that is unknown, placed before or too late makes the order illegal; any other is run.
use Rattle.replay.proofs.Marking.{room_left}
use Rattle.replay.proofs.Placing.{stepped}
use Rattle.replay.proofs.order.place.Goals as goal

pub serve-requires : goal.serve-requires
serve-requires c = (c.requires.held, room_left c.requires c.if-count-o.false c.if-marks-o.false, c.requires.queue_sized)

pub returns : goal.returns
returns c = record {
  stepped = λ end.
      stepped _ _ _ _ _ _ c.if-count-o.false c.if-marks-o.false (rw c.return_of.ensures at c.if-return_of-latest.false) (rw c.call_of.ensures at c.max.ensures) (rw (c.kind_of.ensures, c.value_of.ensures) at c.serve.ensures);
}
