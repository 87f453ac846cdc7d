-- `write_marked` meets its contract: the laws of `Projecting.antt` for a buffer that is too short, and for one that is not.
use Rattle.projection.proofs.Projecting.{writes_nothing, writes_all}
use Rattle.projection.proofs.write.write_marked.Goals as goal

pub returns-then-out-needed : goal.returns-then-out-needed
returns-then-out-needed c = rw c.from.ensures (writes_nothing c.measure-extent.ensures _ c.if-out-needed.true)

pub returns : goal.returns
returns c = writes_all c.measure-extent.ensures _ _ c.if-out-needed.false c.write_header.ensures c.write_records.ensures
