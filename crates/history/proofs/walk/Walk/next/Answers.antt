-- `next` meets its contract: the walk comes to the next record (`Walking.antt`), or stands behind the last.
use Rattle.history.proofs.Walking.{walking_room, walking_next}
use Rattle.history.proofs.walk.Walk.next.Goals as goal

pub owner_of-operation-requires : goal.owner_of-operation-requires
owner_of-operation-requires c = walking_room c.requires c.if-self.false

pub returns : goal.returns
returns c = walking_next c.requires c.if-self.false c.decode_at.ensures c.unwrap-next.ensures c.owner_of-operation.ensures
