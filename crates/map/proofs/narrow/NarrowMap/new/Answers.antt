-- `new` meets its contract: nothing is chained yet.
use Rattle.map.specs.Map.{map_size, narrow_slot_of}
use Rattle.map.proofs.Laws.{new_linked}
use Rattle.map.proofs.narrow.NarrowMap.new.Goals as goal

pub invariant_of-result : goal.invariant_of-result
invariant_of-result c = record { linked = new_linked narrow_slot_of map_size }
