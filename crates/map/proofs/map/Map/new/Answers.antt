-- `new` meets its contract: nothing is chained yet.
use Rattle.map.specs.Map.{slot_count, map_slot_of}
use Rattle.map.proofs.Laws.{new_linked}
use Rattle.map.proofs.map.Map.new.Goals as goal

pub invariant_of-result : goal.invariant_of-result
invariant_of-result c = record { linked = new_linked map_slot_of slot_count }
