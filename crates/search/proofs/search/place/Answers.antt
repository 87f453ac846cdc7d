-- `place` meets its contract.
use Rattle.table.proofs.Lists.{pushed}
use Rattle.search.proofs.Standing.{room_known, ready_places}
use Rattle.search.proofs.search.place.Goals as goal

pub kind-requires : goal.kind-requires
kind-requires c = room_known c.args.h.now.held c.requires.0 c.requires.1

pub returns : goal.returns
returns c = let removed = c.remove.ensures in
    record {
      placed_is = c.serve.ensures.placed_is;
      stands = λ reach limit cap reaching limits single capped ready first.
          ready_places c.args.h.now.held ready reaching limits capped single c.requires.1 first removed.1 removed.0 (pushed _ _ _ c.requires.4 c.told-list) (rw c.kind.ensures at c.serve.ensures);
    }
