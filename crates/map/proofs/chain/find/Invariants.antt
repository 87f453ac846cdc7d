use Rattle.map.proofs.Chains.{Unmet}
use Rattle.map.proofs.chain.find.Given as given

-- `find` meets its contract. The loop's invariant: the search along the chain has come to `next`; links fall, so it ends.
abbrev pub invariant-loop-next : given.invariant-loop-next
invariant-loop-next g l = let k = g.K.Key in Unmet k.unused k.slot_of l.keys l.count l.x l.next

abbrev pub decreases-loop-next : given.decreases-loop-next
decreases-loop-next g l = l.next
