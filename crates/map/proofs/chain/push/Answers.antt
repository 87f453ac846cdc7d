-- `push` meets its contract: the link leads to the entry that the slot led to, and the slot leads to the new entry.
use mathlib.Core.Path.{refl}
use Rattle.map.proofs.Chains.{chains_more}
use Rattle.map.proofs.chain.push.Goals as goal

pub returns : goal.returns
returns g c = (refl, rw c.slot-slot.ensures.0 (chains_more c.args.x c.requires.1 c.requires.0 (rw c.slot-slot.ensures.0 at c.slot-slot.ensures.1)))
