-- `push` meets its contract: the store is behind the entries in use.
use Rattle.table.proofs.Lists.{pushed}
use Rattle.table.proofs.table.push.Goals as goal

pub returns : goal.returns
returns c = pushed _ _ _ c.requires.0 c.requires.1
