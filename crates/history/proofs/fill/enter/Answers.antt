-- `enter` meets its contract: four stores make an entry.
use Rattle.history.proofs.Entries.{entry_made}
use Rattle.history.proofs.fill.enter.Goals as goal

pub returns : goal.returns
returns c = entry_made _ _ _ _ _ _ c.requires.0 c.requires.1
