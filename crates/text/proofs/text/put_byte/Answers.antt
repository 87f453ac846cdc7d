-- `put_byte` meets its contract: one byte is stored.
use Rattle.text.proofs.Putting.{puts_byte}
use Rattle.text.proofs.text.put_byte.Goals as goal

pub returns : goal.returns
returns c = puts_byte _ _ _ c.requires
