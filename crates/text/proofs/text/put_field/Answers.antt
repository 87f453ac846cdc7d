-- `put_field` meets its contract: a space, and the number behind it.
use native.Mathlib.Omega.{arith}
use Rattle.text.proofs.Putting.{puts_more}
use Rattle.text.proofs.text.put_field.Goals as goal

pub returns : goal.returns
returns c = puts_more c.put_byte-start.ensures c.put_number.ensures (omega arith)
