-- `put_number` meets its contract: the digits of a tenth, then the last one.
use Rattle.std.proofs.Common.{arith}
use Rattle.text.proofs.Decimals.{one_digit, one_digit_more}
use Rattle.text.proofs.Putting.{puts_digit, puts_digits}
use Rattle.text.proofs.text.+put_number.Goals as goal

pub put_byte-requires : goal.put_byte-requires
put_byte-requires t c = omega (arith, one_digit c.args.x (omega arith))

pub returns-then-x-lt10 : goal.returns-then-x-lt10
returns-then-x-lt10 t c = puts_digit c.args.x (omega arith) c.put_byte.ensures

pub put_number-last-requires : goal.put_number-last-requires
put_number-last-requires t c = (omega arith, omega (arith, one_digit_more c.args.x (omega arith)))

pub put_byte-requires-2 : goal.put_byte-requires-2
put_byte-requires-2 t c = omega (arith, one_digit_more c.args.x (omega arith))

pub returns : goal.returns
returns t c = puts_digits c.args.x (omega arith) c.put_number-last.ensures c.put_byte-2.ensures (omega arith)
