-- `put_label` meets its contract: the letter, then the value.
use native.Mathlib.Omega.{arith}
use Rattle.text.proofs.Decimals.{decimal_few}
use Rattle.timeline.proofs.Pieces.{label_value}
use Rattle.timeline.proofs.line.put_label.Goals as goal

pub put_number-requires : goal.put_number-requires
put_number-requires c = omega (arith, decimal_few 9 c.args.value (omega arith))

pub returns : goal.returns
returns c = label_value _ _ c.letter_of.ensures c.put_byte-digits.ensures c.if-kind-eq-EMPTY_REMOVE.false c.if-kind-eq-NO_KIND.false (omega arith) c.put_number.ensures
