-- `padding` meets its contract: an operation's number has one digit or two.
use Prim.Native.Nat.{◌/◌}
use native.Mathlib.Omega.{arith}
use Rattle.text.proofs.Decimals.{one_digit, one_digit_more}
use Rattle.timeline.proofs.line.padding.Goals as goal

pub returns-then-o-lt10 : goal.returns-then-o-lt10
returns-then-o-lt10 c = omega (arith, one_digit c.args.o (omega arith))

pub returns-else-o-lt10 : goal.returns-else-o-lt10
returns-else-o-lt10 c = let o = c.args.o in omega (arith, one_digit_more o (omega arith), one_digit (o / 10) (omega arith))
