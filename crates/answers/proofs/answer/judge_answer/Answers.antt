-- `judge_answer` meets its contract: each case is the number that `judge_answer` gives.
use native.Mathlib.Omega.{arith}
use mathlib.Core.Path.{sym, ap, ◌∙◌}
use Rattle.answers.specs.Answer.{judge_answer}
use Rattle.answers.proofs.answer.judge_answer.Goals as goal

pub overflow_mul-result : goal.overflow_mul-result
overflow_mul-result c = omega (arith, rw c.in-Order.is at c.requires)

pub overflow_add-result : goal.overflow_add-result
overflow_add-result c = omega (arith, rw c.in-Order.is at c.requires)

pub overflow_mul-result-in-Pattern : goal.overflow_mul-result-in-Pattern
overflow_mul-result-in-Pattern c = omega (arith, rw c.in-Pattern.is at c.requires)

pub overflow_add-result-in-Pattern : goal.overflow_add-result-in-Pattern
overflow_add-result-in-Pattern c = omega (arith, rw c.in-Pattern.is at c.requires)

pub refuse-requires : goal.refuse-requires
refuse-requires c = let small = rw c.in-Refused.is at c.requires in omega (arith, small.1)

pub returns-in-Order : goal.returns-in-Order
returns-in-Order c = ap judge_answer (sym c.in-Order.is)

pub returns-in-Pattern : goal.returns-in-Pattern
returns-in-Pattern c = omega (arith, ap judge_answer c.in-Pattern.is)

pub returns-in-Refused : goal.returns-in-Refused
returns-in-Refused c = c.refuse.ensures ∙ ap judge_answer (sym c.in-Refused.is)
