-- `put_answer` meets its contract, case by case.
use mathlib.Core.Path.{ap}
use Rattle.text.proofs.Putting.{puts_same}
use Rattle.judge_cli.specs.Writing.{answer_line}
use Rattle.judge_cli.proofs.report.put_answer.Goals as goal

pub put_order-requires : goal.put_order-requires
put_order-requires c = rw c.in-Order.is at c.requires

pub put_pattern-requires : goal.put_pattern-requires
put_pattern-requires c = rw c.in-Pattern.is at c.requires

pub put_refusal-requires : goal.put_refusal-requires
put_refusal-requires c = (rw c.in-Refused.is at c.requires).1

pub returns-in-Order : goal.returns-in-Order
returns-in-Order c = puts_same (ap (λ v. answer_line v c.args.sheet.now) c.in-Order.is) c.put_order.ensures

pub returns-in-Pattern : goal.returns-in-Pattern
returns-in-Pattern c = puts_same (ap (λ v. answer_line v c.args.sheet.now) c.in-Pattern.is) c.put_pattern.ensures

pub returns-in-Refused : goal.returns-in-Refused
returns-in-Refused c = puts_same (ap (λ v. answer_line v c.args.sheet.now) c.in-Refused.is) c.put_refusal.ensures
