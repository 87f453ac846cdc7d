-- `yr_check` meets its contract.
use mathlib.Core.Path.{ap, ◌∙◌}
use Rattle.answers.specs.Answer.{check_answer}
use Rattle.answers.proofs.Laws.{check_small}
use Rattle.yauponroof.proofs.yr_check.Goals as goal

pub check_answer-requires : goal.check_answer-requires
check_answer-requires c = rw c.check.ensures (check_small _)

pub returns : goal.returns
returns c = c.check_answer.ensures ∙ ap check_answer c.check.ensures
