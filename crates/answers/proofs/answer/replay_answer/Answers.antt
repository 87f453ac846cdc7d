-- `replay_answer` meets its contract: each case is the number that `replay_answer` gives.
use native.Mathlib.Omega.{arith}
use mathlib.Core.Path.{sym, ap, ◌∙◌}
use Rattle.answers.specs.Answer.{replay_answer}
use Rattle.answers.proofs.answer.replay_answer.Goals as goal

pub refuse-requires : goal.refuse-requires
refuse-requires c = let small = rw c.in-Err.is at c.requires in omega (arith, small.1)

pub returns-in-Err : goal.returns-in-Err
returns-in-Err c = c.refuse.ensures ∙ ap replay_answer (sym c.in-Err.is)
