-- `yr_replay` meets its contract.
use mathlib.Core.Path.{ap, ◌∙◌}
use Rattle.answers.specs.Answer.{replay_answer}
use Rattle.answers.proofs.Laws.{replay_small}
use Rattle.yauponroof.proofs.yr_replay.Goals as goal

pub replay_answer-requires : goal.replay_answer-requires
replay_answer-requires c = rw c.replay.ensures (replay_small _ _)

pub returns : goal.returns
returns c = c.replay_answer.ensures ∙ ap replay_answer c.replay.ensures
