-- `yr_narrow` meets its contract.
use mathlib.Core.Path.{ap, ◌∙◌}
use Rattle.buffer.specs.Output.{output_answer}
use Rattle.answers.proofs.Laws.{narrow_small}
use Rattle.yauponroof.proofs.yr_narrow.Goals as goal

pub output_answer-requires : goal.output_answer-requires
output_answer-requires c = rw c.narrow.ensures.0 (narrow_small c.args.log.now c.args.values.now c.args.out.now)

pub returns : goal.returns
returns c = (c.output_answer.ensures ∙ ap output_answer c.narrow.ensures.0, c.narrow.ensures.1)
