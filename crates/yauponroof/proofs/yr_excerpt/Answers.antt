-- `yr_excerpt` meets its contract.
use mathlib.Core.Path.{ap, ◌∙◌}
use Rattle.buffer.specs.Output.{output_answer}
use Rattle.answers.proofs.Laws.{of_log, excerpt_small}
use Rattle.yauponroof.proofs.yr_excerpt.Goals as goal

pub output_answer-requires : goal.output_answer-requires
output_answer-requires c = rw c.excerpt.ensures.0 (excerpt_small (of_log c.args.log.now) c.args.out.now)

pub returns : goal.returns
returns c = (c.output_answer.ensures ∙ ap output_answer c.excerpt.ensures.0, c.excerpt.ensures.1)
