-- `yr_page` meets its contract.
use mathlib.Core.Path.{ap, ◌∙◌}
use native.Mathlib.Omega.{arith}
use Rattle.buffer.specs.Output.{output_answer}
use Rattle.answers.proofs.Laws.{page_small}
use Rattle.yauponroof.proofs.yr_page.Goals as goal

pub output_answer-requires : goal.output_answer-requires
output_answer-requires c = rw c.page.ensures.0 (page_small c.args.log.now c.args.out.now (λ j. omega (arith, c.type_inv.log j)))

pub returns : goal.returns
returns c = (c.output_answer.ensures ∙ ap output_answer c.page.ensures.0, c.page.ensures.1)
