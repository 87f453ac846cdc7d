-- `excerpt_answer` meets its contract.
use mathlib.Core.Path.{ap, ◌∙◌}
use Rattle.buffer.specs.Output.{output_answer}
use Rattle.answers.proofs.Laws.{session_known, excerpt_small}
use Rattle.answers.proofs.sessions.excerpt_answer.Goals as goal

pub output_answer-requires : goal.output_answer-requires
output_answer-requires c = rw c.excerpt_held.ensures.0 (excerpt_small (session_known 1 c.args.stage c.args.used c.args.buf.now) c.args.out.now)

pub returns : goal.returns
returns c = record { answers = c.output_answer.ensures ∙ ap output_answer c.excerpt_held.ensures.0; leaves = c.excerpt_held.ensures.1 }
