-- `begin_turn` meets its contract: each case of the answer leaves the session as `stage_begun` and `used_begun` say.
use native.Mathlib.Omega.{arith}
use mathlib.Core.Path.{sym, ap, ◌∙◌}
use Rattle.buffer.specs.Output.{output_answer}
use Rattle.session.specs.Session.{empty_log, stage_begun, used_begun}
use Rattle.answers.proofs.Laws.{writing_small}
use Rattle.answers.proofs.sessions.begin_turn.Goals as goal

pub output_answer-answer-requires : goal.output_answer-answer-requires
output_answer-answer-requires c = rw c.begin-output.ensures.0 (writing_small empty_log c.args.buf.now (omega arith))

pub overflow_cast-result : goal.overflow_cast-result
overflow_cast-result c = let small = rw (sym c.begin-output.ensures.0 ∙ c.in-Ok.is) at (writing_small empty_log c.args.buf.now (omega arith)) in
    omega (arith, small)

pub returns-in-Ok : goal.returns-in-Ok
returns-in-Ok c = let begun = c.begin-output.ensures in
    let is = sym c.in-Ok.is ∙ begun.0 in
    record { answers = c.output_answer-answer.ensures ∙ ap output_answer begun.0; stage_is = ap (stage_begun _) is; used_is = ap (used_begun _) is; leaves = begun.1 }

pub returns-in-Err : goal.returns-in-Err
returns-in-Err c = let begun = c.begin-output.ensures in
    let is = sym c.in-Err.is ∙ begun.0 in
    record { answers = c.output_answer-answer.ensures ∙ ap output_answer begun.0; stage_is = ap (stage_begun _) is; used_is = ap (used_begun _) is; leaves = begun.1 }
