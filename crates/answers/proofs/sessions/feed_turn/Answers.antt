-- `feed_turn` meets its contract: each case of the answer leaves the used bytes as `used_fed` says.
use native.Mathlib.Omega.{arith}
use mathlib.Core.Path.{refl, sym, ap, ◌∙◌}
use Rattle.buffer.specs.Output.{output_answer}
use Rattle.session.specs.Session.{used_fed}
use Rattle.session.proofs.Bounds.{accepted_small}
use Rattle.answers.proofs.SessionLaws.{feed_small}
use Rattle.answers.proofs.sessions.feed_turn.Goals as goal

pub output_answer-answer-requires : goal.output_answer-answer-requires
output_answer-answer-requires c = let a = c.args in
    rw c.feed-output.ensures.0 (feed_small a.stage a.used a.buf.now a.bytes.now)

pub overflow_cast-result : goal.overflow_cast-result
overflow_cast-result c = let a = c.args in
    omega (arith, (accepted_small a.stage a.used a.buf.now a.bytes.now (sym c.in-Ok.is ∙ c.feed-output.ensures.0)).0)

pub overflow_add-result : goal.overflow_add-result
overflow_add-result c = let a = c.args in
    let (size, used) = accepted_small a.stage a.used a.buf.now a.bytes.now (sym c.in-Ok.is ∙ c.feed-output.ensures.0) in omega (arith, size, used)

pub returns-in-Ok : goal.returns-in-Ok
returns-in-Ok c = let fed = c.feed-output.ensures in
    record { answers = c.output_answer-answer.ensures ∙ ap output_answer fed.0; stage_is = refl; used_is = ap (used_fed _) (sym c.in-Ok.is ∙ fed.0); leaves = fed.1 }

pub returns-in-Err : goal.returns-in-Err
returns-in-Err c = let fed = c.feed-output.ensures in
    record { answers = c.output_answer-answer.ensures ∙ ap output_answer fed.0; stage_is = refl; used_is = ap (used_fed _) (sym c.in-Err.is ∙ fed.0); leaves = fed.1 }
