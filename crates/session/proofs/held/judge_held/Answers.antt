-- `judge_held` meets its contract: a refusal by how the session stands, or the log that it holds is judged.
use mathlib.Core.Path.{sym, ◌∙◌}
use lib.Seq.{length-take-le}
use Rattle.judge.specs.Judge.{turned_down}
use Rattle.session.proofs.Refusing.{unrefused_within, reading_refused, reading_held}
use Rattle.session.proofs.held.judge_held.Goals as goal

pub slice_bounds-judge-end : goal.slice_bounds-judge-end
slice_bounds-judge-end c = sym (length-take-le _ _ (unrefused_within _ _ _ _ (sym c.stage_refusal.ensures ∙ c.in-Ok.is)))

pub returns-in-Ok : goal.returns-in-Ok
returns-in-Ok c = rw (reading_held _ _ _ _ (sym c.stage_refusal.ensures ∙ c.in-Ok.is)) c.judge.ensures

pub returns-in-Err : goal.returns-in-Err
returns-in-Err c = rw (c.from.ensures, reading_refused _ _ _ _ (sym c.stage_refusal.ensures ∙ c.in-Err.is)) turned_down
