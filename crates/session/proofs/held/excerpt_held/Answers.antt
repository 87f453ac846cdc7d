-- `excerpt_held` meets its contract: a refusal by how the session stands, or the excerpt of the log that it holds is written.
use mathlib.Core.Path.{◌≡◌, refl, sym, ◌∙◌}
use lib.Seq.{length-take-le}
use Rattle.std.proofs.Common.{rules}
use Rattle.record.specs.Refusal.{refusing}
use Rattle.session.proofs.Refusing.{unrefused_within, reading_refused, reading_held}
use Rattle.session.proofs.held.excerpt_held.Goals as goal

pub returns-in_err-stage_refusal : goal.returns-in_err-stage_refusal
returns-in_err-stage_refusal c =
    let same : c.from_residual.result ≡ refusing c.in_err-stage_refusal.field-0.0 0 = search rules in
    rw (same, reading_refused 1 _ _ _ (sym c.stage_refusal.ensures ∙ c.in_err-stage_refusal.was)) (refl, refl)

pub slice_bounds-excerpt-end : goal.slice_bounds-excerpt-end
slice_bounds-excerpt-end c = sym (length-take-le _ _ (unrefused_within 1 _ _ _ (sym c.stage_refusal.ensures ∙ c.in_ok-stage_refusal.was)))

pub returns : goal.returns
returns c = rw (reading_held 1 _ _ _ (sym c.stage_refusal.ensures ∙ c.in_ok-stage_refusal.was)) c.excerpt.ensures
