-- `stage_refusal` meets its contract: at each return the tests that led there say which case of `stage_refusal` holds.
use mathlib.Core.Path.{sym, ◌∙◌}
use borrow.Author.Tests.{eq-eqb, ne_eqb}
use Rattle.session.specs.Session.{stage_refusal}
use Rattle.session.proofs.held.stage_refusal.Goals as goal

pub returns-then-not-fits : goal.returns-then-not-fits
unfolding stage_refusal
returns-then-not-fits c = rw (sym c.fits.ensures ∙ c.if-not-fits.true)

pub returns-then-stage-wanted : goal.returns-then-stage-wanted
unfolding stage_refusal
returns-then-stage-wanted c = rw (sym c.fits.ensures ∙ c.if-not-fits.false, eq-eqb _ _ c.if-stage-wanted.true)

pub returns-then-wanted-eq-OPEN : goal.returns-then-wanted-eq-OPEN
unfolding stage_refusal
returns-then-wanted-eq-OPEN c = rw (sym c.fits.ensures ∙ c.if-not-fits.false, ne_eqb _ _ c.if-stage-wanted.false, eq-eqb _ _ c.if-wanted-eq-OPEN.true)

pub returns : goal.returns
unfolding stage_refusal
returns c = rw (sym c.fits.ensures ∙ c.if-not-fits.false, ne_eqb _ _ c.if-stage-wanted.false, ne_eqb _ _ c.if-wanted-eq-OPEN.false)
