-- `fits` meets its contract: at each return the tests that led there say which case of `session_fits` holds.
use native.Mathlib.Omega.{arith}
use mathlib.Core.Path.{sym, ap, ◌∙◌}
use lib.Seq.{length-take-le}
use borrow.Author.Tests.{lt-ltb, le-ltb, ne_eqb}
use Rattle.std.specs.Prelude.{is_ok}
use Rattle.session.proofs.held.fits.Goals as goal

pub returns-then-buf-end : goal.returns-then-buf-end
returns-then-buf-end c = rw (lt-ltb _ _ c.if-buf-end.true)

pub slice_bounds-check_partial-end : goal.slice_bounds-check_partial-end
slice_bounds-check_partial-end c = sym (length-take-le _ _ c.if-buf-end.false)

pub slice_bounds-check-end : goal.slice_bounds-check-end
slice_bounds-check-end c = sym (length-take-le _ _ c.if-buf-end.false)

pub returns-in-0 : goal.returns-in-0
returns-in-0 c = rw (c.in-0.is, le-ltb _ _ c.if-buf-end.false) (c.is_ok.ensures.value ∙ ap is_ok c.check_partial.ensures)

pub returns-in-1 : goal.returns-in-1
returns-in-1 c = rw (c.in-1.is, le-ltb _ _ c.if-buf-end.false) (c.is_ok-in-1.ensures.value ∙ ap is_ok c.check.ensures)

pub returns-in_default : goal.returns-in_default
returns-in_default c = rw (le-ltb _ _ c.if-buf-end.false, ne_eqb c.args.stage 0 (omega arith), ne_eqb c.args.stage 1 (omega arith))
