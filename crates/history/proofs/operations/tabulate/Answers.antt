-- `tabulate` meets its contract: the answer is the reader's, and the table is filled from a readable log or left alone.
use mathlib.Core.Path.{◌≡◌, sym, ◌∙◌}
use Rattle.std.proofs.Common.{rules, Err}
use Rattle.history.proofs.Reaching.{whole_log, left_alone}
use Rattle.history.proofs.operations.tabulate.Goals as goal

pub fill-requires : goal.fill-requires
fill-requires c = (whole_log c.check.ensures c.in_ok-counts.was, c.requires)

pub returns-in_err-counts : goal.returns-in_err-counts
returns-in_err-counts c =
    let same : c.from_residual.result ≡ Err c.in_err-counts.field-0.0 = search rules in
    (same ∙ sym c.in_err-counts.was ∙ c.check.ensures, left_alone _ c.check.ensures c.in_err-counts.was _)

pub returns : goal.returns
returns c = (sym c.in_ok-counts.was ∙ c.check.ensures, c.fill.ensures)
