-- `replay` meets its contract: the table agrees with the log's history, so that both have the same legal orders.
use native.Mathlib.Omega.{arith}
use mathlib.Core.Path.{◌≡◌, sym, ◌∙◌}
use Rattle.std.proofs.Common.{rules, Err}
use Rattle.history.proofs.Tabulating.{log_tabled}
use Rattle.replay.proofs.Answering.{log_refused, sheet_refused, order_says}
use Rattle.replay.proofs.replay.replay.Goals as goal

pub returns-in_err-counts : goal.returns-in_err-counts
returns-in_err-counts c =
    let same : c.from_residual.result ≡ Err c.in_err-counts.field-0.0 = search rules in
    rw same (log_refused _ _ c.tabulate.ensures.0 c.in_err-counts.was)

pub returns-then-not-is_order_sheet : goal.returns-then-not-is_order_sheet
returns-then-not-is_order_sheet c =
    let tabled = log_tabled c.args.log.now c.tabulate.ensures.0 c.in_ok-counts.was _ _ c.tabulate.ensures.1 in
    rw c.from.ensures (sheet_refused tabled c.args.sheet.now (sym c.is_order_sheet.ensures ∙ c.if-not-is_order_sheet.true))

pub overflow_add-counts : goal.overflow_add-counts
overflow_add-counts c = let tabled = log_tabled c.args.log.now c.tabulate.ensures.0 c.in_ok-counts.was _ _ c.tabulate.ensures.1 in
    omega (arith, tabled.short)

pub is_linearization-requires : goal.is_linearization-requires
is_linearization-requires c =
    let tabled = log_tabled c.args.log.now c.tabulate.ensures.0 c.in_ok-counts.was _ _ c.tabulate.ensures.1 in
    (tabled.few, omega (arith, tabled.short), sym c.is_order_sheet.ensures ∙ c.if-not-is_order_sheet.false)

pub returns : goal.returns
returns c =
    let tabled = log_tabled c.args.log.now c.tabulate.ensures.0 c.in_ok-counts.was _ _ c.tabulate.ensures.1 in
    order_says tabled c.args.sheet.now (sym c.is_order_sheet.ensures ∙ c.if-not-is_order_sheet.false) c.is_linearization.result c.is_linearization.ensures
