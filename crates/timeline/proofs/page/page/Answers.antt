-- `page` meets its contract: a refusal of the log is passed on, and a readable log's page is written.
use mathlib.Core.Path.{◌≡◌}
use Rattle.std.proofs.Common.{rules, Err}
use Rattle.history.proofs.Tabulating.{table_of}
use Rattle.timeline.proofs.Pages.{log_refused}
use Rattle.timeline.proofs.page.page.Goals as goal

pub write_page-requires : goal.write_page-requires
write_page-requires c = let read = c.tabulate.ensures in
    table_of _ read.0 c.in_ok-counts.was read.1

pub returns-in_err-counts : goal.returns-in_err-counts
returns-in_err-counts c =
    let same : c.from_residual.result ≡ Err c.in_err-counts.field-0.0 = search rules in
    rw same (log_refused _ _ c.tabulate.ensures.0 c.in_err-counts.was)
