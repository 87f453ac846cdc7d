-- `excerpt` meets its contract: a refusal of the log is passed on, a readable log's operations are in the table, and a remove without return is found
-- there.
use mathlib.Core.Path.{sym, ◌∙◌}
use Rattle.history.proofs.Tabulating.{table_of}
use Rattle.projection.proofs.Answering.{count_small}
use Rattle.projection.proofs.Findings.{pending_found, none_pending}
use Rattle.projection.proofs.excerpt.excerpt.Goals as goal

pub pending_remove-requires : goal.pending_remove-requires
pending_remove-requires c = let tabulated = c.tabulate.ensures in
    count_small (table_of _ tabulated.0 c.in_ok-counts.was tabulated.1)

pub returns-then-is_some : goal.returns-then-is_some
returns-then-is_some c = let tabulated = c.tabulate.ensures in
    rw c.from.ensures (pending_found (table_of _ tabulated.0 c.in_ok-counts.was tabulated.1) _ c.pending_remove.ensures (sym c.is_some.ensures ∙ c.if-is_some.true) _)

pub write_excerpt-requires : goal.write_excerpt-requires
write_excerpt-requires c = let tabulated = c.tabulate.ensures in
    let of = table_of _ tabulated.0 c.in_ok-counts.was tabulated.1 in
    (of, none_pending of _ c.pending_remove.ensures (sym c.is_some.ensures ∙ c.if-is_some.false))
