-- `narrow` meets its contract: the table agrees with the log's history, so that the operations on the values are kept.
use native.Mathlib.Omega.{arith}
use Rattle.history.proofs.Tabulating.{table_of}
use Rattle.projection.proofs.Answering.{writes_projection, narrow_readable}
use Rattle.projection.proofs.Findings.{held}
use Rattle.projection.proofs.narrow.narrow.Goals as goal

pub overflow_add-h : goal.overflow_add-h
overflow_add-h c = omega (arith, (held (table_of _ c.tabulate.ensures.0 c.in_ok-counts.was c.tabulate.ensures.1)).short)

pub invariant_of-h : goal.invariant_of-h
invariant_of-h c = record { held = held (table_of _ c.tabulate.ensures.0 c.in_ok-counts.was c.tabulate.ensures.1) }

pub returns : goal.returns
returns c = let of = (table_of _ c.tabulate.ensures.0 c.in_ok-counts.was c.tabulate.ensures.1) in narrow_readable of _ (writes_projection of c.keep.ensures c.write_kept.ensures)
