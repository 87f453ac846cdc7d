-- `put_lines` meets its contract. The loop's invariant is `Drawing`: the lines of the operations before o are written.
use native.Mathlib.Omega.{arith}
use Rattle.timeline.proofs.Drawing.{drawing_starts, drawing_next}
use Rattle.timeline.proofs.page.put_lines.Goals as goal

pub loop-o-init : goal.loop-o-init
loop-o-init c = drawing_starts _ _ _ _ _

pub loop-o-preserved : goal.loop-o-preserved
loop-o-preserved c = drawing_next c.loop-o.invariant c.loop-o-test.true c.requires.1 (omega arith)
    c.kind_of.ensures c.value_of.ensures c.put_operation-right.ensures c.put_columns-at.ensures
