-- `write_records` meets its contract. The loop's invariant is `Writing`: the marked ones of the records before it are copied.
use native.Mathlib.Omega.{arith}
use Rattle.projection.proofs.Writing.{writing_starts, writing_small, writing_room, writing_marked, writing_passed}
use Rattle.projection.proofs.write.write_records.Goals as goal
use Rattle.projection.proofs.write.write_records.Goals.{then-marked, else-marked}

pub loop-marked-init : goal.loop-marked-init
loop-marked-init c = writing_starts (λ j. omega (arith, c.type_inv.log j)) c.requires.0 c.requires.1

pub slice_bounds-copy-end : goal.slice_bounds-copy-end
slice_bounds-copy-end c = (writing_small c.loop-marked.invariant c.loop-marked-test.true c.end_of-next.ensures).1

pub slice_bounds-copy-start : goal.slice_bounds-copy-start
slice_bounds-copy-start c = (writing_small c.loop-marked.invariant c.loop-marked-test.true c.end_of-next.ensures).0

pub slice_bounds-copy-count : goal.slice_bounds-copy-count
slice_bounds-copy-count c = (writing_small c.loop-marked.invariant c.loop-marked-test.true c.end_of-next.ensures).0

pub overflow_sub-at : goal.overflow_sub-at
overflow_sub-at c = (writing_small c.loop-marked.invariant c.loop-marked-test.true c.end_of-next.ensures).0

pub copy-requires : goal.copy-requires
copy-requires c = writing_room c.loop-marked.invariant c.loop-marked-test.true c.end_of-next.ensures c.if-marked.true

pub loop-marked-preserved : goal.loop-marked-preserved
loop-marked-preserved c = elim c.if-marked.branch [
  | then-marked w ↦ rw (w.out-is, w.at-is, w.from-is) (writing_marked c.loop-marked.invariant c.loop-marked-test.true c.end_of-next.ensures w.if-marked.true w.copy.ensures)
  | else-marked w ↦ rw (w.out-is, w.at-is, w.from-is) (writing_passed c.loop-marked.invariant c.loop-marked-test.true c.end_of-next.ensures w.if-marked.false)
]
