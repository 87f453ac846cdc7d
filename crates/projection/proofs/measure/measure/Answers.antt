-- `measure` meets its contract. The loop's invariant is `Measuring`: the marked ones of the records before it are added up.
use Rattle.projection.proofs.Measuring.{measuring_starts, measuring_rises, measuring_marked, measuring_passed}
use Rattle.projection.proofs.measure.measure.Goals as goal
use Rattle.projection.proofs.measure.measure.Goals.{then-marked, else-marked}

pub loop-marked-init : goal.loop-marked-init
loop-marked-init c = measuring_starts c.requires

pub overflow_sub-bytes : goal.overflow_sub-bytes
overflow_sub-bytes c = measuring_rises c.loop-marked.invariant c.loop-marked-test.true c.end_of-next.ensures

pub loop-marked-preserved : goal.loop-marked-preserved
loop-marked-preserved c = elim c.if-marked.branch [
  | then-marked w ↦ rw (w.count-is, w.bytes-is, w.at-is) (measuring_marked c.loop-marked.invariant c.loop-marked-test.true c.end_of-next.ensures w.if-marked.true)
  | else-marked w ↦ rw (w.count-is, w.bytes-is, w.at-is) (measuring_passed c.loop-marked.invariant c.loop-marked-test.true c.end_of-next.ensures w.if-marked.false)
]
