-- `place_of` meets its contract: the record is alone in its tick, or the formulas of its batch say where it stands (`Placing.antt`).
use native.Mathlib.Omega.{arith}
use Rattle.history.proofs.Placing.{placing_called, placing_few, placing_fits, placed_alone, placed_call, placed_return}
use Rattle.history.proofs.batches.place_of.Goals as goal
use Rattle.history.proofs.batches.place_of.Goals.{then-is_call, else-is_call}

pub overflow_add-step : goal.overflow_add-step
overflow_add-step c = omega (arith, placing_fits c.requires c.if-before-index.true c.if-index-end.true)

pub be32-requires : goal.be32-requires
be32-requires c = omega (arith, placing_fits c.requires c.if-before-index.true c.if-index-end.true)

pub overflow_cast-result : goal.overflow_cast-result
overflow_cast-result c = omega (arith, placing_called c.requires)

pub returns-then-be32-step : goal.returns-then-be32-step
returns-then-be32-step c = placed_alone c.requires c.if-before-index.true c.if-index-end.true c.be32.ensures c.if-be32-step.true

pub overflow_add-position : goal.overflow_add-position
overflow_add-position c = omega (arith, placing_called c.requires, placing_few c.requires c.batch_of-batch.ensures)

pub overflow_sub-position : goal.overflow_sub-position
overflow_sub-position c = omega (arith, placing_called c.requires)

pub overflow_add-position-else-is_call : goal.overflow_add-position-else-is_call
overflow_add-position-else-is_call c = omega (arith, placing_called c.requires, placing_few c.requires c.batch_of-batch.ensures)

pub overflow_cast-result-2 : goal.overflow_cast-result-2
overflow_cast-result-2 c = elim c.if-is_call.branch [
  | then-is_call w ↦ omega (arith, w.position-is, placing_called c.requires, placing_few c.requires c.batch_of-batch.ensures)
  | else-is_call w ↦ omega (arith, w.position-is, placing_called c.requires, placing_few c.requires c.batch_of-batch.ensures)
]

pub returns : goal.returns
returns c = elim c.if-is_call.branch [
  | then-is_call w ↦ rw w.position-is (placed_call c.requires c.batch_of-batch.ensures (rw w.if-is_call.true at c.is_call.ensures))
  | else-is_call w ↦ rw w.position-is (placed_return c.requires c.batch_of-batch.ensures (rw w.if-is_call.false at c.is_call.ensures))
]
