-- `batch_of` meets its contract. The loop's invariant is `Looking`: the records before `stop` have no higher tick than the one whose batch it is.
use native.Mathlib.Omega.{arith}
use mathlib.Core.Path.{◌∙◌}
use Rattle.history.proofs.Basics.{counts}
use Rattle.history.proofs.Along.{whole_one}
use Rattle.history.proofs.Looking.{looking_starts, looking_called, looking_fits, looking_few, looking_next, looking_ends, looking_stops}
use Rattle.history.proofs.batches.batch_of.Goals as goal
use Rattle.history.proofs.batches.batch_of.Goals.{then-loop-stop-test+else-be32-tick, else-loop-stop-test}

pub returns-then-step-before : goal.returns-then-step-before
returns-then-step-before c = let beside = c.requires in
    record { found = λ records read. rw (← (whole_one beside.whole records read)) (beside.batched.inside c.if-step-before.true) }

pub loop-stop-init : goal.loop-stop-init
loop-stop-init c = looking_starts c.requires c.if-step-before.false (c.is_call.ensures ∙ counts _)

pub overflow_add-calls : goal.overflow_add-calls
overflow_add-calls c = omega (arith, looking_few (looking_starts c.requires c.if-step-before.false (c.is_call.ensures ∙ counts _)))

pub overflow_add-at : goal.overflow_add-at
overflow_add-at c = omega (arith, looking_fits c.loop-stop.invariant c.loop-stop-test.true)

pub be32-requires : goal.be32-requires
be32-requires c = omega (arith, looking_fits c.loop-stop.invariant c.loop-stop-test.true)

pub loop-stop-preserved : goal.loop-stop-preserved
loop-stop-preserved c = looking_next c.loop-stop.invariant c.loop-stop-test.true c.be32.ensures c.if-be32-tick.true c.decode_at.ensures c.unwrap-next.ensures (c.is_call-in-loop-stop.ensures ∙ counts _)

pub overflow_add-calls-in-loop-stop : goal.overflow_add-calls-in-loop-stop
overflow_add-calls-in-loop-stop c = omega (arith, looking_few (looking_next c.loop-stop.invariant c.loop-stop-test.true c.be32.ensures c.if-be32-tick.true c.decode_at.ensures c.unwrap-next.ensures (c.is_call-in-loop-stop.ensures ∙ counts _)))

pub overflow_sub-result : goal.overflow_sub-result
overflow_sub-result c = omega (arith, looking_called c.loop-stop.invariant)

pub returns : goal.returns
returns c = elim c.loop-stop-test.branch [
  | then-loop-stop-test+else-be32-tick w ↦ looking_stops c.loop-stop.invariant w.loop-stop-test.true w.be32.ensures w.if-be32-tick.false
  | else-loop-stop-test w ↦ looking_ends c.loop-stop.invariant w.loop-stop-test.false
]
