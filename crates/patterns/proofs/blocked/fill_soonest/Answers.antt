-- `fill_soonest` meets its contract. The loop's invariant is `Filling`: the table is right from position p on.
use native.Mathlib.Omega.{arith}
use Rattle.matching.proofs.Numbers.{smaller_is}
use Rattle.patterns.proofs.Soonest.{filling_call, filling_on}
use Rattle.patterns.proofs.blocked.fill_soonest.Goals as goal
use Rattle.patterns.proofs.blocked.fill_soonest.Goals.{then-o-gt0+then-call-p, then-o-gt0+else-call-p, else-o-gt0}

pub loop-p-preserved : goal.loop-p-preserved
loop-p-preserved c = let held = c.args.matched.now.history.held in
    let so_far = c.loop-p.invariant in
    let some = c.loop-p-test.true in
    elim c.if-o-gt0.branch [
      | then-o-gt0+then-call-p w ↦
          rw (w.least-is, w.o-is) (filling_call held so_far some w.if-o-gt0.true (rw w.call.ensures at w.if-call-p.true) (smaller_is (rw w.removal_of.ensures at w.min-least.ensures)))
      | then-o-gt0+else-call-p w ↦ rw (w.least-is, w.o-is) (filling_on held so_far some (λ l e. omega (arith, w.if-call-p.false, w.call.ensures)))
      | else-o-gt0 w ↦ rw (w.least-is, w.o-is) (filling_on held so_far some (λ l. absurd (omega (arith, w.if-o-gt0.false))))
    ]
