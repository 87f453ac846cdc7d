-- `fill_ranks` meets its contract: no value reaches beyond the end, so a rank is small.
use native.Mathlib.Omega.{arith}
use Rattle.history.specs.History.{add}
use Rattle.violations.specs.Violations.{Is}
use Rattle.matching.specs.View.{history_in}
use Rattle.matching.proofs.Reaching.{reach_within, reaching_kept}
use Rattle.patterns.proofs.chain.fill_ranks.Goals as goal

pub overflow_mul-rank : goal.overflow_mul-rank
overflow_mul-rank c = let h = c.args.reached.now.matched.history in
    let is : Is (history_in h) add c.loop-a.a = record { known = c.loop-a-test.true; kinds = rw c.kind.ensures at c.if-kind-eq-ADD.true } in
    omega (arith, reach_within h.held (reaching_kept c.args.reached.now.reaching) is, h.held.short)

pub overflow_add-rank : goal.overflow_add-rank
overflow_add-rank c = let h = c.args.reached.now.matched.history in
    let is : Is (history_in h) add c.loop-a.a = record { known = c.loop-a-test.true; kinds = rw c.kind.ensures at c.if-kind-eq-ADD.true } in
    omega (arith, reach_within h.held (reaching_kept c.args.reached.now.reaching) is, h.held.short)
