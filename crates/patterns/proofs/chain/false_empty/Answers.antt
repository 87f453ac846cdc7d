-- `false_empty` meets its contract. The invariant: the list has its length; e is at most `count`, and no empty remove below it has all its gaps
-- covered.
use native.Mathlib.Omega.{arith}
use Rattle.history.specs.History.{empty_remove}
use Rattle.matching.specs.View.{history_in}
use Rattle.matching.proofs.Reaching.{reaching_kept}
use Rattle.violations.specs.Violations.{Is}
use Rattle.matching.proofs.Firsts.{first_more}
use Rattle.history.specs.Positions.{max_positions}
use Rattle.matching.proofs.Storing.{new_cleared}
use Rattle.patterns.proofs.Chaining.{not_covered, first_chained}
use Rattle.patterns.proofs.chain.false_empty.Goals as goal
use Rattle.patterns.proofs.chain.false_empty.Goals.{then-kind-eq-EMPTY_REMOVE+in_default, else-kind-eq-EMPTY_REMOVE}

pub note_returns-requires : goal.note_returns-requires
note_returns-requires c = new_cleared max_positions

pub chain-requires : goal.chain-requires
chain-requires c = (
  record { reach = c.args.reached.now.reach.now; reaching = reaching_kept c.args.reached.now.reaching; rank = _; ranked = c.fill_ranks.ensures; returns = c.note_returns.ensures },
  c.fill_next.ensures,
  record { known = c.loop-e-test.true; kinds = rw c.kind.ensures at c.if-kind-eq-EMPTY_REMOVE.true },
)

pub returns-in-Some : goal.returns-in-Some
returns-in-Some c =
    let is : Is (history_in c.args.reached.now.matched.history) empty_remove c.loop-e.e = record { known = c.loop-e-test.true; kinds = rw c.kind.ensures at c.if-kind-eq-EMPTY_REMOVE.true } in
    let (some, chained) = c.in-Some.ensures in
    (some, first_chained c.loop-e.invariant.1 is chained some)

pub loop-e-preserved : goal.loop-e-preserved
loop-e-preserved c = let inv = c.loop-e.invariant in
    elim c.if-kind-eq-EMPTY_REMOVE.branch [
      | then-kind-eq-EMPTY_REMOVE+in_default w ↦ (rw w.list-is w.in_default.ensures.sized, first_more inv.1 c.loop-e-test.true (not_covered w.in_default.ensures))
      | else-kind-eq-EMPTY_REMOVE w ↦ (rw w.list-is inv.0, first_more inv.1 c.loop-e-test.true (λ covered. omega (arith, w.if-kind-eq-EMPTY_REMOVE.false, covered.0.kinds)))
    ]
