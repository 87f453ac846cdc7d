-- `try_fate` meets its contract: no value can have been taken, or the fate that is tried succeeds, or the pattern stays.
use native.Mathlib.Omega.{arith}
use mathlib.Core.Path.{refl}
use Rattle.reader.specs.Log.{max_records}
use Rattle.matching.proofs.Storing.{new_cleared}
use Rattle.fates.proofs.Laws.{fate_held}
use Rattle.patterns.proofs.Numbered.{numbered}
use Rattle.judge.proofs.Fating.{no_fate_helps, fate_helps, fate_fails}
use Rattle.judge.proofs.decide.try_fate.Goals as goal

pub returns-in_err-a : goal.returns-in_err-a
returns-in_err-a c = let pre = c.requires in
    rw c.from_residual.ensures (record { outcome = λ violation. no_fate_helps pre.0 pre.1 pre.2 pre.3 violation c.in_err-a.ensures (omega arith) })

pub invariant_of-decide_complete : goal.invariant_of-decide_complete
invariant_of-decide_complete c = let pre = c.requires in record { held = fate_held _ pre.0 pre.1 pre.3 c.take.ensures }

pub decide_complete-requires : goal.decide_complete-requires
decide_complete-requires c = new_cleared max_records

pub returns-in-Order : goal.returns-in-Order
returns-in-Order c = let pre = c.requires in
    let (some, soonest) = c.in_ok-a.ensures in
    record { outcome = λ violation. fate_helps pre.0 pre.1 pre.2 pre.3 violation soonest some c.take.ensures c.in-Order.ensures.1 refl }

pub returns-in-Pattern : goal.returns-in-Pattern
returns-in-Pattern c = let pre = c.requires in
    let (some, soonest) = c.in_ok-a.ensures in
    record {
      outcome = λ violation. fate_fails pre.0 pre.1 pre.2 pre.3 violation soonest some c.take.ensures c.in-Pattern.ensures.1 (λ e. omega (arith, numbered c.in-Pattern.field-0.pattern));
    }
