-- `decide_complete` meets its contract: a sign, an order or a cause is the verdict on the history as it stands.
use mathlib.Core.Path.{refl}
use Rattle.patterns.proofs.Numbered.{numbered}
use Rattle.patterns.proofs.Finding.{reaches_right, single}
use Rattle.judge.proofs.Deciding.{decided_order, decided_pattern}
use Rattle.judge.proofs.decide.decide_complete.Goals as goal

pub returns-in-Some : goal.returns-in-Some
returns-in-Some c = (c.match_values.ensures, decided_pattern (c.in-Some.ensures.found (numbered c.in-Some.sign.pattern)))

pub invariant_of-reached : goal.invariant_of-reached
invariant_of-reached c = record { reaching = ∣ reaches_right c.args.h.now.held c.match_values.ensures (c.in_default.ensures.none refl) c.fill_reaches.ensures ∣₁ }

pub find_order-requires : goal.find_order-requires
find_order-requires c = let held = c.args.h.now.held in
    let none = c.in_default.ensures.none refl in
    single held c.match_values.ensures none (reaches_right held c.match_values.ensures none c.fill_reaches.ensures)

pub find_cause-requires : goal.find_cause-requires
find_cause-requires c = (c.in_default.ensures.none refl, c.in-None.ensures.1)

pub returns-in-Some-find_order : goal.returns-in-Some-find_order
returns-in-Some-find_order c = (c.match_values.ensures, decided_order c.in-Some-find_order.ensures)

pub returns-in-None : goal.returns-in-None
returns-in-None c = (c.match_values.ensures, decided_pattern c.find_cause.ensures)
