-- `find_cause` meets its contract.
use mathlib.Core.Path.{refl}
use mathlib.Core.Logic.{inr}
use Rattle.matching.specs.View.{history_in}
use Rattle.matching.proofs.Reaching.{reaching_kept}
use Rattle.patterns.specs.Chains.{FirstChained}
use Rattle.patterns.proofs.Answered.{listed_some}
use Rattle.patterns.proofs.Finding.{none_last, listed_last}
use Rattle.patterns.proofs.find.find_cause.Goals as goal

pub find_pair-requires-2 : goal.find_pair-requires-2
find_pair-requires-2 c = (
  c.requires.0,
  c.fill_soonest.ensures,
  inr (refl, c.in_default.ensures.none refl),
)

pub unwrap-requires : goal.unwrap-requires
unwrap-requires c =
    listed_some (λ k. FirstChained (history_in c.args.reached.now.matched.history) k c.false_empty.new.list) _ c.false_empty.ensures
    (λ first. c.requires.1 (none_last c.args.reached.now.matched.history.held c.args.reached.now.matched.partners c.requires.0 (reaching_kept c.args.reached.now.reaching) (c.in_default.ensures.none refl) (c.in_default-find_pair.ensures.none refl) first refl))

pub returns : goal.returns
returns c =
    let listed = rw c.unwrap.ensures at c.false_empty.ensures in
    listed_last c.args.reached.now.matched.history.held c.args.reached.now.matched.partners c.requires.0 (reaching_kept c.args.reached.now.reaching) (c.in_default.ensures.none refl) (c.in_default-find_pair.ensures.none refl) listed.1 listed.0
