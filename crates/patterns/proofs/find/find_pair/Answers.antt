-- `find_pair` meets its contract.
use native.Mathlib.Omega.{arith}
use mathlib.Core.Path.{sym, ◌∙◌}
use borrow.Author.Tests.{eqb-true, eqb-false}
use Rattle.patterns.specs.declared.pattern.Pattern.TheVariants.{Stuck}
use Rattle.patterns.specs.Views.{BlocksIn}
use Rattle.matching.proofs.Reaching.{reaching_kept}
use Rattle.patterns.proofs.Answered.{found_some}
use Rattle.patterns.proofs.Numbered.{same_number}
use Rattle.patterns.proofs.Finding.{paired_stuck_at, paired_overtaken_at}
use Rattle.patterns.proofs.find.find_pair.Goals as goal

pub unwrap-b-requires : goal.unwrap-b-requires
unwrap-b-requires c =
    let (known, first) = c.in_ok-a.ensures in
    let (b, below, there) = (first.holds known).some in
    found_some (BlocksIn c.args.reached.now c.in_ok-a.a) _ c.blocked_by.ensures below there

pub returns-then-eq : goal.returns-then-eq
returns-then-eq c =
    let (known, first) = c.in_ok-a.ensures in
    let blocked = rw c.unwrap-b.ensures at c.blocked_by.ensures in
    let stuck = eqb-true _ _ (sym (same_number c.args.pattern Stuck) ∙ sym c.eq.ensures ∙ c.if-eq.true) in
    (omega arith, paired_stuck_at c.args.reached.now.matched.history.held c.args.reached.now.matched.partners c.requires.0 (reaching_kept c.args.reached.now.reaching) c.args.list.now c.told-list stuck first known blocked.1)

pub returns : goal.returns
returns c =
    let (known, first) = c.in_ok-a.ensures in
    let blocked = rw c.unwrap-b.ensures at c.blocked_by.ensures in
    let other = eqb-false _ _ (sym (same_number c.args.pattern Stuck) ∙ sym c.eq.ensures ∙ c.if-eq.false) in
    (omega arith, paired_overtaken_at c.args.reached.now.matched.history.held c.args.reached.now.matched.partners c.requires.0 (reaching_kept c.args.reached.now.reaching) c.args.list.now c.told-list c.requires.2 other first known blocked.1)
