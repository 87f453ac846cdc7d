-- `shows_blocking` meets its contract: an add of the pattern shows it if a remove returns soon enough.
use native.Mathlib.Omega.{arith}
use mathlib.Core.Path.{sym, ◌∙◌}
use borrow.Author.Tests.{eqb-true, not-false}
use Rattle.matching.proofs.Reaching.{reaching_kept}
use Rattle.patterns.proofs.Numbered.{same_number}
use Rattle.patterns.proofs.Blocking.{decided_blocking}
use Rattle.patterns.proofs.blocked.shows_blocking.Goals as goal

pub returns : goal.returns
returns c =
    let is = eqb-true _ _ (sym (same_number c.pattern_of.result c.args.pattern) ∙ not-false _ (sym c.ne.ensures ∙ c.if-ne.false)) in
    decided_blocking _ _ c.args.reached.now.matched.history.held (reaching_kept c.args.reached.now.reaching) (record { known = c.requires.1; kinds = rw c.kind.ensures at c.if-kind-ne-ADD.false }) (sym c.pattern_of.ensures ∙ is)
    (rw c.returned-returned.ensures (c.requires.0.returns _ (omega arith) (omega arith)))
