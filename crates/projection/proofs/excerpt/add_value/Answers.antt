-- `add_value` meets its contract: what has no kind has no value, nor has an empty remove, and any other operation's is put
-- behind the others.
use mathlib.Core.Logic.{inl, inr}
use Rattle.table.proofs.Lists.{pushed}
use Rattle.projection.proofs.Collecting.{value_none, value_own}
use Rattle.projection.proofs.excerpt.add_value.Goals as goal

pub returns-then-kind-eq-NO_KIND : goal.returns-then-kind-eq-NO_KIND
returns-then-kind-eq-NO_KIND c = value_none c.told-values (inl (rw c.kind_of-kind.ensures at c.if-kind-eq-NO_KIND.true))

pub returns-then-kind-eq-EMPTY_REMOVE : goal.returns-then-kind-eq-EMPTY_REMOVE
returns-then-kind-eq-EMPTY_REMOVE c = value_none c.told-values (inr (rw c.kind_of-kind.ensures at c.if-kind-eq-EMPTY_REMOVE.true))

pub returns : goal.returns
returns c = let is = c.kind_of-kind.ensures in
    value_own (rw is at c.if-kind-eq-NO_KIND.false) (rw is at c.if-kind-eq-EMPTY_REMOVE.false) (rw c.value_of.ensures (pushed _ _ _ c.requires.1 c.told-values))
