-- `match_value` meets its contract: the operation is no remove, or its value has no add, or the two are made partners.
use native.Mathlib.Omega.{arith}
use Rattle.matching.proofs.Mapping.{add_found, add_unknown}
use Rattle.matching.proofs.Matching.{noted_other, noted_unknown, noted_pair}
use Rattle.matching.proofs.values.Adds.match_value.Goals as goal

pub returns-then-kind_of-ne-REMOVE : goal.returns-then-kind_of-ne-REMOVE
returns-then-kind_of-ne-REMOVE c = noted_other _ _ _ _ (rw c.kind_of.ensures at c.if-kind_of-ne-REMOVE.true)

pub returns-in-Some : goal.returns-in-Some
returns-in-Some c =
    let (used, latest) = rw c.value_of.ensures at c.in-Some.ensures in
    let (below, of) = add_found c.requires.1 latest used in
    noted_pair _ _ _ _ (rw c.kind_of.ensures at c.if-kind_of-ne-REMOVE.false) c.requires.0 c.requires.2 c.requires.3 below of

pub returns-in_default : goal.returns-in_default
returns-in_default c = noted_unknown _ _ _ _ (add_unknown c.requires.1 (rw c.value_of.ensures at c.in_default.ensures) (omega arith))
