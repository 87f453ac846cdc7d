-- `find_sign` meets its contract.
use mathlib.Core.Path.{refl}
use Rattle.matching.proofs.Firsts.{none_found}
use Rattle.patterns.proofs.Signing.{again_found}
use Rattle.patterns.proofs.Finding.{signed_unknown, signed_twice, signed_early}
use Rattle.patterns.proofs.find.find_sign.Goals as goal

pub returns-in-Some : goal.returns-in-Some
returns-in-Some c = let (known, first) = c.in-Some.ensures in signed_unknown c.args.matched.now.history.held c.args.matched.now.partners c.args.list.now c.told-list first known

pub unwrap-requires : goal.unwrap-requires
unwrap-requires c = let (known, first) = c.in-Some-first_showing.ensures in again_found c.args.matched.now.history.held c.args.matched.now.partners known (first.holds known) _ c.removed_again.ensures

pub returns-in-Some-first_showing : goal.returns-in-Some-first_showing
returns-in-Some-first_showing c =
    let (known, first) = c.in-Some-first_showing.ensures in
    let again = rw c.unwrap.ensures at c.removed_again.ensures in
    signed_twice c.args.matched.now.history.held c.args.matched.now.partners c.args.list.now c.told-list (none_found c.in_default.ensures refl) first known again.1

pub returns-in-Some-first_showing-2 : goal.returns-in-Some-first_showing-2
returns-in-Some-first_showing-2 c =
    let (known, first) = c.in-Some-first_showing-2.ensures in
    signed_early c.args.matched.now.history.held c.args.matched.now.partners c.args.list.now c.told-list (none_found c.in_default.ensures refl) (none_found c.in_default-first_showing.ensures refl) first known
