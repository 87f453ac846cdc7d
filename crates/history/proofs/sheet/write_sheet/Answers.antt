-- `write_sheet` meets its contract. The invariant is `Listing`: the first i numbers stand after the header.
use native.Mathlib.Omega.{arith}
use mathlib.Core.List.{[], ◌∷◌}
use lib.Seq.{length-sets}
use Rattle.history.specs.Sheet.{sheet_version}
use Rattle.history.proofs.Writing.{listing_starts, listing_next, listing_ends}
use Rattle.history.proofs.sheet.write_sheet.Goals as goal

pub loop-i-init : goal.loop-i-init
loop-i-init c = let a = c.args in listing_starts _ _ (omega (arith, length-sets a.sheet.now 0 (sheet_version ∷ a.verdict ∷ [])))

pub loop-i-preserved : goal.loop-i-preserved
loop-i-preserved c = listing_next c.loop-i.invariant (omega arith) c.put16-in-loop-i.ensures

pub returns : goal.returns
returns c = listing_ends c.loop-i.invariant _ c.args.sheet.now c.loop-i-test.false (omega arith) c.put16.ensures
