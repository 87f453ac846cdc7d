-- `put_listed` meets its contract. The invariant: the first i operations are put, and the buffer is as long as it was.
use native.Mathlib.Omega.{arith}
use mathlib.Core.Path.{refl, ap}
use Rattle.text.proofs.Putting.{puts_nothing, puts_same, puts_more}
use Rattle.judge_cli.specs.Writing.{listing}
use Rattle.judge_cli.proofs.Listing.{listing_none, listing_more, listing_room}
use Rattle.judge_cli.proofs.report.put_listed.Goals as goal

pub loop-i-init : goal.loop-i-init
loop-i-init c = let a = c.args in (refl, puts_same (listing_none a.sheet.now) (puts_nothing a.text.now a.at))

pub put_field-next-requires : goal.put_field-next-requires
put_field-next-requires c = let l = c.loop-i in let a = c.args in omega (arith, l.invariant.0, l.invariant.1.ends, listing_room a.sheet.now l.i c.operation_at.ensures a.k (omega arith))

pub loop-i-preserved : goal.loop-i-preserved
loop-i-preserved c = let l = c.loop-i in
    let a = c.args in
    (omega arith, puts_same (listing_more a.sheet.now l.i c.operation_at.ensures) (puts_more l.invariant.1 c.put_field-next.ensures (omega arith)))

pub returns : goal.returns
returns c = let i = c.loop-i.i in let a = c.args in puts_same (ap (listing a.sheet.now) {x = a.k} {y = i} (omega arith)) c.loop-i.invariant.1
