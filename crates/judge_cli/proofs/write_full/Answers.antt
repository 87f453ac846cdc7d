-- What a turn writes stands behind what was written before.
use Rattle.std.proofs.Common.{arith, take-add, length-drop}
use Rattle.std.proofs.KnownBytes.{Appends-trans}
use Rattle.std.proofs.lemmas.List.{take_rest}
use Rattle.judge_cli.proofs.write_full.Goals as goal

pub loop-done-preserved : goal.loop-done-preserved
loop-done-preserved g c =
    let rest = take_rest c.args.text.now c.loop-done.done in
    let more = rw rest at c.in_ok-taken.ensures.bytes in
    let bound = rw rest at c.in_ok-taken.ensures.bound in
    rw (take-add c.loop-done.done c.in_ok-taken.taken c.args.text.now) (omega (arith, bound, length-drop c.loop-done.done c.args.text.now, c.loop-done.invariant.0), Appends-trans _ _ _ _ _ c.loop-done.invariant.1 more)
