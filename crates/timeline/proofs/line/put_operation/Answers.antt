-- `put_operation` meets its contract: the number, a space, the label, and spaces.
use native.Mathlib.Omega.{arith}
use Prim.Native.Nat.{◌≤◌}
use lib.ListN.{length}
use Rattle.timeline.proofs.Lines.{number_width, label_length}
use Rattle.timeline.proofs.Pieces.{number_put, left_part_put}
use Rattle.timeline.proofs.line.put_operation.Goals as goal

pub put_run-requires : goal.put_run-requires
put_run-requires c = omega (arith, label_length c.args.kind c.args.value (omega arith))

pub returns : goal.returns
returns c =
    let room : c.args.at ≤ length c.args.text.now = omega (arith, c.requires.0) in
    let args = c.args in
    let pad = c.padding in
    let number = number_put args.o pad.result pad.ensures room c.put_run-number.ensures.1 c.put_number-fifth.ensures in (
      c.put_run.ensures.0,
      left_part_put args.o args.kind args.value (number_width args.o c.requires.1) (label_length c.args.kind c.args.value (omega arith)) room
          number c.put_byte-label.ensures c.put_label-end.ensures c.put_run.ensures.1,
    )
