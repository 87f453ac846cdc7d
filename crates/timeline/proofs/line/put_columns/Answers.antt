-- `put_columns` meets its contract: dots, hashes, dots, spaces, and the line feed.
use Prim.Native.Nat.{◌≤◌}
use native.Mathlib.Omega.{arith}
use lib.ListN.{length}
use Rattle.timeline.proofs.Pieces.{right_part_put}
use Rattle.timeline.proofs.line.put_columns.Goals as goal

pub returns : goal.returns
returns c =
    let room : c.args.at ≤ length c.args.text.now = omega (arith, c.requires.0) in
    let args = c.args in
    let pre = c.requires in (
      omega arith,
      right_part_put args.start args.end args.records pre.1 pre.2 room
          c.put_run-hashes.ensures c.put_run-dots.ensures c.put_run-spaces.ensures c.put_run-last.ensures.1 c.end_line.ensures,
    )
