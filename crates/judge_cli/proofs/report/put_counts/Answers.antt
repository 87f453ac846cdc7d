-- `put_counts` meets its contract: the line is put piece by piece.
use native.Mathlib.Omega.{arith}
use Rattle.text.proofs.Putting.{puts_same, puts_more}
use Rattle.judge_cli.proofs.Lines.{counts_pieces, counts_length}
use Rattle.judge_cli.proofs.report.put_counts.Goals as goal

pub put_field-at-requires : goal.put_field-at-requires
put_field-at-requires c = let a = c.args in omega (arith, counts_length a.records a.operations)

pub put_bytes-at-requires-2 : goal.put_bytes-at-requires-2
put_bytes-at-requires-2 c = let a = c.args in omega (arith, counts_length a.records a.operations)

pub put_field-at-requires-2 : goal.put_field-at-requires-2
put_field-at-requires-2 c = let a = c.args in omega (arith, counts_length a.records a.operations)

pub put_bytes-requires : goal.put_bytes-requires
put_bytes-requires c = let a = c.args in omega (arith, counts_length a.records a.operations)

pub returns : goal.returns
returns c = let a = c.args in
    puts_same (counts_pieces a.records a.operations)
    (puts_more (puts_more (puts_more (puts_more c.put_bytes-at.ensures c.put_field-at.ensures (omega arith)) c.put_bytes-at-2.ensures (omega arith)) c.put_field-at-2.ensures (omega arith)) c.put_bytes.ensures (omega arith))
