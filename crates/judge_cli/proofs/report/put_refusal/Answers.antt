-- `put_refusal` meets its contract: the line is put piece by piece.
use native.Mathlib.Omega.{arith}
use Rattle.text.proofs.Putting.{puts_same, puts_more}
use Rattle.judge_cli.proofs.Lines.{refusal_pieces, refusal_length}
use Rattle.judge_cli.proofs.report.put_refusal.Goals as goal

pub put_field-next-requires : goal.put_field-next-requires
put_field-next-requires c = let a = c.args in omega (arith, refusal_length a.number a.index)

pub put_field-next-requires-2 : goal.put_field-next-requires-2
put_field-next-requires-2 c = let a = c.args in omega (arith, refusal_length a.number a.index)

pub end_line-requires : goal.end_line-requires
end_line-requires c = let a = c.args in omega (arith, refusal_length a.number a.index)

pub returns : goal.returns
returns c = let a = c.args in
    puts_same (refusal_pieces a.number a.index) (puts_more (puts_more (puts_more c.put_bytes-next.ensures c.put_field-next.ensures (omega arith)) c.put_field-next-2.ensures (omega arith)) c.end_line.ensures (omega arith))
