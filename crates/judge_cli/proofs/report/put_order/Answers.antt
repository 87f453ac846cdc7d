-- `put_order` meets its contract: the line is put piece by piece.
use native.Mathlib.Omega.{arith}
use Rattle.text.proofs.Putting.{puts_same, puts_more}
use Rattle.history.specs.Sheet.{sheet_header, numbers_from}
use Rattle.judge_cli.proofs.Lines.{order_pieces, order_length}
use Rattle.judge_cli.proofs.report.put_order.Goals as goal

pub put_listed-next-requires : goal.put_listed-next-requires
put_listed-next-requires c = let a = c.args in
    let long = order_length (numbers_from a.sheet.now sheet_header a.k) in
    (omega arith, omega arith)

pub end_line-requires : goal.end_line-requires
end_line-requires c = let a = c.args in omega (arith, order_length (numbers_from a.sheet.now sheet_header a.k))

pub returns : goal.returns
returns c = let a = c.args in
    puts_same (order_pieces (numbers_from a.sheet.now sheet_header a.k)) (puts_more (puts_more c.put_bytes-next.ensures c.put_listed-next.ensures (omega arith)) c.end_line.ensures (omega arith))
