-- `report` meets its contract: the line for the judge's answer is put behind the first line.
use native.Mathlib.Omega.{arith}
use mathlib.Core.Path.{refl}
use lib.ListN.{replicate}
use Rattle.text.proofs.Putting.{puts_more}
use Rattle.judge_cli.specs.Writing.{sheet_room}
use Rattle.judge_cli.proofs.Reporting.{judged_reports, puts_report}
use Rattle.judge_cli.proofs.report.report.Goals as goal

pub put_counts_of-at-requires : goal.put_counts_of-at-requires
put_counts_of-at-requires c = let a = c.args in
    omega (arith, (judged_reports a.log.now (replicate sheet_room 0) refl c.judge-answer.ensures).fits)

pub put_answer-requires : goal.put_answer-requires
put_answer-requires c = let a = c.args in
    let r = judged_reports a.log.now (replicate sheet_room 0) refl c.judge-answer.ensures in
    (r.on_sheet, omega (arith, r.fits))

pub returns : goal.returns
returns c = let a = c.args in
    puts_report (judged_reports a.log.now (replicate sheet_room 0) refl c.judge-answer.ensures) (omega arith) (puts_more c.put_counts_of-at.ensures c.put_answer.ensures (omega arith))
