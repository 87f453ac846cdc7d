-- `put_counts_of` meets its contract, by what the check answers.
use native.Mathlib.Omega.{arith}
use mathlib.Core.Path.{ap}
use lib.ListN.{length}
use Rattle.text.proofs.Putting.{puts_nothing, puts_same}
use Rattle.reader.specs.Log.{read_log}
use Rattle.judge_cli.proofs.Counts.{counts_readable, counts_refused}
use Rattle.judge_cli.proofs.report.put_counts_of.Goals as goal

pub put_counts-requires : goal.put_counts-requires
put_counts-requires c = let a = c.args in
    omega (arith, ap length (counts_readable (read_log a.log.now) c.check.ensures c.in-Ok.is))

pub returns-in-Err : goal.returns-in-Err
returns-in-Err c = let a = c.args in
    puts_same (counts_refused (read_log a.log.now) c.check.ensures c.in-Err.is) (puts_nothing a.text.now 0)

pub returns-in-Ok : goal.returns-in-Ok
returns-in-Ok c = let a = c.args in
    puts_same (counts_readable (read_log a.log.now) c.check.ensures c.in-Ok.is) c.put_counts.ensures
