-- `judge` meets its contract: what is decided for the table holds of the log, whose history agrees with it.
use native.Mathlib.Omega.{arith}
use Rattle.history.proofs.Tabulating.{log_tabled}
use Rattle.judge.proofs.Answering.{tabled_held, tabled_lone, log_judged, log_refused}
use Rattle.judge.proofs.judge.judge.Goals as goal

pub overflow_add-end : goal.overflow_add-end
overflow_add-end c = omega (arith, (log_tabled c.args.log.now c.tabulate.ensures.0 c.in-Ok.is _ _ c.tabulate.ensures.1).short)

pub decide-requires : goal.decide-requires
decide-requires c = let tabled = log_tabled c.args.log.now c.tabulate.ensures.0 c.in-Ok.is _ _ c.tabulate.ensures.1 in
    (tabled_held tabled, tabled_lone tabled)

pub returns-in-Err : goal.returns-in-Err
returns-in-Err c = log_refused c.args.log.now c.args.sheet.now c.tabulate.ensures.0 c.in-Err.is

pub returns-in-LeftOut : goal.returns-in-LeftOut
returns-in-LeftOut c = let tabled = log_tabled c.args.log.now c.tabulate.ensures.0 c.in-Ok.is _ _ c.tabulate.ensures.1 in
    log_judged tabled c.in-LeftOut.ensures c.deliver.ensures

pub returns-in-Taking : goal.returns-in-Taking
returns-in-Taking c = let tabled = log_tabled c.args.log.now c.tabulate.ensures.0 c.in-Ok.is _ _ c.tabulate.ensures.1 in
    log_judged tabled c.in-Taking.ensures c.deliver-in-Taking.ensures

pub returns-in-Pattern : goal.returns-in-Pattern
returns-in-Pattern c = let tabled = log_tabled c.args.log.now c.tabulate.ensures.0 c.in-Ok.is _ _ c.tabulate.ensures.1 in
    log_judged tabled c.in-Pattern.ensures c.deliver-in-Pattern.ensures
