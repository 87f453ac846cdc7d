-- `yr_judge` meets its contract.
use Rattle.answers.proofs.Laws.{of_log, judges_small}
use Rattle.yauponroof.proofs.yr_judge.Goals as goal

pub judge_answer-requires : goal.judge_answer-requires
judge_answer-requires c = judges_small (of_log c.args.log.now) _ c.judge.ensures
