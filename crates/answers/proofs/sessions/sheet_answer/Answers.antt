-- `sheet_answer` meets its contract.
use Rattle.answers.proofs.Laws.{session_known, judges_small}
use Rattle.answers.proofs.sessions.sheet_answer.Goals as goal

pub judge_answer-requires : goal.judge_answer-requires
judge_answer-requires c = judges_small (session_known 1 c.args.stage c.args.used c.args.buf.now) _ c.judge_held.ensures
