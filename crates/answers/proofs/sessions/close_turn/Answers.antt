-- `close_turn` meets its contract.
use mathlib.Core.Path.{refl}
use Rattle.answers.proofs.Laws.{session_known, judges_small}
use Rattle.answers.proofs.sessions.close_turn.Goals as goal

pub judge_answer-requires : goal.judge_answer-requires
judge_answer-requires c = judges_small (session_known 0 c.args.stage c.args.used c.args.buf.now) _ c.judge_held-v.ensures

pub returns : goal.returns
returns c = record { judged = record { verdict = c.judge_held-v.result; judges = c.judge_held-v.ensures; answers = c.judge_answer.ensures }; stage_is = c.stage_closed.ensures; used_is = refl }
