-- The number that a call answers: what it returns, or a refusal. `refusal`, and `output_answer` for a call that writes a log, stand in
-- `Output` of the crate buffer.
use Rattle.std.specs.Prelude.{ℕ, ◌≤◌, ◌≡◌, Bool, true, false, List, Result, Ok, Err}
use Rattle.record.specs.declared.refusal.Refused.{Refused}
use Rattle.buffer.specs.Output.{refusal}
use Rattle.reader.specs.Log.{max_records, max_length, Reading}
use Rattle.reader.specs.declared.log.Counts.{Counts}
use Rattle.judge.specs.Judge.{sheet_bytes, Judges}
use Rattle.judge.specs.declared.judge.Verdict.{Verdict}
use Rattle.judge.specs.declared.judge.Verdict.TheVariants as judge
use Rattle.judge.specs.declared.judge.Verdict.TheVariants.{Order, Pattern}

-- of a check: the number of operations
abbrev pub check_answer : Result Counts Refused → ℕ
check_answer (Ok counts) = counts.operations
check_answer (Err r) = refusal r

-- of a replay: 1 for yes, 0 for no
abbrev pub replay_answer : Result Bool Refused → ℕ
replay_answer (Ok true) = 1
replay_answer (Ok false) = 0
replay_answer (Err r) = refusal r

-- of judging: how many bytes the sheet has
abbrev pub judge_answer : Verdict → ℕ
judge_answer (Order k) = sheet_bytes (Order k)
judge_answer (Pattern number k) = sheet_bytes (Pattern number k)
judge_answer (judge.Refused r) = refusal r

-- A log, as it was read, is judged into a sheet: this number is answered, and this sheet is left.
pub record JudgeAnswers (reading : Reading) (sheet : List ℕ) (answer : ℕ) (sheet' : List ℕ) : Type 0 where
  pub verdict : Verdict
  pub judges : Judges reading sheet verdict sheet'
  pub answers : answer ≡ judge_answer verdict

-- What an answer holds is small, so that its number fits: operations and bytes are those of a log, a sheet lists at most 682
-- operations, and the index of a refusal is at most 1,024. A refusal's number is at least 1, so that it is told from an accepted call.
abbrev pub SmallRefusal : Refused → Type 0
SmallRefusal r = (1 ≤ r.number) × (r.index ≤ max_records)

abbrev pub SmallCheck : Result Counts Refused → Type 0
SmallCheck (Ok counts) = counts.operations ≤ max_records
SmallCheck (Err r) = SmallRefusal r

abbrev pub SmallReplay : Result Bool Refused → Type 0
SmallReplay (Ok legal) = Unit {0}
SmallReplay (Err r) = SmallRefusal r

abbrev pub SmallVerdict : Verdict → Type 0
SmallVerdict (Order k) = k ≤ 682
SmallVerdict (Pattern number k) = k ≤ 682
SmallVerdict (judge.Refused r) = SmallRefusal r

abbrev pub SmallOutput : Result ℕ Refused → Type 0
SmallOutput (Ok n) = n ≤ max_length
SmallOutput (Err r) = SmallRefusal r
