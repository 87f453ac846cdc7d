-- The calls that make the archive of a log, as a C caller sees them: YR_REFUSED of the answer is 0, and the first YR_VALUE bytes of the
-- lent buffer are what was written.
use Rattle.std.specs.Prelude.{ℕ, ◌/◌, ◌%◌, ◌≡◌, List, take}
use Rattle.buffer.specs.Output.{refusal_unit, output_answer}
use Rattle.reader.specs.Log.{read_log}
use Rattle.projection.specs.Outcome.{excerpt_answer, excerpt_leaves}
use Rattle.answers.specs.Answer.{JudgeAnswers}

-- A call with this answer, which left this buffer, was accepted and wrote these bytes.
pub record Wrote (answer : ℕ) (left bytes : List ℕ) : Type 0 where
  pub accepted : answer / refusal_unit ≡ 0
  pub bytes_are : bytes ≡ take (answer % refusal_unit) left

-- yr_judge, called on this log with some buffer, wrote this sheet.
pub record JudgeWrote (log sheet : List ℕ) : Type 0 where
  pub buffer : List ℕ
  pub left : List ℕ
  pub answer : ℕ
  pub answers : JudgeAnswers (read_log log) buffer answer left
  pub wrote : Wrote answer left sheet

-- yr_excerpt, called on this log with some buffer, wrote this excerpt.
pub record ExcerptWrote (log excerpt : List ℕ) : Type 0 where
  pub buffer : List ℕ
  pub left : List ℕ
  pub answer : ℕ
  pub answers : answer ≡ output_answer (excerpt_answer (read_log log) buffer)
  pub leaves : left ≡ excerpt_leaves (read_log log) buffer
  pub wrote : Wrote answer left excerpt
