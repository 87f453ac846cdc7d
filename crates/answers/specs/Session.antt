-- What the session calls answer, and what they leave of the session, whose two numbers are its stage and its used bytes, and of the lent buffers.
use Rattle.std.specs.Prelude.{ℕ, ◌≡◌, List, [], ◌∷◌}
use Rattle.buffer.specs.Output.{output_answer}
use Rattle.projection.specs.Outcome.{excerpt_answer, excerpt_leaves}
use Rattle.session.specs.Session.{open_stage, closed_stage, session_reading, begin_answer, begin_leaves}
use Rattle.session.specs.Session.{stage_begun, used_begun, feed_answer, feed_leaves, used_fed, stage_closed}
use Rattle.answers.specs.Answer.{JudgeAnswers}

pub record BeginAnswers (stage used : ℕ) (buffer : List ℕ) (stage' used' : ℕ) (buffer' : List ℕ) (answer : ℕ) : Type 0 where
  pub answers : answer ≡ output_answer (begin_answer buffer)
  pub stage_is : stage' ≡ stage_begun stage (begin_answer buffer)
  pub used_is : used' ≡ used_begun used (begin_answer buffer)
  pub leaves : buffer' ≡ begin_leaves buffer

pub record FeedAnswers (stage used : ℕ) (buffer bytes : List ℕ) (stage' used' : ℕ) (buffer' : List ℕ) (answer : ℕ) : Type 0 where
  pub answers : answer ≡ output_answer (feed_answer stage used buffer bytes)
  pub stage_is : stage' ≡ stage
  pub used_is : used' ≡ used_fed used (feed_answer stage used buffer bytes)
  pub leaves : buffer' ≡ feed_leaves stage used buffer bytes

-- closing judges the log that an open session holds
pub record CloseAnswers (stage used : ℕ) (buffer sheet : List ℕ) (stage' used' : ℕ) (sheet' : List ℕ) (answer : ℕ) : Type 0 where
  pub judged : JudgeAnswers (session_reading open_stage stage used buffer) sheet answer sheet'
  pub stage_is : stage' ≡ stage_closed stage judged.verdict
  pub used_is : used' ≡ used

-- the sheet is written again from the log that a closed session holds
abbrev pub SheetAnswers : ℕ → ℕ → List ℕ → List ℕ → ℕ → List ℕ → Type 0
SheetAnswers stage used buffer sheet answer sheet' = JudgeAnswers (session_reading closed_stage stage used buffer) sheet answer sheet'

pub record ExcerptAnswers (stage used : ℕ) (buffer out : List ℕ) (answer : ℕ) (out' : List ℕ) : Type 0 where
  pub answers : answer ≡ output_answer (excerpt_answer (session_reading closed_stage stage used buffer) out)
  pub leaves : out' ≡ excerpt_leaves (session_reading closed_stage stage used buffer) out

-- Calls of feed, one after the other: the bytes that are fed, and the answers.
pub data FeedsAnswer : ℕ → ℕ → List ℕ → List (List ℕ) → List ℕ → ℕ → ℕ → List ℕ → Type 0 where
  none : {stage used : ℕ} {buffer : List ℕ} → FeedsAnswer stage used buffer [] [] stage used buffer
  more : {stage used stage' used' stage'' used'' answer : ℕ} {buffer buffer' buffer'' bytes answers : List ℕ} {feeds : List (List ℕ)} → FeedAnswers stage used buffer bytes stage' used' buffer' answer
      → FeedsAnswer stage' used' buffer' feeds answers stage'' used'' buffer'' → FeedsAnswer stage used buffer (bytes ∷ feeds) (answer ∷ answers) stage'' used'' buffer''
