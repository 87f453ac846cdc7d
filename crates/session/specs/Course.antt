-- What a session goes through: calls, one after the other, and what they make of it and of the buffer that is lent to it. Document 01, "Sessions":
-- "The lent buffer then always holds the log fed so far."
use Rattle.std.specs.Prelude.{ℕ, ◌≤◌, ◌≡◌, List, Result, Ok, Err, [], ◌∷◌, ◌++◌, length, drop}
use Rattle.record.specs.Number.{bytes_of, Bytes}
use Rattle.record.specs.declared.record.Record.{Record}
use Rattle.record.specs.declared.refusal.Refused.{Refused}
use Rattle.reader.specs.Log.{log_version, header_length, readable, read_partial, read_log}
use Rattle.judge.specs.Judge.{Judges}
use Rattle.judge.specs.declared.judge.Verdict.{Verdict}
use Rattle.session.specs.Session.{open_stage, closed_stage, held_log, session_reading, empty_log, begin_leaves, feed_answer, feed_leaves, used_fed, stage_closed}

-- a session and the buffer that is lent to it
pub record Lent : Type 0 where
  pub stage : ℕ
  pub used : ℕ
  pub buffer : List ℕ

-- behind begin, where it is accepted
abbrev pub begun : List ℕ → Lent
begun buffer = record { stage = open_stage; used = length empty_log; buffer = begin_leaves buffer }

-- a feed: its answer, and what it leaves
abbrev pub answer_to : Lent → List ℕ → Result ℕ Refused
answer_to s bytes = feed_answer s.stage s.used s.buffer bytes

abbrev pub after_feed : Lent → List ℕ → Lent
after_feed s bytes = record { stage = s.stage; used = used_fed s.used (answer_to s bytes); buffer = feed_leaves s.stage s.used s.buffer bytes }

-- a close: what it goes by, and what it leaves, by its answer
pub record Closes (s : Lent) (sheet : List ℕ) (answer : Verdict) (left : List ℕ) : Type 0 where
  pub judges : Judges (session_reading open_stage s.stage s.used s.buffer) sheet answer left

abbrev pub after_close : Lent → Verdict → Lent
after_close s answer = record { stage = stage_closed s.stage answer; used = s.used; buffer = s.buffer }

-- the bytes of a feed, if it is accepted
abbrev pub if_accepted : Result ℕ Refused → List ℕ → List (List ℕ)
if_accepted (Ok n) bytes = bytes ∷ []
if_accepted (Err r) bytes = []

-- What a session has gone through since it was begun in a buffer, feeds and closings, accepted or refused, in any order; and the bytes of the feeds that
-- were accepted. (Sheet and excerpt alter nothing.)
pub data Since (buffer : List ℕ) : List (List ℕ) → Lent → Type 0 where
  just_begun : header_length ≤ length buffer → Since buffer [] (begun buffer)
  then_fed : {accepted : List (List ℕ)} {s : Lent} → Since buffer accepted s → (bytes : List ℕ) → Bytes bytes
      → Since buffer (accepted ++ if_accepted (answer_to s bytes) bytes) (after_feed s bytes)
  then_closed : {accepted : List (List ℕ)} {s : Lent} → Since buffer accepted s → {sheet left : List ℕ} (answer : Verdict)
      → Closes s sheet answer left → Since buffer accepted (after_close s answer)

-- the log of fed records: the version, how many they are, and their bytes one behind the other
unfoldable pub joined : List (List ℕ) → List ℕ
joined [] = []
joined (bytes ∷ fed) = bytes ++ joined fed

abbrev pub log_of : List (List ℕ) → List ℕ
log_of fed = log_version ∷ bytes_of 2 (length fed) ++ joined fed

-- a session is open over a log that is readable but for 10, or closed over a readable one
pub data Standing (s : Lent) (log : List ℕ) : Type 0 where
  is_open : s.stage ≡ open_stage → (records : List Record) → read_partial log ≡ readable records → Standing s log
  is_closed : s.stage ≡ closed_stage → (records : List Record) → read_log log ≡ readable records → Standing s log

-- A session that was begun in a buffer holds the log of what was fed, and the bytes behind it are as they were.
pub record HoldsFed (buffer : List ℕ) (fed : List (List ℕ)) (s : Lent) : Type 0 where
  pub within : s.used ≤ length s.buffer
  pub held : held_log s.used s.buffer ≡ log_of fed
  pub behind : drop s.used s.buffer ≡ drop s.used buffer
  pub standing : Standing s (log_of fed)

-- feeds, one after the other: what they leave, and their answers
unfoldable pub after_feeds : Lent → List (List ℕ) → Lent
after_feeds s [] = s
after_feeds s (bytes ∷ feeds) = after_feeds (after_feed s bytes) feeds

unfoldable pub answers_to : Lent → List (List ℕ) → List (Result ℕ Refused)
answers_to s [] = []
answers_to s (bytes ∷ feeds) = answer_to s bytes ∷ answers_to (after_feed s bytes) feeds
