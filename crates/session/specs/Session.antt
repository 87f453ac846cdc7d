-- Document 01, "Sessions" and "Turned down by how things stand": what is answered to begin, feed, close, sheet and excerpt, and what they leave of the
-- session and its buffer. A session is two numbers, its stage and how many bytes of its buffer are used.
use Rattle.std.specs.Prelude.{ℕ, ◌+◌, ◌≤◌, ◌≡◌, Bool, false, not, List, Result, Ok, Err, is_ok, [], ◌∷◌, length, take, ltb, eqb, if◌then◌else◌}
use Rattle.record.specs.Refusal.{refusing}
use Rattle.record.specs.declared.refusal.Refusal.{Refusal}
use Rattle.record.specs.declared.refusal.Refusal.TheVariants.{SessionClosed, SessionOpen, SessionUnfit, BufferTooShort}
use Rattle.record.specs.declared.refusal.Refused.{Refused}
use Rattle.buffer.specs.Buffer.{written, put}
use Rattle.buffer.specs.Output.{writing}
use Rattle.reader.specs.Log.{count_field, with_count, Reading, unless_fault, read_partial, read_log, checked}
use Rattle.reader.specs.Feed.{extended}
use Rattle.judge.specs.declared.judge.Verdict.{Verdict}
use Rattle.judge.specs.declared.judge.Verdict.TheVariants as judge

-- "A session carries its stage, open or closed"
abbrev pub open_stage : ℕ
open_stage = 0

abbrev pub closed_stage : ℕ
closed_stage = 1

-- the log that a session holds: the used bytes of its buffer
abbrev pub held_log : ℕ → List ℕ → List ℕ
held_log used buffer = take used buffer

-- the session fits its buffer
abbrev pub session_fits : ℕ → ℕ → List ℕ → Bool
session_fits stage used buffer =
    if ltb (length buffer) used then false else
    if eqb stage open_stage then is_ok (checked (read_partial (held_log used buffer))) else
    if eqb stage closed_stage then is_ok (checked (read_log (held_log used buffer))) else
    false

-- 25, then 20 or 22: whether a session is refused that has to be in the wanted stage, open for feed and close and closed for sheet and excerpt
unfoldable pub stage_refusal : ℕ → ℕ → ℕ → List ℕ → Result (Unit {0}) Refusal
stage_refusal wanted stage used buffer =
    if not (session_fits stage used buffer) then Err SessionUnfit else
    if eqb stage wanted then Ok tt else
    if eqb wanted open_stage then Err SessionClosed else
    Err SessionOpen

-- What close, sheet and excerpt go by: "25, then 20 or 22, then the input list" of the log that is held. Close and sheet judge it, as
-- `Judges` says, and excerpt writes its excerpt, as `excerpt_answer` and `excerpt_leaves` say.
abbrev pub session_reading : ℕ → ℕ → ℕ → List ℕ → Reading
session_reading wanted stage used buffer = unless_fault (stage_refusal wanted stage used buffer) 0 (read_log (held_log used buffer))

-- The session is open and the used bytes are there, or it is refused by how it stands.
abbrev pub Opened : ℕ → ℕ → List ℕ → Result (Unit {0}) Refusal → Type 0
Opened stage used buffer (Ok _) = (stage ≡ open_stage) × (used ≤ length buffer)
Opened stage used buffer (Err refusal) = stage_refusal open_stage stage used buffer ≡ Err refusal

-- Begin: "Beginning writes 01 00 00 (hexadecimal)", and 24: "under 3 bytes at beginning".
abbrev pub empty_log : List ℕ
empty_log = 1 ∷ 0 ∷ 0 ∷ []

abbrev pub begin_answer : List ℕ → Result ℕ Refused
begin_answer buffer = writing empty_log buffer

abbrev pub begin_leaves : List ℕ → List ℕ
begin_leaves buffer = written empty_log buffer

-- the stage and the used bytes behind begin: an open session over the empty log, or as they were
abbrev pub stage_begun : ℕ → Result ℕ Refused → ℕ
stage_begun stage (Ok n) = open_stage
stage_begun stage (Err r) = stage

abbrev pub used_begun : ℕ → Result ℕ Refused → ℕ
used_begun used (Ok n) = n
used_begun used (Err r) = used

-- Feed: "25, 20, 21, the input list, 24". What the bytes come to behind the log that is held:
abbrev pub fed_answer : Result ℕ Refused → ℕ → List ℕ → List ℕ → Result ℕ Refused
fed_answer (Err r) used buffer bytes = Err r
fed_answer (Ok records) used buffer bytes =
    if ltb (length buffer) (used + length bytes) then refusing BufferTooShort 0 else Ok (length bytes)

-- an answer, unless the session is refused
abbrev pub unless_refused : Result (Unit {0}) Refusal → Result ℕ Refused → Result ℕ Refused
unless_refused (Ok _) answer = answer
unless_refused (Err refusal) answer = refusing refusal 0

unfoldable pub feed_answer : ℕ → ℕ → List ℕ → List ℕ → Result ℕ Refused
feed_answer stage used buffer bytes =
    unless_refused (stage_refusal open_stage stage used buffer) (fed_answer (extended (read_partial (held_log used buffer)) bytes) used buffer bytes)

-- "each accepted feed alters only these, the count in the lent buffer and the bytes just behind the used ones"
abbrev pub fed_buffer : Result ℕ Refused → ℕ → List ℕ → List ℕ → List ℕ
fed_buffer (Ok n) used buffer bytes = put used bytes (with_count (count_field buffer + 1) buffer)
fed_buffer (Err r) used buffer bytes = buffer

abbrev pub feed_leaves : ℕ → ℕ → List ℕ → List ℕ → List ℕ
feed_leaves stage used buffer bytes = fed_buffer (feed_answer stage used buffer bytes) used buffer bytes

-- the used bytes behind a feed; the stage is as it was
abbrev pub used_fed : ℕ → Result ℕ Refused → ℕ
used_fed used (Ok n) = used + n
used_fed used (Err r) = used

-- Close: "Closing alters only the stage." A refused close leaves it.
abbrev pub stage_closed : ℕ → Verdict → ℕ
stage_closed stage (judge.Order k) = closed_stage
stage_closed stage (judge.Pattern number k) = closed_stage
stage_closed stage (judge.Refused r) = stage
