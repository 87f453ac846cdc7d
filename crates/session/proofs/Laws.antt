-- The laws of sessions. Document 01, "Sessions" and "Sheet, excerpt, narrowing".
use Prim.Native.Nat.{ℕ, ◌+◌, ◌≤◌}
use native.Mathlib.Omega.{arith}
use mathlib.Core.Path.{◌≡◌, refl, sym, ap, ◌∙◌}
use mathlib.Core.Bool.{true}
use mathlib.Core.List.{List, [], ◌++◌, map}
use lib.ListN.{length, take, drop, length-append, length-drop}
use lib.Seq.{take-append_seam, drop-append_seam, drop-drop}
use Rattle.std.specs.Prelude.{Ok}
use Rattle.record.specs.Number.{bytes_of, Bytes}
use Rattle.record.specs.Record.{encode, size_of}
use Rattle.record.specs.declared.record.Record.{Record}
use Rattle.reader.specs.Log.{header_length, Reading, readable, read_partial, read_log, encode_all, encode_log, has_pending_remove}
use Rattle.reader.specs.Readable.{sizes}
use Rattle.reader.proofs.Laws.{partial_log, written_log}
use Rattle.judge.specs.Judge.{sheet_bytes, Judges}
use Rattle.judge.specs.declared.judge.Verdict.{Verdict}
use Rattle.judge.specs.declared.judge.Verdict.TheVariants.{Order, Pattern}
use Rattle.judge.proofs.Laws.{judged_determined}
use Rattle.projection.specs.Outcome.{excerpt_answer, excerpt_leaves}
use Rattle.projection.proofs.Sizes.{log_length}
use Rattle.archive.specs.Archive.{Archive, with_order, with_pattern, sheet_alone}
use Rattle.archive.proofs.Laws.{archive_one}
use Rattle.session.specs.Session.{open_stage, closed_stage, held_log, session_reading, empty_log, begin_answer}
use Rattle.session.specs.Course.{Lent, begun, Closes, Since, just_begun, log_of, Standing, is_open, is_closed, HoldsFed, after_feeds, answers_to}
use Rattle.session.proofs.Refusing.{open_reading, closed_reading}
use Rattle.session.proofs.Bytes.{record_bytes}
use Rattle.session.proofs.Holding.{Holding}
use Rattle.session.proofs.Feeding.{begun_holds, Stands, open_with, closed_with, rest, Grown, since_grown, records_taken, all_accepted, log_of_records}

-- what begin writes is a log without records
pub empty_log_lem : empty_log ≡ encode_log []
unfolding bytes_of encode_all
empty_log_lem = refl

-- a buffer that holds a log, with other bytes behind it
over_log : {used : ℕ} {buffer log behind : List ℕ} → used ≡ length log → buffer ≡ log ++ behind → (used ≤ length buffer) × (held_log used buffer ≡ log) × (drop used buffer ≡ behind)
over_log {log = log} {behind} u b = (omega (arith, u, ap length b, length-append log behind), rw (u, b) (take-append_seam log behind), rw (u, b) (drop-append_seam log behind))

-- "The lent buffer then always holds the log fed so far": whatever a session goes through since it was begun, feeds and closings, accepted or refused,
-- its used bytes are the log of the accepted feeds, on which it is open or closed, and the bytes behind them are as they were.
pub holds_fed : {buffer : List ℕ} {fed : List (List ℕ)} {s : Lent} → Since buffer fed s → HoldsFed buffer fed s
holds_fed {buffer} {fed} {s} since = go grown.stands
  where
    grown : Grown buffer fed s
    grown = since_grown since

    log : log_of fed ≡ encode_log grown.fed
    log = ap log_of grown.accepted_are ∙ log_of_records grown.fed

    behind_is : rest buffer grown.fed ≡ drop (length (encode_log grown.fed)) buffer
    behind_is = drop-drop (sizes grown.fed) header_length buffer ∙ ap (λ n. drop n buffer) (sym (log_length grown.fed))

    holds : {stage : ℕ} → Holding (record { stage = stage; used = s.used; buffer = s.buffer }) grown.fed (rest buffer grown.fed) → Standing s (log_of fed) → HoldsFed buffer fed s
    holds h standing =
        let (within, log-there, others) = over_log h.used_is h.buffer_is in
        record { within = within; held = log-there ∙ sym log; behind = others ∙ behind_is ∙ ap (λ n. drop n buffer) (sym h.used_is); standing = standing }

    go : Stands s grown.fed (rest buffer grown.fed) → HoldsFed buffer fed s
    go (open_with h) = holds {stage = s.stage} h (is_open h.stage_is grown.fed (ap read_partial log ∙ written_log grown.fed h.few h.writable))
    go (closed_with stage h reads) = holds h (is_closed stage grown.fed (ap read_log log ∙ reads))

module _ {buffer : List ℕ} {fed : List (List ℕ)} {s : Lent} (since : Since buffer fed s) where
  holds : HoldsFed buffer fed s
  holds = holds_fed since

  close_reading : s.stage ≡ open_stage → session_reading open_stage s.stage s.used s.buffer ≡ read_log (log_of fed)
  close_reading opened = go holds.standing
    where
      go : Standing s (log_of fed) → session_reading open_stage s.stage s.used s.buffer ≡ read_log (log_of fed)
      go (is_open e records reads) = rw opened (open_reading s.used s.buffer holds.within (ap read_partial holds.held ∙ reads) ∙ ap read_log holds.held)
      go (is_closed e records reads) = absurd (omega (arith, e, opened))

  -- "Closing gives the sheet that the whole log gives": it answers what judging the log fed so far answers, refusals and their index included, and
  -- leaves the same sheet.
  pub close_is_judging : s.stage ≡ open_stage → {sheet left left' : List ℕ} {answer answer' : Verdict} → Closes s sheet answer left → Judges (read_log (log_of fed)) sheet answer' left' → (answer ≡ answer') × (left ≡ left')
  close_is_judging opened closes judges = judged_determined (log_of fed) (rw (close_reading opened) at closes.judges) judges

  -- "The archive of a log is the sheet that judging it writes and, with a pattern, the excerpt made from it; a session closed on that log gives the
  -- same bytes."
  module _ (closed : s.stage ≡ closed_stage) where
    abbrev reading : Reading
    reading = session_reading closed_stage s.stage s.used s.buffer

    reading_is : reading ≡ read_log (log_of fed)
    reading_is = go holds.standing
      where
        go : Standing s (log_of fed) → session_reading closed_stage s.stage s.used s.buffer ≡ read_log (log_of fed)
        go (is_open e records reads) = absurd (omega (arith, e, closed))
        go (is_closed e records reads) = rw closed (closed_reading s.used s.buffer holds.within (ap read_log holds.held ∙ reads) ∙ ap read_log holds.held)

    -- the sheet is the one that judging the log writes,
    pub sheet_is_judging : {sheet left left' : List ℕ} {answer answer' : Verdict} → Judges reading sheet answer left → Judges (read_log (log_of fed)) sheet answer' left' → (answer ≡ answer') × (left ≡ left')
    sheet_is_judging writes judges = judged_determined (log_of fed) (rw reading_is at writes) judges

    -- the excerpt the one made from it,
    pub excerpt_is : (out : List ℕ) → (excerpt_answer reading out ≡ excerpt_answer (read_log (log_of fed)) out) × (excerpt_leaves reading out ≡ excerpt_leaves (read_log (log_of fed)) out)
    excerpt_is out = (ap (λ r. excerpt_answer r out) reading_is, ap (λ r. excerpt_leaves r out) reading_is)

    -- so the two are the archive of the log, byte for byte, whatever buffers are lent to either
    pub order_archived : {sheet left archived excerpt : List ℕ} {k : ℕ} → Judges reading sheet (Order k) left → Archive (log_of fed) archived excerpt → (take (sheet_bytes (Order k)) left ≡ archived) × ([] ≡ excerpt)
    order_archived writes archive = archive_one (with_order (rw reading_is at writes)) archive

    pub pending_archived : {sheet left archived excerpt : List ℕ} {number k : ℕ} {records : List Record} → Judges reading sheet (Pattern number k) left
        → read_log (log_of fed) ≡ readable records → has_pending_remove records ≡ true → Archive (log_of fed) archived excerpt
        → (take (sheet_bytes (Pattern number k)) left ≡ archived) × ([] ≡ excerpt)
    pending_archived writes reads pending archive = archive_one (sheet_alone (rw reading_is at writes) reads pending) archive

    pub pattern_archived : {sheet left archived excerpt : List ℕ} {number k n : ℕ} → Judges reading sheet (Pattern number k) left → (out : List ℕ) → excerpt_answer reading out ≡ Ok n → Archive (log_of fed) archived excerpt
        → (take (sheet_bytes (Pattern number k)) left ≡ archived) × (take n (excerpt_leaves reading out) ≡ excerpt)
    pattern_archived {n = n} writes out wrote archive =
        let (answer, leaves) = excerpt_is out in
        let (sheets, excerpts) = archive_one (with_pattern (rw reading_is at writes) out (sym answer ∙ wrote)) archive in
        (sheets, ap (take n) leaves ∙ excerpts)

-- "For a log that is readable, or is so but for 10, and buffers long enough, feeding its records and closing answers as judging the log does."
module _ (log buffer : List ℕ) (bytes : Bytes log) (records : List Record) (reads : read_partial log ≡ readable records) (room : length log ≤ length buffer) where
  -- the session behind begin and a feed for each record of the log
  abbrev pub fed : Lent
  fed = after_feeds (begun buffer) (map encode records)

  same_log : encode_log records ≡ log
  same_log = (partial_log log records reads).bytes bytes

  -- what is fed is the log's own bytes behind its header, record by record
  pub feeds_are : log_of (map encode records) ≡ log
  feeds_are = log_of_records records ∙ same_log

  long : header_length + sizes records ≡ length log
  long = sym (log_length records) ∙ ap length same_log

  begins : (begin_answer buffer ≡ Ok header_length) × Holding (begun buffer) [] (drop header_length buffer)
  begins = begun_holds buffer (omega (arith, long))

  taken : (answers_to (begun buffer) (map encode records) ≡ map (λ r. Ok (size_of r)) records) × Holding fed records (drop (sizes records) (drop header_length buffer))
  taken =
      let whole = partial_log log records reads in
      records_taken begins.1 records (whole.writable bytes) whole.regular.few (omega (arith, long, length-drop header_length buffer))

  -- beginning and every feed are accepted, and a feed returns 1 + L
  pub begin_accepted : begin_answer buffer ≡ Ok header_length
  begin_accepted = begins.0

  pub feeds_accepted : answers_to (begun buffer) (map encode records) ≡ map (λ r. Ok (size_of r)) records
  feeds_accepted = taken.0

  -- the session is then open, and what the laws above say of the log fed so far they say of this log
  pub fed_is_open : fed.stage ≡ open_stage
  fed_is_open = taken.1.stage_is

  pub fed_since : Since buffer (map encode records) fed
  fed_since = all_accepted (just_begun (omega (arith, long))) records record_bytes feeds_accepted

  pub feeding_is_judging : {sheet left left' : List ℕ} {answer answer' : Verdict} → Closes fed sheet answer left → Judges (read_log log) sheet answer' left' → (answer ≡ answer') × (left ≡ left')
  feeding_is_judging closes judges = close_is_judging fed_since fed_is_open closes (rw feeds_are judges)
