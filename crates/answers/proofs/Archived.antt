-- Demand 3 in terms of the C calls: what yr_judge and yr_excerpt write for a readable log is its archive, so that the laws of the archive
-- are laws of these calls.
use Prim.Native.Nat.{ℕ, ◌%◌, ◌≤◌}
use native.Mathlib.Omega.{arith}
use mathlib.Core.Path.{◌≡◌, refl, sym, ap, ◌∙◌, subst}
use mathlib.Core.Bool.{true, false}
use mathlib.Core.Logic.{◌↔◌}
use mathlib.Core.List.{List, []}
use lib.ListN.{length, take}
use borrow.Author.Tests.{le-ltb}
use Rattle.std.specs.Prelude.{Result, Ok, Err}
use Rattle.record.specs.declared.refusal.Refused.{Refused}
use Rattle.record.specs.Number.{Bytes}
use Rattle.record.specs.declared.record.Record.{Record}
use Rattle.buffer.specs.Buffer.{lacks_room}
use Rattle.buffer.specs.Output.{writing, refusal_unit, output_answer}
use Rattle.reader.specs.Log.{max_length, readable, read_log, encode_log, has_pending_remove}
use Rattle.history.specs.Object.{Queue}
use Rattle.history.specs.History.{add, Returned}
use Rattle.history.specs.Linearization.{Listed, Linearization}
use Rattle.history.specs.Operations.{history_of}
use Rattle.history.specs.Sheet.{order_verdict, listed_on}
use Rattle.violations.specs.Violations.{Is, Removed}
use Rattle.violations.specs.Verdict.{FirstViolation}
use Rattle.replay.specs.Replay.{replayed}
use Rattle.judge.specs.Judge as Judge
use Rattle.judge.specs.Judge.{sheet_bytes, Judges}
use Rattle.judge.specs.declared.judge.Verdict.{Verdict}
use Rattle.judge.proofs.Laws.{long_enough, accepted_not_refused}
use Rattle.projection.specs.Projection.{values_of, excerpted}
use Rattle.projection.specs.Outcome.{excerpt_answer, excerpt_leaves}
use Rattle.projection.proofs.Laws.{projection_short, projection_fits, excerpt_of_pattern, excerpt_written}
use Rattle.archive.specs.Archive.{verdict_byte, Archive}
use Rattle.archive.specs.Trade.{Traded}
use Rattle.archive.proofs.Laws as archive
use Rattle.answers.specs.Answer.{replay_answer, JudgeAnswers, SmallOutput}
use Rattle.answers.specs.Archived.{JudgeWrote, ExcerptWrote}
use Rattle.answers.proofs.Laws.{of_log, JudgeSays, wrote, turned_down, judge_says, excerpt_small}

-- What the answer of yr_judge says: the log was judged, and the sheet is what was written.
judge_wrote : {log sheet : List ℕ} (c : JudgeWrote log sheet)
    → (verdict : Verdict) × Judge.Accepted verdict × Judges (read_log log) c.buffer verdict c.left × (sheet ≡ take (sheet_bytes verdict) c.left)
judge_wrote {log} {sheet} c = go (judge_says (of_log log) c.answers)
  where
    go : JudgeSays (read_log log) c.buffer c.answer c.left
        → (verdict : Verdict) × Judge.Accepted verdict × Judges (read_log log) c.buffer verdict c.left × (sheet ≡ take (sheet_bytes verdict) c.left)
    go (wrote {verdict} accepted j w) = (verdict, accepted, j, c.wrote.bytes_are ∙ ap (λ n. take n c.left) w.low)
    go (turned_down j t same) = absurd (omega (arith, t.some, t.high, c.wrote.accepted))

-- and that of yr_excerpt
excerpt_wrote : {log excerpt : List ℕ} (c : ExcerptWrote log excerpt)
    → (n : ℕ) × (excerpt_answer (read_log log) c.buffer ≡ Ok n) × (excerpt ≡ take n (excerpt_leaves (read_log log) c.buffer))
excerpt_wrote {log} {excerpt} c = go (excerpt_answer (read_log log) c.buffer) refl (excerpt_small (of_log log) c.buffer) c.answers
  where
    go : (given : Result ℕ Refused) → excerpt_answer (read_log log) c.buffer ≡ given → SmallOutput given → c.answer ≡ output_answer given
        → (n : ℕ) × (excerpt_answer (read_log log) c.buffer ≡ Ok n) × (excerpt ≡ take n (excerpt_leaves (read_log log) c.buffer))
    go (Ok n) is small e =
        let all : c.answer % refusal_unit ≡ n = omega (arith, e, small) in
        (n, is, c.wrote.bytes_are ∙ rw (all, c.leaves) refl)
    go (Err r) is small e = absurd (omega (arith, e, small.0, c.wrote.accepted))

-- The sheet that yr_judge writes for a readable log is that of the log's archive,
pub sheet_archived : {log : List ℕ} {records : List Record} → read_log log ≡ readable records → {sheet : List ℕ} → JudgeWrote log sheet
    → (excerpt : List ℕ) × Archive log sheet excerpt
sheet_archived {log} reads judged =
    let (verdict, accepted, j, is) = judge_wrote judged in
    let (excerpt, archive) = archive.judged_archived reads accepted j in
    (excerpt, subst (λ s. Archive log s excerpt) (sym is) archive)

module _ {log : List ℕ} {records : List Record} (reads : read_log log ≡ readable records) {sheet : List ℕ} (judged : JudgeWrote log sheet) where
  -- which with an order has no more,
  pub called_order_archived : verdict_byte sheet ≡ order_verdict → Archive log sheet []
  called_order_archived e = let (excerpt, kept) = sheet_archived reads judged in rw (archive.order_alone kept e) at kept

  -- and with a pattern has what yr_excerpt writes.
  pub called_pattern_archived : (verdict_byte sheet ≡ order_verdict → ⊥) → {excerpt : List ℕ} → ExcerptWrote log excerpt → Archive log sheet excerpt
  called_pattern_archived some called =
      let (verdict, accepted, j, is) = judge_wrote judged in
      let (n, e, bytes) = excerpt_wrote called in
      rw (is, bytes) (archive.excerpt_archived accepted j (λ z. some (ap verdict_byte is ∙ z)) called.buffer e)

  -- "For every readable log the archive holds a legal order exactly when one exists":
  pub judge_order_exactly : (verdict_byte sheet ≡ order_verdict) ↔ ((order : List ℕ) × Linearization Queue (history_of records) order)
  judge_order_exactly = archive.order_exactly reads (sheet_archived reads judged).1

  -- the order is legal, lists an open add exactly if its value was removed, and yr_replay answers 1 to its sheet;
  pub judge_order_legal : verdict_byte sheet ≡ order_verdict → Linearization Queue (history_of records) (listed_on sheet)
  judge_order_legal e = archive.order_is_legal reads (sheet_archived reads judged).1 e

  pub judge_order_pending : verdict_byte sheet ≡ order_verdict → (a : ℕ) → Is (history_of records) add a → (Returned (history_of records) a → ⊥)
      → Listed (listed_on sheet) a ↔ Removed (history_of records) a
  judge_order_pending e = archive.order_lists_pending reads (sheet_archived reads judged).1 e

  pub judge_order_replays : verdict_byte sheet ≡ order_verdict → replay_answer (replayed (read_log log) sheet) ≡ 1
  judge_order_replays e = ap replay_answer (archive.order_replays reads (sheet_archived reads judged).1 e)

  -- "otherwise the pattern with the operations that document 01 picks";
  pub judge_pattern_first : (verdict_byte sheet ≡ order_verdict → ⊥) → FirstViolation Queue (history_of records) (verdict_byte sheet) (listed_on sheet)
  judge_pattern_first some = archive.pattern_is_first reads (sheet_archived reads judged).1 some

  -- With an open remove the archive is the sheet alone,
  pub called_pending_archived : has_pending_remove records ≡ true → Archive log sheet []
  called_pending_archived pending = let (excerpt, kept) = sheet_archived reads judged in rw (archive.archive_alone kept records reads pending) at kept

  -- and yr_excerpt writes none.
  called_returned : {excerpt : List ℕ} → ExcerptWrote log excerpt → has_pending_remove records ≡ false
  called_returned called = let (n, e, bytes) = excerpt_wrote called in excerpt_written log records reads called.buffer e

  -- "the excerpt, judged by itself, gives the same number": what yr_excerpt writes is a readable log, and what yr_judge writes for it has the
  -- same verdict byte.
  module _ (bytes : Bytes log) (some : verdict_byte sheet ≡ order_verdict → ⊥) {excerpt : List ℕ} (called : ExcerptWrote log excerpt) where
    pub called_excerpt_readable : read_log excerpt ≡ readable (excerpted records (listed_on sheet))
    called_excerpt_readable = archive.excerpt_readable reads (called_pattern_archived some called) bytes (called_returned called) some

    pub called_excerpt_same : {sheet' : List ℕ} → JudgeWrote excerpt sheet' → verdict_byte sheet' ≡ verdict_byte sheet
    called_excerpt_same again =
        archive.excerpt_same reads (called_pattern_archived some called) bytes (called_returned called) some (sheet_archived called_excerpt_readable again).1

  abbrev kept : List ℕ
  kept = encode_log (excerpted records (listed_on sheet))

  -- With a pattern and no open remove yr_excerpt is accepted if its buffer is as long as the log.
  pub excerpt_accepted : Bytes log → has_pending_remove records ≡ false → (verdict_byte sheet ≡ order_verdict → ⊥) → (buffer : List ℕ) → length log ≤ length buffer
      → ExcerptWrote log (take (output_answer (excerpt_answer (read_log log) buffer) % refusal_unit) (excerpt_leaves (read_log log) buffer))
  excerpt_accepted bytes returned some buffer long =
      let answer : excerpt_answer (read_log log) buffer ≡ writing kept buffer = (excerpt_of_pattern log records reads returned (judge_pattern_first some) buffer).0 in
      let fits : length kept ≤ length log = projection_fits log records reads bytes (listed_on sheet) (values_of (history_of records) (listed_on sheet)) in
      let short : length kept ≤ max_length = projection_short log records reads (listed_on sheet) (values_of (history_of records) (listed_on sheet)) in
      let room : lacks_room kept buffer ≡ false = le-ltb (length buffer) (length kept) (omega arith) in
      record {
        buffer = buffer;
        left = excerpt_leaves (read_log log) buffer;
        answer = output_answer (excerpt_answer (read_log log) buffer);
        answers = refl;
        leaves = refl;
        wrote = record { accepted = rw (answer, room) (omega arith); bytes_are = refl };
      }

-- "neighbouring calls, or returns, that trade places leave the verdict as it is", and since change 3 a call and a return of one tick: what yr_judge
-- writes for both logs has the same verdict byte.
pub judge_trade_same : {log log' : List ℕ} → Bytes log → Traded log log' → {sheet sheet' : List ℕ} → JudgeWrote log sheet → JudgeWrote log' sheet'
    → verdict_byte sheet ≡ verdict_byte sheet'
judge_trade_same bytes trade before after =
    archive.trade_same bytes trade (sheet_archived trade.reads before).1 (sheet_archived (archive.trade_readable bytes trade) after).1

-- On a readable log yr_judge is accepted if its buffer has 1,368 bytes, YR_SHEET_MAX.
pub judge_accepted : {log : List ℕ} {records : List Record} → read_log log ≡ readable records → {buffer left : List ℕ} {answer : ℕ}
    → 1368 ≤ length buffer → JudgeAnswers (read_log log) buffer answer left → JudgeWrote log (take (answer % refusal_unit) left)
judge_accepted {log} reads {buffer} {left} {answer} long a = go (judge_says (of_log log) a)
  where
    go : JudgeSays (read_log log) buffer answer left → JudgeWrote log (take (answer % refusal_unit) left)
    go (wrote accepted j w) = record {
      buffer = buffer;
      left = left;
      answer = answer;
      answers = a;
      wrote = record { accepted = w.high; bytes_are = refl };
    }
    go (turned_down j t same) = absurd (accepted_not_refused (long_enough log reads long j) refl)
