-- What the session calls say to a C caller, and that a session gives what the log gives: the laws of the crate session, over the contracts of the calls.
use Prim.Native.Nat.{ℕ, ◌+◌, ◌≤◌}
use native.Mathlib.Omega.{arith}
use mathlib.Core.Path.{◌≡◌, refl, sym, ap, ◌∙◌}
use mathlib.Core.Bool.{Bool, true, false}
use mathlib.Core.List.{List, [], ◌∷◌, ◌++◌, map}
use lib.ListN.{length, drop}
use Rattle.std.specs.Prelude.{Result, Ok, Err, if◌then◌else◌}
use Rattle.record.specs.Refusal.{number_of, told, refusing}
use Rattle.record.specs.declared.refusal.Refusal.TheVariants.{BufferTooShort}
use Rattle.record.specs.declared.refusal.Refused.{Refused}
use Rattle.record.specs.Record.{encode, size_of}
use Rattle.record.specs.Number.{Bytes}
use Rattle.record.specs.declared.record.Record.{Record}
use Rattle.buffer.specs.Buffer.{lacks_room, put}
use Rattle.buffer.specs.Output.{output_answer}
use Rattle.reader.specs.Log.{header_length, count_field, with_count, readable, read_partial, read_log}
use Rattle.judge.specs.Judge as Judge
use Rattle.judge.specs.Judge.{sheet_bytes, Judges}
use Rattle.judge.specs.declared.judge.Verdict.{Verdict}
use Rattle.judge.specs.declared.judge.Verdict.TheVariants as judge
use Rattle.projection.specs.Outcome.{excerpt_answer, excerpt_leaves}
use Rattle.session.specs.Session.{open_stage, closed_stage, session_reading, empty_log, feed_answer, fed_buffer, stage_begun, used_begun, used_fed, stage_closed}
use Rattle.session.specs.Course.{Lent, begun, answer_to, after_feed, after_close, if_accepted, Closes, Since, just_begun, then_fed, then_closed, after_feeds, answers_to, log_of}
use Rattle.session.proofs.Feeding.{begun_holds}
use Rattle.session.proofs.Bounds.{accepted_length, AnswerWithin, feed_within}
use Rattle.session.proofs.Laws.{feeds_are, begin_accepted, feeds_accepted, fed_since, feeding_is_judging, sheet_is_judging, excerpt_is}
use Rattle.answers.specs.Answer.{judge_answer, JudgeAnswers, SmallOutput}
use Rattle.answers.specs.Session.{BeginAnswers, FeedAnswers, CloseAnswers, SheetAnswers, ExcerptAnswers, FeedsAnswer, none, more}
use Rattle.answers.proofs.Laws.{AcceptedWith, TurnedDown, small_accepted, refusal_turned_down, session_known, judges_one, answers_one, JudgeSays, wrote, turned_down, judge_says, written_accepted, refused_turned_down}

-- What the number that begin answers says: three bytes were written and the session is open, or all is as it was.
pub data BeginSays (stage used : ℕ) (buffer : List ℕ) (stage' used' : ℕ) (buffer' : List ℕ) (answer : ℕ) : Type 0 where
  begins : AcceptedWith answer header_length → stage' ≡ open_stage → used' ≡ header_length → buffer' ≡ empty_log ++ drop header_length buffer → BeginSays stage used buffer stage' used' buffer' answer
  refuses : TurnedDown answer (number_of BufferTooShort) 0 → stage' ≡ stage → used' ≡ used → buffer' ≡ buffer → BeginSays stage used buffer stage' used' buffer' answer

pub begin_says : {stage used stage' used' answer : ℕ} {buffer buffer' : List ℕ} → BeginAnswers stage used buffer stage' used' buffer' answer → BeginSays stage used buffer stage' used' buffer' answer
begin_says {stage} {used} {stage'} {used'} {answer} {buffer} {buffer'} a = go (lacks_room empty_log buffer) a.answers a.stage_is a.used_is a.leaves
  where
    go : (lacks : Bool) → answer ≡ output_answer (if lacks then refusing BufferTooShort 0 else Ok 3) → stage' ≡ stage_begun stage (if lacks then refusing BufferTooShort 0 else Ok 3)
        → used' ≡ used_begun used (if lacks then refusing BufferTooShort 0 else Ok 3) → buffer' ≡ (if lacks then buffer else empty_log ++ drop (length empty_log) buffer)
        → BeginSays stage used buffer stage' used' buffer' answer
    go true e s u b = refuses (rw e (refusal_turned_down (told BufferTooShort 0) (omega arith) (omega arith))) s u b
    go false e s u b = begins (rw e (small_accepted 3 (omega arith))) s u b

-- a feed writes at most the bytes of a record
pub feed_small : (stage used : ℕ) (buffer bytes : List ℕ) → SmallOutput (feed_answer stage used buffer bytes)
feed_small stage used buffer bytes = go (feed_answer stage used buffer bytes) (feed_within stage used buffer bytes)
  where
    go : (given : Result ℕ Refused) → AnswerWithin used given → SmallOutput given
    go (Ok n) small = omega (arith, small.0)
    go (Err r) small = small

-- What the number that feed answers says: the record was put behind the used bytes and is counted, or the feed was refused, and all is as it was.
pub data FeedSays (stage used : ℕ) (buffer bytes : List ℕ) (stage' used' : ℕ) (buffer' : List ℕ) (answer : ℕ) : Type 0 where
  takes : feed_answer stage used buffer bytes ≡ Ok (length bytes) → AcceptedWith answer (length bytes) → stage' ≡ stage → used' ≡ used + length bytes
      → buffer' ≡ put used bytes (with_count (count_field buffer + 1) buffer) → FeedSays stage used buffer bytes stage' used' buffer' answer
  refuses : {r : Refused} → feed_answer stage used buffer bytes ≡ Err r → TurnedDown answer r.number r.index → stage' ≡ stage → used' ≡ used → buffer' ≡ buffer
      → FeedSays stage used buffer bytes stage' used' buffer' answer

pub feed_says : {stage used stage' used' answer : ℕ} {buffer bytes buffer' : List ℕ} → FeedAnswers stage used buffer bytes stage' used' buffer' answer → FeedSays stage used buffer bytes stage' used' buffer' answer
feed_says {stage} {used} {stage'} {used'} {answer} {buffer} {bytes} {buffer'} a = go (feed_answer stage used buffer bytes) refl (feed_small stage used buffer bytes) a.answers a.used_is a.leaves
  where
    go : (given : Result ℕ Refused) → feed_answer stage used buffer bytes ≡ given → SmallOutput given → answer ≡ output_answer given → used' ≡ used_fed used given → buffer' ≡ fed_buffer given used buffer bytes
        → FeedSays stage used buffer bytes stage' used' buffer' answer
    go (Ok n) is small e u b =
        let all : n ≡ length bytes = accepted_length stage used buffer bytes is in
        takes (is ∙ ap Ok all) (rw (e, ← all) (written_accepted n small)) a.stage_is (u ∙ ap (λ n. used + n) all) b
    go (Err r) is small e u b = refuses {r = r} is (rw e (refused_turned_down r small)) a.stage_is u b

-- What the number that close answers says: the sheet was written and the session is closed, or all is as it was.
pub data CloseSays (stage used : ℕ) (buffer sheet : List ℕ) (stage' used' : ℕ) (sheet' : List ℕ) (answer : ℕ) : Type 0 where
  closes : {verdict : Verdict} → Judge.Accepted verdict → Judges (session_reading open_stage stage used buffer) sheet verdict sheet' → AcceptedWith answer (sheet_bytes verdict) → stage' ≡ closed_stage → used' ≡ used
      → CloseSays stage used buffer sheet stage' used' sheet' answer
  refuses : {r : Refused} → Judges (session_reading open_stage stage used buffer) sheet (judge.Refused r) sheet' → TurnedDown answer r.number r.index → stage' ≡ stage → used' ≡ used → sheet' ≡ sheet
      → CloseSays stage used buffer sheet stage' used' sheet' answer

pub close_says : {stage used stage' used' answer : ℕ} {buffer sheet sheet' : List ℕ} → CloseAnswers stage used buffer sheet stage' used' sheet' answer → CloseSays stage used buffer sheet stage' used' sheet' answer
close_says {stage} {used} {stage'} {used'} {answer} {buffer} {sheet} {sheet'} a = go (judge_says (session_known open_stage stage used buffer) a.judged)
  where
    -- the verdict is the one that the stage goes by
    stage_by : {verdict : Verdict} → Judges (session_reading open_stage stage used buffer) sheet verdict sheet' → stage' ≡ stage_closed stage verdict
    stage_by j = a.stage_is ∙ ap (stage_closed stage) (judges_one (session_known open_stage stage used buffer) a.judged.judges j).0

    closed : {verdict : Verdict} → Judge.Accepted verdict → stage_closed stage verdict ≡ closed_stage
    closed Judge.order = refl
    closed Judge.pattern = refl

    go : JudgeSays (session_reading open_stage stage used buffer) sheet answer sheet' → CloseSays stage used buffer sheet stage' used' sheet' answer
    go (wrote accepted j e) = closes accepted j e (stage_by j ∙ closed accepted) a.used_is
    go (turned_down j e same) = refuses j e (stage_by j) a.used_is same

-- "For each entry the result, the session and every lent byte follow from the input, refusals too": begin, feed and excerpt are equations; closing and
-- the sheet have one outcome.
pub close_one : {stage used stage' used' stage'' used'' answer answer' : ℕ} {buffer sheet left left' : List ℕ} → CloseAnswers stage used buffer sheet stage' used' left answer → CloseAnswers stage used buffer sheet stage'' used'' left' answer'
    → (answer ≡ answer') × (stage' ≡ stage'') × (used' ≡ used'') × (left ≡ left')
close_one {stage} {used} {buffer = buffer} a b =
    let known = session_known open_stage stage used buffer in
    let (answers, sheets) = answers_one known a.judged b.judged in
    (answers, a.stage_is ∙ ap (stage_closed stage) (judges_one known a.judged.judges b.judged.judges).0 ∙ sym b.stage_is, a.used_is ∙ sym b.used_is, sheets)

pub sheet_one : (stage used : ℕ) (buffer : List ℕ) {answer answer' : ℕ} {sheet left left' : List ℕ} → SheetAnswers stage used buffer sheet answer left → SheetAnswers stage used buffer sheet answer' left' → (answer ≡ answer') × (left ≡ left')
sheet_one stage used buffer a b = answers_one (session_known closed_stage stage used buffer) a b

-- calls of feed are feeds, one after the other
abbrev lent : ℕ → ℕ → List ℕ → Lent
lent stage used buffer = record { stage = stage; used = used; buffer = buffer }

-- Whatever calls of begin, feed and close a session goes through, in any order, the laws of the crate session hold of it: each call is a step of `Since`.
pub begin_since : {stage used stage' used' answer : ℕ} {buffer buffer' : List ℕ} → header_length ≤ length buffer → BeginAnswers stage used buffer stage' used' buffer' answer → Since buffer [] (lent stage' used' buffer')
begin_since {stage} {used} {stage'} {used'} {buffer = buffer} {buffer'} room a =
    let accepted = (begun_holds buffer room).0 in
    let same : lent stage' used' buffer' ≡ begun buffer = cc (a.stage_is ∙ ap (stage_begun stage) accepted, a.used_is ∙ ap (used_begun used) accepted, a.leaves) in
    rw same (just_begun room)

pub feed_since : {begun-in : List ℕ} {fed : List (List ℕ)} {stage used stage' used' answer : ℕ} {buffer bytes buffer' : List ℕ} → Since begun-in fed (lent stage used buffer) → Bytes bytes
    → FeedAnswers stage used buffer bytes stage' used' buffer' answer → Since begun-in (fed ++ if_accepted (feed_answer stage used buffer bytes) bytes) (lent stage' used' buffer')
feed_since {stage = stage} {used} {stage'} {used'} {buffer = buffer} {bytes} {buffer'} since b a =
    let same : lent stage' used' buffer' ≡ after_feed (lent stage used buffer) bytes = cc (a.stage_is, a.used_is, a.leaves) in
    rw same (then_fed since bytes b)

pub close_since : {begun-in : List ℕ} {fed : List (List ℕ)} {stage used stage' used' answer : ℕ} {buffer sheet sheet' : List ℕ} → Since begun-in fed (lent stage used buffer)
    → CloseAnswers stage used buffer sheet stage' used' sheet' answer → Since begun-in fed (lent stage' used' buffer)
close_since {stage = stage} {used} {stage'} {used'} {buffer = buffer} since a =
    let same : lent stage' used' buffer ≡ after_close (lent stage used buffer) a.judged.verdict = cc (a.stage_is, a.used_is) in
    rw same (then_closed since a.judged.verdict (record { judges = a.judged.judges }))

feeds_follow : {stage used stage' used' : ℕ} {buffer buffer' answers : List ℕ} {feeds : List (List ℕ)} → FeedsAnswer stage used buffer feeds answers stage' used' buffer'
    → (lent stage' used' buffer' ≡ after_feeds (lent stage used buffer) feeds) × (answers ≡ map output_answer (answers_to (lent stage used buffer) feeds))
unfolding after_feeds answers_to
feeds_follow none = (refl, refl)
feeds_follow (more {stage} {used} {stage'} {used'} {buffer = buffer} {buffer'} {bytes = bytes} {answers = others} {feeds = feeds} a rest) =
    let first : lent stage' used' buffer' ≡ after_feed (lent stage used buffer) bytes = cc (a.stage_is, a.used_is, a.leaves) in
    let (left, answers) = feeds_follow rest in (
      left ∙ ap (λ s. after_feeds s feeds) first,
      ap (λ x. x ∷ others) a.answers ∙ ap (λ xs. output_answer (answer_to (lent stage used buffer) bytes) ∷ xs) (answers ∙ ap (λ s. map output_answer (answers_to s feeds)) first),
    )

-- the answers of accepted feeds are the sizes of the records
sizes_answered : (records : List Record) → map output_answer (map (λ r. Ok (size_of r)) records) ≡ map size_of records
sizes_answered [] = refl
sizes_answered (r ∷ records) = ap (λ xs. size_of r ∷ xs) (sizes_answered records)

-- "For a log that is readable, or is so but for 10, and buffers long enough, feeding its records and closing answers as judging the log does": begin
-- returns 3, each feed 1 + L, and close the number that judging the log returns, a refusal and its index included, with the same bytes left.
module _ (log : List ℕ) (bytes : Bytes log) (records : List Record) (reads : read_partial log ≡ readable records) {buffer : List ℕ} (room : length log ≤ length buffer)
    {stage used stage₀ used₀ began : ℕ} {buffer₀ : List ℕ} (begin : BeginAnswers stage used buffer stage₀ used₀ buffer₀ began) where
  begins_as : lent stage₀ used₀ buffer₀ ≡ begun buffer
  begins_as =
      let accepted = begin_accepted log buffer bytes records reads room in
      cc (begin.stage_is ∙ ap (stage_begun stage) accepted, begin.used_is ∙ ap (used_begun used) accepted, begin.leaves)

  pub begin_returns : began ≡ header_length
  begin_returns = begin.answers ∙ ap output_answer (begin_accepted log buffer bytes records reads room)

  module _ {stage₁ used₁ : ℕ} {buffer₁ answers : List ℕ} (feeds : FeedsAnswer stage₀ used₀ buffer₀ (map encode records) answers stage₁ used₁ buffer₁) where
    fed_as : lent stage₁ used₁ buffer₁ ≡ after_feeds (begun buffer) (map encode records)
    fed_as = (feeds_follow feeds).0 ∙ ap (λ s. after_feeds s (map encode records)) begins_as

    pub feeds_return : answers ≡ map size_of records
    feeds_return = (feeds_follow feeds).1 ∙ ap (λ s. map output_answer (answers_to s (map encode records))) begins_as ∙ ap (map output_answer) (feeds_accepted log buffer bytes records reads room) ∙ sizes_answered records

    module _ {sheet left : List ℕ} {stage₂ used₂ answer : ℕ} (close : CloseAnswers stage₁ used₁ buffer₁ sheet stage₂ used₂ left answer) where
      closes_as : Closes (after_feeds (begun buffer) (map encode records)) sheet close.judged.verdict left
      closes_as = rw (← fed_as) (record { judges = close.judged.judges })

      pub close_returns : {answer' : ℕ} {left' : List ℕ} → JudgeAnswers (read_log log) sheet answer' left' → (answer ≡ answer') × (left ≡ left')
      close_returns judged =
          let (same, sheets) = feeding_is_judging log buffer bytes records reads room closes_as judged.judges in
          (close.judged.answers ∙ ap judge_answer same ∙ sym judged.answers, sheets)

      -- "a session closed on that log gives the same bytes": the sheet and the excerpt of the session, where it was closed, are those of the log
      module _ (closed : stage₂ ≡ closed_stage) where
        closed_as : lent stage₂ used₂ buffer₁ ≡ after_close (after_feeds (begun buffer) (map encode records)) close.judged.verdict
        closed_as = rw (← fed_as) (cc (close.stage_is, close.used_is))

        since : Since buffer (map encode records) (lent stage₂ used₂ buffer₁)
        since = rw closed_as (then_closed (fed_since log buffer bytes records reads room) close.judged.verdict closes_as)

        pub sheet_returns : {sheet' left' left'' : List ℕ} {answer' answer'' : ℕ} → SheetAnswers stage₂ used₂ buffer₁ sheet' answer' left' → JudgeAnswers (read_log log) sheet' answer'' left'' → (answer' ≡ answer'') × (left' ≡ left'')
        sheet_returns {sheet'} {left'' = left''} again judged =
            let judges : Judges (read_log (log_of (map encode records))) sheet' judged.verdict left'' = rw (feeds_are log buffer bytes records reads room) judged.judges in
            let (same, sheets) = sheet_is_judging since closed again.judges judges in
            (again.answers ∙ ap judge_answer same ∙ sym judged.answers, sheets)

        pub excerpt_returns : {out out' : List ℕ} {answer' : ℕ} → ExcerptAnswers stage₂ used₂ buffer₁ out answer' out' → (answer' ≡ output_answer (excerpt_answer (read_log log) out)) × (out' ≡ excerpt_leaves (read_log log) out)
        excerpt_returns {out} excerpt =
            let (answers, leaves) = excerpt_is since closed out in
            let same = feeds_are log buffer bytes records reads room in
            (excerpt.answers ∙ ap output_answer (answers ∙ ap (λ l. excerpt_answer (read_log l) out) same), excerpt.leaves ∙ leaves ∙ ap (λ l. excerpt_leaves (read_log l) out) same)
