-- What a C caller takes out of an answer is what was put in: the high 32 bits are 0 if the call was accepted, else the
-- refusal's number; the low 32 bits are what the call returns, or the refusal's record index.
use Prim.Native.Nat.{ℕ, ◌/◌, ◌%◌, ◌≤◌, ◌<◌}
use native.Mathlib.Omega.{arith}
use mathlib.Core.Path.{◌≡◌, refl, sym, ap, ◌∙◌}
use mathlib.Core.Bool.{Bool, true, false}
use mathlib.Core.Logic.{◌⊎◌, inl, inr}
use mathlib.Core.List.{List, [], ◌++◌}
use lib.ListN.{length, drop}
use lib.Dec.{ltb}
use borrow.Author.Tests.{ltb-false}
use Rattle.std.specs.Prelude.{Result, Ok, Err, if◌then◌else◌}
use Rattle.record.specs.Refusal.{number_of, told, refusing}
use Rattle.record.specs.declared.refusal.Refusal.{Refusal}
use Rattle.record.specs.declared.refusal.Refusal.TheVariants.{BufferTooShort, PageTooLong, RemoveUnreturned}
use Rattle.record.specs.declared.refusal.Refused.{Refused}
use Rattle.record.proofs.Refusals.{numbered}
use Rattle.record.specs.Number.{Bytes}
use Rattle.record.specs.declared.record.Record.{Record}
use Rattle.buffer.specs.Buffer.{lacks_room, written}
use Rattle.buffer.specs.Output.{writing, refusal_unit, refusal, output_answer}
use Rattle.reader.specs.Log.{max_length, Reading, readable, refused, unless_fault, read_log, checked, operations, encode_log, has_pending_remove}
use Rattle.reader.specs.Readable.{Within}
use Rattle.reader.proofs.Laws.{within, readable_log, few_operations}
use Rattle.history.specs.Object.{Queue}
use Rattle.history.specs.Operations.{history_of}
use Rattle.timeline.specs.Page.{page_records, page_of, page_answer, page_leaves}
use Rattle.timeline.proofs.Laws.{page_short}
use Rattle.violations.specs.Violations.{NoViolation}
use Rattle.violations.specs.Verdict.{SomeViolation}
use Rattle.violations.proofs.Laws.{first_violation}
use Rattle.replay.specs.Replay.{replayed, ListsLinearization, ListsOther}
use Rattle.replay.proofs.Laws.{yes_is_legal, legal_is_yes, no_is_other, other_is_no, replay_within}
use Rattle.judge.specs.Judge as Judge
use Rattle.judge.specs.Judge.{sheet_bytes, Judges}
use Rattle.judge.specs.declared.judge.Verdict.{Verdict}
use Rattle.judge.specs.declared.judge.Verdict.TheVariants as judge
use Rattle.judge.specs.declared.judge.Verdict.TheVariants.{Order, Pattern}
use Rattle.judge.proofs.Laws.{judged_at_most, judged_refusal, judged_too_short, judged_determined}
use Rattle.projection.specs.Projection.{values_of, narrowed, excerpted}
use Rattle.projection.specs.Outcome.{narrow_answer, narrow_leaves, excerpt_answer_of, excerpt_answer, excerpt_leaves_of, excerpt_leaves}
use Rattle.projection.proofs.Laws.{projection_short}
use Rattle.session.specs.Session.{held_log, stage_refusal, session_reading}
use Rattle.answers.specs.Answer.{check_answer, replay_answer, judge_answer, JudgeAnswers, SmallRefusal, SmallCheck, SmallReplay, SmallVerdict, SmallOutput}

-- an answer that is accepted, with what it returns, and one that is refused
pub record AcceptedWith (answer value : ℕ) : Type 0 where
  pub high : answer / refusal_unit ≡ 0
  pub low : answer % refusal_unit ≡ value

pub record TurnedDown (answer number index : ℕ) : Type 0 where
  pub some : 1 ≤ number
  pub high : answer / refusal_unit ≡ number
  pub low : answer % refusal_unit ≡ index

pub small_accepted : (value : ℕ) → value < refusal_unit → AcceptedWith value value
small_accepted value h = record { high = omega arith; low = omega arith }

pub refusal_turned_down : (r : Refused) → 1 ≤ r.number → r.index < refusal_unit → TurnedDown (refusal r) r.number r.index
refusal_turned_down r n i = record { some = n; high = omega arith; low = omega arith }

-- of a check
pub check_accepted : (log : List ℕ) (records : List Record) → read_log log ≡ readable records → AcceptedWith (check_answer (checked (read_log log))) (operations records)
check_accepted log records e =
    let short : Within (readable records) = rw e at (within log) in
    rw e (small_accepted (operations records) (omega (arith, few_operations records)))

pub check_turned_down : (log : List ℕ) (refusal : Refusal) (index : ℕ) → read_log log ≡ refused refusal index → TurnedDown (check_answer (checked (read_log log))) (number_of refusal) index
check_turned_down log refusal index e =
    let small : Within (refused refusal index) = rw e at (within log) in
    rw e (refusal_turned_down (told refusal index) small.0 (omega (arith, small.2)))

pub check_small : (log : List ℕ) → SmallCheck (checked (read_log log))
check_small log = go (read_log log) (within log)
  where
    go : (reading : Reading) → Within reading → SmallCheck (checked reading)
    go (readable records) few = omega (arith, few, few_operations records)
    go (refused refusal index) small = (small.0, small.2)

-- of a replay
pub replay_yes : (log sheet : List ℕ) → replayed (read_log log) sheet ≡ Ok true → AcceptedWith (replay_answer (replayed (read_log log) sheet)) 1
replay_yes log sheet e = rw e (small_accepted 1 (omega arith))

pub replay_no : (log sheet : List ℕ) → replayed (read_log log) sheet ≡ Ok false → AcceptedWith (replay_answer (replayed (read_log log) sheet)) 0
replay_no log sheet e = rw e (small_accepted 0 (omega arith))

pub replay_turned_down : (log sheet : List ℕ) (r : Refused) → replayed (read_log log) sheet ≡ Err r → TurnedDown (replay_answer (replayed (read_log log) sheet)) r.number r.index
replay_turned_down log sheet r e =
    let (some, few, small) = replay_within log sheet e in
    rw e (refusal_turned_down r some (omega arith))

pub replay_small : (log sheet : List ℕ) → SmallReplay (replayed (read_log log) sheet)
replay_small log sheet = go (replayed (read_log log) sheet) refl
  where
    go : (answer : Result Bool Refused) → replayed (read_log log) sheet ≡ answer → SmallReplay answer
    go (Ok legal) e = tt
    go (Err r) e = let (some, few, small) = replay_within log sheet e in (some, small)

-- The answer is 1 exactly if the log is readable and the sheet lists a legal order of it.
pub one_is_legal : (log sheet : List ℕ) → replay_answer (replayed (read_log log) sheet) ≡ 1 → ListsLinearization log sheet
one_is_legal log sheet e = go (replayed (read_log log) sheet) refl e
  where
    go : (answer : Result Bool Refused) → replayed (read_log log) sheet ≡ answer → replay_answer answer ≡ 1 → ListsLinearization log sheet
    go (Ok true) r e = yes_is_legal log sheet r
    go (Ok false) r e = absurd (omega arith)
    go (Err e') r e = let (some, few, small) = replay_within log sheet r in absurd (omega arith)

pub legal_is_one : (log sheet : List ℕ) → ListsLinearization log sheet → replay_answer (replayed (read_log log) sheet) ≡ 1
legal_is_one log sheet order = rw (legal_is_yes log sheet order) refl

-- and 0 exactly if it is readable and what the sheet lists is none.
pub zero_is_other : (log sheet : List ℕ) → replay_answer (replayed (read_log log) sheet) ≡ 0 → ListsOther log sheet
zero_is_other log sheet e = go (replayed (read_log log) sheet) refl e
  where
    go : (answer : Result Bool Refused) → replayed (read_log log) sheet ≡ answer → replay_answer answer ≡ 0 → ListsOther log sheet
    go (Ok true) r e = absurd (omega arith)
    go (Ok false) r e = no_is_other log sheet r
    go (Err e') r e = let (some, few, small) = replay_within log sheet r in absurd (omega arith)

pub other_is_zero : (log sheet : List ℕ) → ListsOther log sheet → replay_answer (replayed (read_log log) sheet) ≡ 0
other_is_zero log sheet order = rw (other_is_no log sheet order) refl

-- The readings that judging and excerpts go by: that of a log, or of a session, which is that of the log it holds or a refusal by how it stands.
pub data Known : Reading → Type 0 where
  of_log : (log : List ℕ) → Known (read_log log)
  standing : (refusal : Refusal) → Known (refused refusal 0)

pub session_known : (wanted stage used : ℕ) (buffer : List ℕ) → Known (session_reading wanted stage used buffer)
session_known wanted stage used buffer = go (stage_refusal wanted stage used buffer)
  where
    go : (t : Result (Unit {0}) Refusal) → Known (unless_fault t 0 (read_log (held_log used buffer)))
    go (Ok _) = of_log (held_log used buffer)
    go (Err refusal) = standing refusal

-- of what writes a log: begin, feed, narrowing and the excerpt
pub writing_small : (bytes out : List ℕ) → length bytes ≤ max_length → SmallOutput (writing bytes out)
writing_small bytes out short = go (lacks_room bytes out)
  where
    go : (lacks : Bool) → SmallOutput (if lacks then refusing BufferTooShort 0 else Ok (length bytes))
    go true = (omega arith, omega arith)
    go false = short

pub narrow_small : (log values out : List ℕ) → SmallOutput (narrow_answer (read_log log) values out)
narrow_small log values out = go (read_log log) refl (within log)
  where
    go : (reading : Reading) → read_log log ≡ reading → Within reading → SmallOutput (narrow_answer reading values out)
    go (readable records) reads few = writing_small (encode_log (narrowed records values)) out (projection_short log records reads [] values)
    go (refused refusal index) reads few = (few.0, few.2)

pub excerpt_small : {reading : Reading} → Known reading → (out : List ℕ) → SmallOutput (excerpt_answer reading out)
excerpt_small (standing refusal) out = ((numbered refusal).0, omega arith)
excerpt_small (of_log log) out = go (read_log log) refl (within log)
  where
    of_pattern : (records : List Record) → read_log log ≡ readable records
        → (found : SomeViolation Queue (history_of records) ⊎ NoViolation Queue (history_of records)) → SmallOutput (excerpt_answer_of records found out)
    of_pattern records reads (inl (number, listed, first)) = writing_small (encode_log (excerpted records listed)) out (projection_short log records reads listed (values_of (history_of records) listed))
    of_pattern records reads (inr clean) = (omega arith, omega arith)

    unless_pending : (b : Bool) (given : Result ℕ Refused) → SmallOutput given → SmallOutput (if b then refusing RemoveUnreturned 0 else given)
    unless_pending true given small = (omega arith, omega arith)
    unless_pending false given small = small

    go : (reading : Reading) → read_log log ≡ reading → Within reading → SmallOutput (excerpt_answer reading out)
    go (readable records) reads few = unless_pending (has_pending_remove records) _ (of_pattern records reads (first_violation Queue (history_of records)))
    go (refused refusal index) reads few = (few.0, few.2)

-- of what writes a page
pub page_small : (log out : List ℕ) → Bytes log → SmallOutput (page_answer (read_log log) out)
page_small log out bytes = go (read_log log) refl (within log)
  where
    of_readable : (records : List Record) → read_log log ≡ readable records → (long : Bool) → ltb page_records (length records) ≡ long
        → SmallOutput (if long then refusing PageTooLong 0 else writing (page_of records) out)
    of_readable records reads true e = (omega arith, omega arith)
    of_readable records reads false e =
        writing_small (page_of records) out (omega (arith, page_short (readable_log log records reads) bytes (ltb-false page_records (length records) e)))

    go : (reading : Reading) → read_log log ≡ reading → Within reading → SmallOutput (page_answer reading out)
    go (readable records) reads few = of_readable records reads (ltb page_records (length records)) refl
    go (refused refusal index) reads few = (few.0, few.2)

pub written_accepted : (n : ℕ) → SmallOutput (Ok n) → AcceptedWith (output_answer (Ok n)) n
written_accepted n short = small_accepted n (omega (arith, short))

pub refused_turned_down : (r : Refused) → SmallOutput (Err r) → TurnedDown (output_answer (Err r)) r.number r.index
refused_turned_down r small = refusal_turned_down r small.0 (omega (arith, small.1))

-- of judging
refused_verdict_small : {refusal : Refusal} {index : ℕ} {sheet sheet' : List ℕ} {verdict : Verdict} → SmallRefusal (told refusal index)
    → Judges (refused refusal index) sheet verdict sheet' → SmallVerdict verdict
refused_verdict_small small Judge.turned_down = small

pub judges_small : {reading : Reading} → Known reading → {sheet sheet' : List ℕ} (verdict : Verdict) → Judges reading sheet verdict sheet' → SmallVerdict verdict
judges_small (standing refusal) verdict j = refused_verdict_small {refusal = refusal} ((numbered refusal).0, omega arith) j
judges_small (of_log log) (Order k) j = judged_at_most log j Judge.order
judges_small (of_log log) (Pattern number k) j = judged_at_most log j Judge.pattern
judges_small (of_log log) (judge.Refused r) j = judged_refusal log j

-- a refusal leaves the sheet as it was
refused_untouched : (reading : Reading) {sheet sheet' : List ℕ} {verdict : Verdict} {r : Refused} → Judges reading sheet verdict sheet' → verdict ≡ judge.Refused r → sheet' ≡ sheet
refused_untouched (readable records) (Judge.judged j) e = (judged_too_short (rw e at j)).untouched
refused_untouched (refused refusal i) Judge.turned_down e = refl

-- What the number that judging answers says, of a log or of what a session holds: a sheet of so many bytes was written, or the call was refused and
-- the sheet is as it was.
pub data JudgeSays (reading : Reading) (sheet : List ℕ) (answer : ℕ) (sheet' : List ℕ) : Type 0 where
  wrote : {verdict : Verdict} → Judge.Accepted verdict → Judges reading sheet verdict sheet' → AcceptedWith answer (sheet_bytes verdict) → JudgeSays reading sheet answer sheet'
  turned_down : {r : Refused} → Judges reading sheet (judge.Refused r) sheet' → TurnedDown answer r.number r.index → sheet' ≡ sheet → JudgeSays reading sheet answer sheet'

pub judge_says : {reading : Reading} → Known reading → {sheet sheet' : List ℕ} {answer : ℕ} → JudgeAnswers reading sheet answer sheet' → JudgeSays reading sheet answer sheet'
judge_says {reading} known {sheet} {sheet'} {answer} a = go a.verdict a.judges (judges_small known a.verdict a.judges) a.answers
  where
    go : (verdict : Verdict) → Judges reading sheet verdict sheet' → SmallVerdict verdict → answer ≡ judge_answer verdict → JudgeSays reading sheet answer sheet'
    go (Order k) j few e = wrote Judge.order j (rw e (small_accepted _ (omega (arith, few))))
    go (Pattern number k) j few e = wrote Judge.pattern j (rw e (small_accepted _ (omega (arith, few))))
    go (judge.Refused r) j small e = turned_down j (rw e (refusal_turned_down r small.0 (omega (arith, small.1)))) (refused_untouched reading j refl)

-- A refusal leaves the buffer of a log that was to be written as it was,
writing_untouched : (bytes out : List ℕ) {r : Refused} → writing bytes out ≡ Err r → written bytes out ≡ out
writing_untouched bytes out {r} e = go (lacks_room bytes out) e
  where
    go : (lacks : Bool) → (if lacks then refusing BufferTooShort 0 else Ok (length bytes)) ≡ Err r
        → (if lacks then out else bytes ++ drop (length bytes) out) ≡ out
    go true e = refl
    go false e = cc

-- of narrowing
narrow_untouched : (reading : Reading) (values out : List ℕ) {r : Refused} → narrow_answer reading values out ≡ Err r
    → narrow_leaves reading values out ≡ out
narrow_untouched (refused refusal i) values out e = refl
narrow_untouched (readable records) values out e = writing_untouched (encode_log (narrowed records values)) out e

-- and of the excerpt
excerpt_untouched : (reading : Reading) (out : List ℕ) {r : Refused} → excerpt_answer reading out ≡ Err r
    → excerpt_leaves reading out ≡ out
excerpt_untouched (refused refusal i) out e = refl
excerpt_untouched (readable records) out {r} e = by (has_pending_remove records) e
  where
    go : (found : SomeViolation Queue (history_of records) ⊎ NoViolation Queue (history_of records))
        → excerpt_answer_of records found out ≡ Err r → excerpt_leaves_of records found out ≡ out
    go (inl (n, listed, first)) e = writing_untouched (encode_log (excerpted records listed)) out e
    go (inr clean) e = refl

    found : SomeViolation Queue (history_of records) ⊎ NoViolation Queue (history_of records)
    found = first_violation Queue (history_of records)

    by : (b : Bool) → (if b then refusing RemoveUnreturned 0 else excerpt_answer_of records found out) ≡ Err r
        → (if b then out else excerpt_leaves_of records found out) ≡ out
    by true e = refl
    by false e = go found e

-- and of the page
page_untouched : (reading : Reading) (out : List ℕ) {r : Refused} → page_answer reading out ≡ Err r → page_leaves reading out ≡ out
page_untouched (refused refusal i) out e = refl
page_untouched (readable records) out {r} e = go (ltb page_records (length records)) e
  where
    go : (long : Bool) → (if long then refusing PageTooLong 0 else writing (page_of records) out) ≡ Err r
        → (if long then out else written (page_of records) out) ≡ out
    go true e = refl
    go false e = writing_untouched (page_of records) out e

-- What the number of a call that writes a log or a page says: so many bytes were written, or the call was refused and the buffer is as it was.
pub data OutputSays (given : Result ℕ Refused) (out : List ℕ) (answer : ℕ) (out' : List ℕ) : Type 0 where
  writes : {n : ℕ} → given ≡ Ok n → AcceptedWith answer n → OutputSays given out answer out'
  refuses : {r : Refused} → given ≡ Err r → TurnedDown answer r.number r.index → out' ≡ out → OutputSays given out answer out'

output_says : (given : Result ℕ Refused) {out out' : List ℕ} {answer : ℕ} → SmallOutput given → answer ≡ output_answer given
    → ((r : Refused) → given ≡ Err r → out' ≡ out) → OutputSays given out answer out'
output_says (Ok n) small e same = writes {n = n} refl (rw e (written_accepted n small))
output_says (Err r) small e same = refuses {r = r} refl (rw e (refused_turned_down r small)) (same r refl)

-- of narrowing
pub narrow_says : (log values out : List ℕ) {answer : ℕ} {out' : List ℕ} → answer ≡ output_answer (narrow_answer (read_log log) values out)
    → out' ≡ narrow_leaves (read_log log) values out → OutputSays (narrow_answer (read_log log) values out) out answer out'
narrow_says log values out e leaves = output_says _ (narrow_small log values out) e (λ r is. leaves ∙ narrow_untouched (read_log log) values out is)

-- of the page
pub page_says : (log out : List ℕ) → Bytes log → {answer : ℕ} {out' : List ℕ} → answer ≡ output_answer (page_answer (read_log log) out)
    → out' ≡ page_leaves (read_log log) out → OutputSays (page_answer (read_log log) out) out answer out'
page_says log out bytes e leaves = output_says _ (page_small log out bytes) e (λ r is. leaves ∙ page_untouched (read_log log) out is)

-- of the excerpt of a log, or of what a session holds
pub excerpt_says : {reading : Reading} → Known reading → (out : List ℕ) {answer : ℕ} {out' : List ℕ} → answer ≡ output_answer (excerpt_answer reading out)
    → out' ≡ excerpt_leaves reading out → OutputSays (excerpt_answer reading out) out answer out'
excerpt_says {reading} known out e leaves = output_says _ (excerpt_small known out) e (λ r is. leaves ∙ excerpt_untouched reading out is)

-- Judging a log, or what a session holds, into one sheet has one answer and leaves one sheet.
pub judges_one : {reading : Reading} → Known reading → {sheet left left' : List ℕ} {answer answer' : Verdict} → Judges reading sheet answer left → Judges reading sheet answer' left' → (answer ≡ answer') × (left ≡ left')
judges_one (of_log log) j k = judged_determined log j k
judges_one (standing refusal) j k = go j k
  where
    go : {refusal : Refusal} {sheet left left' : List ℕ} {answer answer' : Verdict} → Judges (refused refusal 0) sheet answer left → Judges (refused refusal 0) sheet answer' left' → (answer ≡ answer') × (left ≡ left')
    go Judge.turned_down Judge.turned_down = (refl, refl)

pub answers_one : {reading : Reading} → Known reading → {sheet left left' : List ℕ} {answer answer' : ℕ} → JudgeAnswers reading sheet answer left → JudgeAnswers reading sheet answer' left' → (answer ≡ answer') × (left ≡ left')
answers_one known a b = let (same, left) = judges_one known a.judges b.judges in (a.answers ∙ ap judge_answer same ∙ sym b.answers, left)
