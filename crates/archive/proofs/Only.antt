-- A log has only one archive: the verdict is determined, an order is the one that the search finds, and the excerpt goes by the verdict.
use Prim.Native.Nat.{ℕ}
use native.Mathlib.Omega.{arith}
use native.Mathlib.Decide.{ℕ_discrete}
use mathlib.Core.Path.{◌≡◌, refl, sym, ap, ◌∙◌, subst}
use mathlib.Core.Bool.{Bool, true, false}
use mathlib.Core.Logic.{◌⊎◌, inl, inr}
use mathlib.Core.List.{List, []}
use lib.ListN.{take}
use Rattle.std.specs.Prelude.{Result, Ok, if◌then◌else◌}
use Rattle.record.specs.Refusal.{refusing}
use Rattle.record.specs.declared.refusal.Refusal.TheVariants.{RemoveUnreturned}
use Rattle.record.specs.declared.refusal.Refused.{Refused}
use Rattle.record.specs.declared.record.Record.{Record}
use Rattle.reader.specs.Log.{readable, read_log, encode_log, has_pending_remove}
use Rattle.reader.proofs.Laws.{readable_log}
use Rattle.history.specs.Object.{Queue}
use Rattle.history.specs.History.{Lawful, Lone}
use Rattle.history.specs.Operations.{history_of}
use Rattle.history.specs.Sheet.{order_verdict, sheet_of, listed_on}
use Rattle.history.proofs.Laws.{history_lawful, history_lone, history_returned}
use Rattle.violations.specs.Violations.{NoViolation}
use Rattle.violations.specs.Verdict.{FirstViolation, SomeViolation, CompleteVerdict}
use Rattle.violations.proofs.Laws.{first_violation, occurs_numbered, verdict_one, listed_one, complete_is_verdict, pattern_of}
use Rattle.judge.specs.Judge.{sheet_bytes, Accepted, order, pattern, Judges}
use Rattle.judge.specs.declared.judge.Verdict.{Verdict}
use Rattle.projection.specs.Projection.{excerpted}
use Rattle.projection.specs.Outcome.{excerpt_answer_of, excerpt_answer, excerpt_leaves}
use Rattle.archive.specs.Archive.{verdict_byte, Archive, with_order, with_pattern, sheet_alone}
use Rattle.archive.proofs.Contents.{Contents, judged_contents, order_byte, archive_contents, archive_excerpt, archive_alone}
use Rattle.archive.proofs.Existing.{archive_exists}

-- the history that a sheet is about is lawful
contents_lawful : {log sheet : List ℕ} (c : Contents log sheet) → Lawful (history_of c.records)
contents_lawful {log} c = history_lawful (readable_log log c.records c.reads)

-- and at most one remove is pending in it
contents_lone : {log sheet : List ℕ} (c : Contents log sheet) → Lone (history_of c.records)
contents_lone {log} c = history_lone (readable_log log c.records c.reads)

-- one log has one sheet
contents_one : {log sheet sheet' : List ℕ} → Contents log sheet → Contents log sheet' → sheet ≡ sheet'
contents_one {sheet = sheet} {sheet' = sheet'} c d =
    let read : readable d.records ≡ readable c.records = sym d.reads ∙ c.reads in
    let same : d.records ≡ c.records = cc in
    let byte : verdict_byte sheet ≡ verdict_byte sheet' = (verdict_one (contents_lawful c) c.verdict (rw same at d.verdict)).0 in
    let lists : listed_on sheet ≡ listed_on sheet' =
    listed_one (contents_lawful c) (contents_lone c) c.verdict c.chosen (rw same at d.verdict) (rw same at d.chosen) in
    c.whole ∙ ap (λ b. sheet_of b (listed_on sheet)) byte ∙ ap (sheet_of (verdict_byte sheet')) lists ∙ sym d.whole

-- with an order no excerpt is written
unwritten : {log sheet : List ℕ} (c : Contents log sheet) → verdict_byte sheet ≡ order_verdict → (out : List ℕ) {n : ℕ} → excerpt_answer (read_log log) out ≡ Ok n → ⊥
unwritten {log} c e out {n} wrote = by (has_pending_remove c.records) refl (rw c.reads at wrote)
  where
    go : has_pending_remove c.records ≡ false → (found : SomeViolation Queue (history_of c.records) ⊎ NoViolation Queue (history_of c.records))
        → excerpt_answer_of c.records found out ≡ Ok n → ⊥
    go returned (inl (number, listed, first)) w =
        let all = history_returned (readable_log log c.records c.reads) returned in
        let same = (verdict_one (contents_lawful c) c.verdict (complete_is_verdict Queue all (CompleteVerdict.violation first))).0 in
        omega (arith, same, e, occurs_numbered first.occurs)
    go returned (inr clean) w = cc

    by : (b : Bool) → has_pending_remove c.records ≡ b
        → (if b then refusing RemoveUnreturned 0 else excerpt_answer_of c.records (first_violation Queue (history_of c.records)) out) ≡ Ok n → ⊥
    by true pending w = cc
    by false returned w = go returned (first_violation Queue (history_of c.records)) w

pub order_alone : {log sheet excerpt : List ℕ} → Archive log sheet excerpt → verdict_byte sheet ≡ order_verdict → excerpt ≡ []
order_alone (with_order j) e = refl
order_alone {log} (with_pattern j out wrote) e = absurd (unwritten (judged_contents log pattern j) e out wrote)
order_alone (sheet_alone j reads pending) e = refl

pub archive_one : {log sheet sheet' excerpt excerpt' : List ℕ} → Archive log sheet excerpt → Archive log sheet' excerpt' → (sheet ≡ sheet') × (excerpt ≡ excerpt')
archive_one {log} {sheet} {sheet'} {excerpt} {excerpt'} x y = (same, go (ℕ_discrete (verdict_byte sheet) order_verdict))
  where
    c : Contents log sheet
    c = archive_contents x

    same : sheet ≡ sheet'
    same = contents_one c (archive_contents y)

    with_first : (records : List Record) → read_log log ≡ readable records → FirstViolation Queue (history_of records) (verdict_byte sheet) (listed_on sheet)
        → (verdict_byte sheet ≡ order_verdict → ⊥) → (b : Bool) → has_pending_remove records ≡ b → excerpt ≡ excerpt'
    with_first records reads first n true pending = archive_alone x records reads pending ∙ sym (archive_alone y records reads pending)
    with_first records reads first n false returned =
        archive_excerpt x records reads returned first n ∙ ap (λ s. encode_log (excerpted records (listed_on s))) same
        ∙ sym (archive_excerpt y records reads returned (rw same at first) (λ e. n (ap verdict_byte same ∙ e)))

    go : Dec (verdict_byte sheet ≡ order_verdict) → excerpt ≡ excerpt'
    go (yes e) = order_alone x e ∙ sym (order_alone y (ap verdict_byte (sym same) ∙ e))
    go (no n) = with_first c.records c.reads (pattern_of c.verdict n) n (has_pending_remove c.records) refl

-- Whatever sheet judging wrote for a readable log, it is that of its archive;
pub judged_archived : {log : List ℕ} {records : List Record} → read_log log ≡ readable records → {buffer left : List ℕ} {answer : Verdict}
    → Accepted answer → Judges (read_log log) buffer answer left → (excerpt : List ℕ) × Archive log (take (sheet_bytes answer) left) excerpt
judged_archived {log} {records} reads {left = left} {answer} accepted j =
    let (sheet, excerpt, archive) = archive_exists log records reads in
    let same : sheet ≡ take (sheet_bytes answer) left = contents_one (archive_contents archive) (judged_contents log accepted j) in
    (excerpt, subst (λ s. Archive log s excerpt) same archive)

-- and with a pattern whatever excerpt was written belongs to it.
pub excerpt_archived : {log : List ℕ} {buffer left : List ℕ} {answer : Verdict} → Accepted answer → Judges (read_log log) buffer answer left
    → (verdict_byte (take (sheet_bytes answer) left) ≡ order_verdict → ⊥) → (out : List ℕ) {n : ℕ} → excerpt_answer (read_log log) out ≡ Ok n
    → Archive log (take (sheet_bytes answer) left) (take n (excerpt_leaves (read_log log) out))
excerpt_archived {log} order j some out e = absurd (some (order_byte log j))
excerpt_archived pattern j some out e = with_pattern j out e
