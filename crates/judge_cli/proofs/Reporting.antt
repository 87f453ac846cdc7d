-- From the judge's answer and sheet to the report.
use Prim.Native.Nat.{ℕ, suc, ◌+◌, ◌*◌, ◌≤◌, ◌<◌}
use native.Mathlib.Omega.{arith}
use native.Mathlib.Decide.{ℕ_discrete}
use mathlib.Core.Path.{◌≡◌, refl, sym, ap, ◌∙◌}
use mathlib.Core.Bool.{false}
use mathlib.Core.List.{List, [], ◌∷◌, ◌++◌, map}
use lib.ListN.{length, get_or, drop, length-append}
use lib.Seq.{drop-drop}
use lib.Dec.{ltb}
use borrow.Author.Tests.{le-ltb, eq-eqb, ne_eqb}
use Rattle.std.specs.Prelude.{Option, Some, None}
use Rattle.record.specs.Refusal.{number_of, told}
use Rattle.record.specs.declared.refusal.Refusal.{Refusal}
use Rattle.record.specs.declared.refusal.Refused.{Refused}
use Rattle.record.specs.Number.{bytes_of}
use Rattle.record.specs.declared.record.Record.{Record}
use Rattle.record.proofs.Numbers.{number_there}
use Rattle.text.specs.Text.{decimal, spaced, Puts}
use Rattle.text.proofs.Decimals.{decimal_few}
use Rattle.text.proofs.Putting.{starts_with, keeps_behind}
use Rattle.reader.specs.Log.{max_records, Reading, readable, refused, read_log, operations}
use Rattle.reader.specs.Readable.{Within}
use Rattle.reader.proofs.Laws.{readable_log, within, few_operations}
use Rattle.history.specs.Operations.{history_of}
use Rattle.history.specs.Sheet.{sheet_header, order_verdict, number_bytes, sheet_of, numbers_from}
use Rattle.history.proofs.Sheets.{sheet_length}
use Rattle.violations.proofs.Laws.{verdict_known, verdict_small}
use Rattle.judge.proofs.Laws.{verdict_at_most}
use Rattle.patterns.specs.Pattern.{number_of as number_by}
use Rattle.patterns.specs.declared.pattern.Pattern as patterns
use Rattle.patterns.proofs.Numbered.{numbered}
use Rattle.judge.specs.Judge.{byte_by, verdict_of, Judgement, Judges, judged, turned_down}
use Rattle.judge.specs.declared.judge.Verdict.{Verdict}
use Rattle.judge.specs.declared.judge.Verdict.TheVariants as judge
use Rattle.judge_cli.specs.Report.{counts_line, order_line, pattern_line, verdict_line, refusal_line, Reports, Reported}
use Rattle.judge_cli.specs.Writing.{sheet_room, report_room, counts_of, answer_line, OnSheet}
use Rattle.judge_cli.proofs.Lines.{counts_length, order_length, pattern_length, refusal_length}

-- The judge's answer and sheet make a report, and there is room for it.
pub record Reportable (reading : Reading) (answer : Verdict) (sheet : List ℕ) : Type 0 where
  pub on_sheet : OnSheet answer sheet
  pub reports : Reports reading (counts_of reading ++ answer_line answer sheet)
  pub fits : length (counts_of reading) + length (answer_line answer sheet) ≤ report_room

-- numbers whose bytes stand on a sheet are read from it
numbers_read : (sheet : List ℕ) (at : ℕ) (listed rest : List ℕ) → ((i : ℕ) → get_or listed i 0 < 65536) → drop at sheet ≡ number_bytes listed ++ rest → numbers_from sheet at (length listed) ≡ listed
unfolding number_bytes numbers_from bytes_of
numbers_read sheet at [] rest small e = refl
numbers_read sheet at (o ∷ listed) rest small e =
    let behind : drop (at + 2) sheet ≡ number_bytes listed ++ rest = sym (drop-drop 2 at sheet) ∙ ap (λ (l : List ℕ). drop 2 l) e in
    rw (number_there sheet at 2 o (number_bytes listed ++ rest) (small 0) e, numbers_read sheet (at + 2) listed rest (λ i. small (suc i)) behind)

listed_read : (sheet : List ℕ) (byte : ℕ) (listed rest : List ℕ) → sheet ≡ sheet_of byte listed ++ rest → ((i : ℕ) → get_or listed i 0 < 65536) → numbers_from sheet sheet_header (length listed) ≡ listed
unfolding bytes_of
listed_read sheet byte listed rest e small = numbers_read sheet sheet_header listed rest small (ap (λ (l : List ℕ). drop sheet_header l) e)

-- how long the lines are
spaced_short : (listed : List ℕ) → ((i : ℕ) → get_or listed i 0 < 10000) → length (spaced (map decimal listed)) ≤ 5 * length listed
unfolding spaced
spaced_short [] small = omega arith
spaced_short (o ∷ listed) small = omega (arith, length-append (decimal o) (spaced (map decimal listed)), decimal_few 3 o (small 0), spaced_short listed (λ i. small (suc i)))

refusal_short : (number index : ℕ) → number < 100 → index < 10000 → length (refusal_line number index) ≤ 16
refusal_short number index l m = omega (arith, refusal_length number index, decimal_few 1 number l, decimal_few 3 index m)

counts_short : (n m : ℕ) → n < 10000 → m < 10000 → length (counts_line n m) ≤ 33
counts_short n m l k = omega (arith, counts_length n m, decimal_few 3 n l, decimal_few 3 m k)

verdict_line_short : (byte : ℕ) (listed : List ℕ) → byte < 10 → ((i : ℕ) → get_or listed i 0 < 10000) → length (verdict_line byte listed) ≤ 10 + 5 * length listed
verdict_line_short byte listed l small = go (ℕ_discrete byte order_verdict)
  where
    go : Dec (byte ≡ order_verdict) → length (verdict_line byte listed) ≤ 10 + 5 * length listed
    go (yes e) = rw (eq-eqb byte order_verdict e) (omega (arith, order_length listed, spaced_short listed small))
    go (no n) = rw (ne_eqb byte order_verdict n) (omega (arith, pattern_length byte listed, decimal_few 0 byte l, spaced_short listed small))

-- The line for a verdict's answer is that of the verdict, once its operations are read off the sheet.
module _ (listed sheet : List ℕ) (are : numbers_from sheet sheet_header (length listed) ≡ listed) where
  answers_verdict : (found : Option patterns.Pattern) → answer_line (verdict_of found (length listed)) sheet ≡ verdict_line (byte_by found) listed
  answers_verdict None = ap order_line are
  answers_verdict (Some p) = rw (ne_eqb (number_by p) order_verdict (λ e. omega (arith, numbered p))) (ap (pattern_line (number_by p)) are)

  verdict_on_sheet : (found : Option patterns.Pattern) → sheet_header + 2 * length listed ≤ length sheet → OnSheet (verdict_of found (length listed)) sheet
  verdict_on_sheet None l = l
  verdict_on_sheet (Some p) l = l

-- a readable log
readable_reports : (log : List ℕ) {records : List Record} {blank sheet : List ℕ} {answer : Verdict} → length blank ≡ sheet_room → read_log log ≡ readable records → Judgement records blank answer sheet → Reportable (readable records) answer sheet
readable_reports log {records} {blank} {sheet} {answer} sized reads j = rw answered (record {
  on_sheet = verdict_on_sheet j.listed sheet are j.found (omega (arith, ap length held, length-append (sheet_of (byte_by j.found) j.listed) (drop (length (sheet_of (byte_by j.found) j.listed)) blank), long));
  reports = record { byte = byte_by j.found; listed = j.listed; verdict = j.verdict; chosen = j.chosen; lines = ap (λ l. counts_of (readable records) ++ l) line_is };
  fits = omega (arith, ap length line_is, few, few_operations records, counts_short (length records) (operations records) (omega (arith, few)) (omega (arith, few, few_operations records)), verdict_line_short (byte_by j.found) j.listed (omega (arith, verdict_small j.verdict)) (λ i. omega (arith, known i)), short);
})
  where
    few : length records ≤ max_records
    few = (readable_log log records reads).partial.regular.few

    short : length j.listed ≤ max_records
    short = omega (arith, verdict_at_most log reads j.verdict)

    known : (i : ℕ) → get_or j.listed i 0 < max_records
    known = verdict_known {h = history_of records} (omega (arith, few, few_operations records)) j.verdict

    long : length (sheet_of (byte_by j.found) j.listed) ≡ sheet_header + 2 * length j.listed
    long = sheet_length (byte_by j.found) j.listed

    fits : ltb (length blank) (length (sheet_of (byte_by j.found) j.listed)) ≡ false
    fits = le-ltb (length blank) (length (sheet_of (byte_by j.found) j.listed)) (omega (arith, long, short))

    answered : answer ≡ (verdict_of j.found (length j.listed))
    answered = rw fits at j.delivers.answers

    held : sheet ≡ sheet_of (byte_by j.found) j.listed ++ drop (length (sheet_of (byte_by j.found) j.listed)) blank
    held = rw fits at j.delivers.leaves

    are : numbers_from sheet sheet_header (length j.listed) ≡ j.listed
    are = listed_read sheet (byte_by j.found) j.listed _ held (λ i. omega (arith, known i))

    line_is : answer_line (verdict_of j.found (length j.listed)) sheet ≡ verdict_line (byte_by j.found) j.listed
    line_is = answers_verdict j.listed sheet are j.found

-- a refused one
refused_reports : {sheet : List ℕ} (refusal : Refusal) (index : ℕ) → Within (refused refusal index) → Reportable (refused refusal index) (judge.Refused (told refusal index)) sheet
refused_reports refusal index bound =
    record { on_sheet = tt; reports = refl; fits = omega (arith, refusal_short (number_of refusal) index (omega (arith, bound.1)) (omega (arith, bound.2))) }

pub judged_reports : (log blank : List ℕ) {answer : Verdict} {sheet : List ℕ} → length blank ≡ sheet_room → Judges (read_log log) blank answer sheet → Reportable (read_log log) answer sheet
judged_reports log blank sized j = go (read_log log) refl (within log) sized j
  where
    go : (reading : Reading) → read_log log ≡ reading → Within reading → {blank sheet : List ℕ} {answer : Verdict} → length blank ≡ sheet_room → Judges reading blank answer sheet → Reportable reading answer sheet
    go (readable records) reads bound sized (judged j) = readable_reports log sized reads j
    go (refused refusal index) reads bound sized turned_down = refused_reports refusal index bound

-- a report that is put at the start of a buffer is written
pub puts_report : {reading : Reading} {answer : Verdict} {sheet buffer buffer' : List ℕ} {n : ℕ} → Reportable reading answer sheet → report_room ≤ length buffer → Puts (counts_of reading ++ answer_line answer sheet) 0 buffer n buffer'
    → Reported reading buffer n buffer'
puts_report {reading} {answer} {sheet} r room p = record {
  within = omega (arith, p.ends, r.fits, length-append (counts_of reading) (answer_line answer sheet));
  reports = rw (starts_with p) r.reports;
  keeps = keeps_behind p;
}
