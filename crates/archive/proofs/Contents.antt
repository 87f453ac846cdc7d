-- What stands in an archive: the sheet of the log's verdict, and with a pattern the excerpt of its operations.
use Prim.Native.Nat.{ℕ, ◌≤◌, ◌<◌}
use native.Mathlib.Omega.{arith}
use mathlib.Core.Path.{◌≡◌, refl, sym, ap, ◌∙◌}
use mathlib.Core.Bool.{Bool, true, false}
use mathlib.Core.Logic.{◌⊎◌, inl, inr}
use mathlib.Core.List.{List, [], ◌++◌}
use lib.ListN.{length, take, drop}
use lib.Seq.{take-append_seam}
use Rattle.std.specs.Prelude.{Result, Ok, if◌then◌else◌}
use Rattle.record.specs.Refusal.{refusing}
use Rattle.record.specs.declared.refusal.Refusal.TheVariants.{BufferTooShort, RemoveUnreturned}
use Rattle.record.specs.declared.refusal.Refused.{Refused}
use Rattle.record.specs.declared.record.Record.{Record}
use Rattle.buffer.specs.Buffer.{lacks_room, written}
use Rattle.reader.specs.Log.{max_records, Reading, readable, refused, read_log, operations, encode_log, has_pending_remove}
use Rattle.reader.specs.Readable.{Within}
use Rattle.reader.proofs.Laws.{within, few_operations}
use Rattle.history.specs.Object.{Queue}
use Rattle.history.specs.Operations.{history_of}
use Rattle.history.specs.Sheet.{order_verdict, sheet_of, listed_on}
use Rattle.history.proofs.Sheets.{sheet_lists}
use Rattle.violations.specs.Violations.{NoViolation}
use Rattle.violations.specs.Verdict.{SomeViolation}
use Rattle.violations.specs.Verdict as violations
use Rattle.violations.specs.Found.{FoundSettled}
use Rattle.violations.proofs.Laws.{first_violation, first_violation_one, verdict_known}
use Rattle.judge.specs.Judge.{sheet_bytes, Accepted, order, pattern, Judges, judged, turned_down}
use Rattle.judge.specs.declared.judge.Verdict.{Verdict}
use Rattle.judge.specs.declared.judge.Verdict.TheVariants.{Order}
use Rattle.judge.proofs.Laws.{judged_shows, accepted_not_refused, verdict_at_most}
use Rattle.projection.specs.Projection.{excerpted}
use Rattle.projection.specs.Outcome.{excerpt_answer_of, excerpt_leaves_of}
use Rattle.projection.proofs.Laws.{excerpt_pending}
use Rattle.archive.specs.Archive.{verdict_byte, Archive, with_order, with_pattern, sheet_alone}

-- The sheet of an archive: the log is readable, and the sheet holds its verdict, an order as the search finds it.
pub record Contents (log sheet : List ℕ) : Type 0 where
  pub records : List Record
  pub reads : read_log log ≡ readable records
  pub verdict : violations.Verdict Queue (history_of records) (verdict_byte sheet) (listed_on sheet)
  pub chosen : verdict_byte sheet ≡ order_verdict → FoundSettled (history_of records) (listed_on sheet)
  -- the sheet has no other bytes
  pub whole : sheet ≡ sheet_of (verdict_byte sheet) (listed_on sheet)

-- a sheet that judging wrote
sheet_contents : (log : List ℕ) (records : List Record) → read_log log ≡ readable records → {byte : ℕ} {listed sheet : List ℕ}
    → violations.Verdict Queue (history_of records) byte listed
    → (byte ≡ order_verdict → FoundSettled (history_of records) listed) → sheet ≡ sheet_of byte listed → Contents log sheet
sheet_contents log records reads {byte} {listed} {sheet} verdict chosen e =
    let small : Within (readable records) = rw reads at (within log) in
    let known : operations records ≤ max_records = omega (arith, few_operations records) in
    let few : length listed < 65536 = omega (arith, verdict_at_most log reads verdict) in
    let lists : listed_on sheet ≡ listed = ap listed_on e ∙ sheet_lists byte listed few (λ i. omega (arith, verdict_known known verdict i)) in
    let says : verdict_byte sheet ≡ byte = ap verdict_byte e in
    record { records = records; reads = reads; verdict = rw (lists, says) verdict; chosen = rw (lists, says) chosen; whole = rw (lists, says) e }

pub judged_contents : (log : List ℕ) {buffer left : List ℕ} {answer : Verdict} → Accepted answer → Judges (read_log log) buffer answer left → Contents log (take (sheet_bytes answer) left)
judged_contents log accepted j = go (read_log log) refl accepted j
  where
    go : (reading : Reading) → read_log log ≡ reading → {buffer left : List ℕ} {answer : Verdict} → Accepted answer → Judges reading buffer answer left → Contents log (take (sheet_bytes answer) left)
    go (readable records) reads accepted (judged j) = let shown = judged_shows j accepted in sheet_contents log records reads shown.verdict shown.chosen shown.holds
    go (refused refusal index) reads accepted turned_down = absurd (accepted_not_refused accepted refl)

-- the verdict byte of an order
pub order_byte : (log : List ℕ) {buffer left : List ℕ} {k : ℕ} → Judges (read_log log) buffer (Order k) left → verdict_byte (take (sheet_bytes (Order k)) left) ≡ order_verdict
order_byte log j = go (read_log log) j refl
  where
    go : (reading : Reading) → {buffer left : List ℕ} {answer : Verdict} {k : ℕ} → Judges reading buffer answer left → answer ≡ Order k → verdict_byte (take (sheet_bytes (Order k)) left) ≡ order_verdict
    go (readable records) (judged j) e = ap verdict_byte (judged_shows (rw e at j) order).holds
    go (refused refusal index) turned_down e = absurd (accepted_not_refused order (sym e))

pub archive_contents : {log sheet excerpt : List ℕ} → Archive log sheet excerpt → Contents log sheet
archive_contents {log} (with_order j) = judged_contents log order j
archive_contents {log} (with_pattern j out e) = judged_contents log pattern j
archive_contents {log} (sheet_alone j reads pending) = judged_contents log pattern j

-- the excerpt that a call wrote
excerpt_is : (records : List Record) (out : List ℕ) {written : ℕ} {n : ℕ} {listed : List ℕ} → violations.FirstViolation Queue (history_of records) n listed
    → (found : SomeViolation Queue (history_of records) ⊎ NoViolation Queue (history_of records)) → excerpt_answer_of records found out ≡ Ok written
    → take written (excerpt_leaves_of records found out) ≡ encode_log (excerpted records listed)
excerpt_is records out {written} {listed = listed} first (inr clean) e = cc
excerpt_is records out {written} {listed = listed} first (inl (m, other, found)) e = rw (first_violation_one first found).1 (go (lacks_room bytes out) e)
  where
    bytes : List ℕ
    bytes = encode_log (excerpted records other)

    go : (lacks : Bool) → (if lacks then refusing BufferTooShort 0 else Ok (length bytes)) ≡ Ok written
        → take written (if lacks then out else bytes ++ drop (length bytes) out) ≡ bytes
    go true e = cc
    go false e = let same : written ≡ length bytes = cc in rw same (take-append_seam bytes (drop (length bytes) out))

-- with a pattern the excerpt of its operations is kept, if no remove is open,
pub archive_excerpt : {log sheet excerpt : List ℕ} → Archive log sheet excerpt → (records : List Record) → read_log log ≡ readable records
    → has_pending_remove records ≡ false → violations.FirstViolation Queue (history_of records) (verdict_byte sheet) (listed_on sheet) → (verdict_byte sheet ≡ order_verdict → ⊥)
    → excerpt ≡ encode_log (excerpted records (listed_on sheet))
archive_excerpt {log} (with_order j) records reads returned first some = absurd (some (order_byte log j))
archive_excerpt (with_pattern j out e) records reads returned first some =
    rw (reads, returned) (excerpt_is records out first (first_violation Queue (history_of records)) (rw (reads, returned) at e))
archive_excerpt (sheet_alone {records = own} j read pending) records reads returned first some =
    let same : own ≡ records = let e : readable own ≡ readable records = sym read ∙ reads in cc in
    let z : ◌≡◌ {A = Bool} true false = sym pending ∙ ap has_pending_remove same ∙ returned in
    cc

-- and nothing if one is: "For such logs the archive keeps the sheet alone."
pub archive_alone : {log sheet excerpt : List ℕ} → Archive log sheet excerpt → (records : List Record) → read_log log ≡ readable records
    → has_pending_remove records ≡ true → excerpt ≡ []
archive_alone (with_order j) records reads pending = refl
archive_alone (sheet_alone j read own) records reads pending = refl
archive_alone {log} (with_pattern {written = written} j out e) records reads pending =
    let z : refusing RemoveUnreturned 0 ≡ Ok written = sym (excerpt_pending log records reads pending out).0 ∙ e in
    cc
