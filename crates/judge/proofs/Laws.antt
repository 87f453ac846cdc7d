-- The laws of judging, for everything above: what an answer says of the log and of the sheet, and that there is only one answer and one sheet.
use Prim.Native.Nat.{ℕ, ◌+◌, ◌*◌, ◌≤◌, ◌<◌}
use native.Mathlib.Omega.{arith}
use mathlib.Core.Path.{◌≡◌, refl, sym, ap, ◌∙◌}
use mathlib.Core.Bool.{Bool, true, false}
use mathlib.Core.List.{List, ◌++◌}
use lib.ListN.{length, take, drop}
use lib.Seq.{take-append_seam, drop-append_seam}
use borrow.Author.Tests.{ltb-true}
use Rattle.std.specs.Prelude.{Option, Some, None, if◌then◌else◌}
use Rattle.record.specs.Refusal.{told}
use Rattle.record.specs.declared.refusal.Refusal.TheVariants.{BufferTooShort}
use Rattle.record.specs.declared.refusal.Refused.{Refused}
use Rattle.record.specs.declared.record.Record.{Record}
use Rattle.buffer.specs.Buffer.{lacks_room}
use Rattle.reader.specs.Log.{max_records, Reading, readable, refused, read_log}
use Rattle.reader.specs.Readable.{Within}
use Rattle.reader.proofs.Laws.{readable_log, within}
use Rattle.history.specs.Object.{Queue}
use Rattle.history.specs.History.{Lawful, Lone}
use Rattle.history.specs.Operations.{history_of}
use Rattle.history.specs.Sheet.{sheet_header, order_verdict, sheet_of}
use Rattle.history.proofs.Laws.{calls_within, returns_within, history_lawful, history_lone, returns_apart}
use Rattle.history.proofs.Sheets.{sheet_length}
use Rattle.violations.specs.Verdict as violations
use Rattle.violations.specs.Found.{FoundSettled}
use Rattle.violations.proofs.Laws.{verdict_one, listed_one, listed_at_most}
use Rattle.patterns.specs.Pattern.{number_of}
use Rattle.patterns.specs.declared.pattern.Pattern as patterns
use Rattle.patterns.proofs.Numbered.{numbered, number_apart}
use Rattle.judge.specs.Judge.{byte_by, verdict_of, byte_of, count_of, sheet_bytes, Accepted, order, pattern, Delivers, Judgement, Judges, judged, turned_down}
use Rattle.judge.specs.declared.judge.Verdict.{Verdict}
use Rattle.judge.specs.declared.judge.Verdict.TheVariants as judge
use Rattle.judge.specs.declared.judge.Verdict.TheVariants.{Order, Pattern}

-- What an accepted answer says: the log has this verdict, an order is the one that the search finds, its sheet stands at the front of the lent one,
-- and the bytes behind it are as they were.
pub record Shown (records : List Record) (answer : Verdict) (sheet sheet' : List ℕ) : Type 0 where
  pub listed : List ℕ
  pub verdict : violations.Verdict Queue (history_of records) (byte_of answer) listed
  pub chosen : byte_of answer ≡ order_verdict → FoundSettled (history_of records) listed
  pub counted : length listed ≡ count_of answer
  pub holds : take (sheet_bytes answer) sheet' ≡ sheet_of (byte_of answer) listed
  pub behind : drop (sheet_bytes answer) sheet' ≡ drop (sheet_bytes answer) sheet

-- What a refusal of a readable log says: 24, the sheet of its verdict does not fit into the lent one, which is as it was.
pub record TooShort (records : List Record) (r : Refused) (sheet sheet' : List ℕ) : Type 0 where
  pub listed : List ℕ
  pub byte : ℕ
  pub verdict : violations.Verdict Queue (history_of records) byte listed
  pub short : length sheet < sheet_header + 2 * length listed
  pub refusal_is : r ≡ told BufferTooShort 0
  pub untouched : sheet' ≡ sheet

-- a verdict is no refusal
refused_apart : (found : Option patterns.Pattern) (k : ℕ) {r : Refused} → judge.Refused r ≡ verdict_of found k → ⊥
refused_apart None k e = cc
refused_apart (Some p) k e = cc

module _ {records : List Record} {sheet sheet' : List ℕ} where
  -- the answer to a verdict that is delivered, by whether there is room
  shown : (found : Option patterns.Pattern) {listed : List ℕ} → violations.Verdict Queue (history_of records) (byte_by found) listed
      → (byte_by found ≡ order_verdict → FoundSettled (history_of records) listed) → {answer : Verdict} → Accepted answer
      → (lacks : Bool) → lacks_room (sheet_of (byte_by found) listed) sheet ≡ lacks → answer ≡ (if lacks then judge.Refused (told BufferTooShort 0) else (verdict_of found (length listed)))
      → sheet' ≡ (if lacks then sheet else sheet_of (byte_by found) listed ++ drop (length (sheet_of (byte_by found) listed)) sheet) → Shown records answer sheet sheet'
  shown found verdict chosen order true l e w = cc
  shown found verdict chosen pattern true l e w = cc
  shown found {listed} verdict chosen accepted false l e w = rw e (go found verdict chosen w)
    where
      -- the sheet at the front of the lent one has as many bytes as the answer says
      shows : (byte : ℕ) → sheet' ≡ sheet_of byte listed ++ drop (length (sheet_of byte listed)) sheet
          → (take (sheet_header + 2 * length listed) sheet' ≡ sheet_of byte listed) × (drop (sheet_header + 2 * length listed) sheet' ≡ drop (sheet_header + 2 * length listed) sheet)
      shows byte w =
          let long : sheet_header + 2 * length listed ≡ length (sheet_of byte listed) = omega (arith, sheet_length byte listed) in (
            rw (w, long) (take-append_seam (sheet_of byte listed) (drop (length (sheet_of byte listed)) sheet)),
            rw (w, long) (drop-append_seam (sheet_of byte listed) (drop (length (sheet_of byte listed)) sheet)),
          )

      go : (found : Option patterns.Pattern) → violations.Verdict Queue (history_of records) (byte_by found) listed
          → (byte_by found ≡ order_verdict → FoundSettled (history_of records) listed)
          → sheet' ≡ sheet_of (byte_by found) listed ++ drop (length (sheet_of (byte_by found) listed)) sheet
          → Shown records (verdict_of found (length listed)) sheet sheet'
      go None verdict chosen w = let s = shows order_verdict w in record { listed = listed; verdict = verdict; chosen = chosen; counted = refl; holds = s.0; behind = s.1 }
      go (Some p) verdict chosen w = let s = shows (number_of p) w in record { listed = listed; verdict = verdict; chosen = chosen; counted = refl; holds = s.0; behind = s.1 }

  -- an accepted answer
  pub judged_shows : {answer : Verdict} → Judgement records sheet answer sheet' → Accepted answer → Shown records answer sheet sheet'
  judged_shows j accepted = shown j.found j.verdict j.chosen accepted (lacks_room (sheet_of (byte_by j.found) j.listed) sheet) refl j.delivers.answers j.delivers.leaves

  -- a refusal
  pub judged_too_short : {r : Refused} → Judgement records sheet (judge.Refused r) sheet' → TooShort records r sheet sheet'
  judged_too_short {r} j = go (lacks_room (sheet_of (byte_by j.found) j.listed) sheet) refl j.delivers.answers j.delivers.leaves
    where
      go : (lacks : Bool) → lacks_room (sheet_of (byte_by j.found) j.listed) sheet ≡ lacks → judge.Refused r ≡ (if lacks then judge.Refused (told BufferTooShort 0) else (verdict_of j.found (length j.listed)))
          → sheet' ≡ (if lacks then sheet else sheet_of (byte_by j.found) j.listed ++ drop (length (sheet_of (byte_by j.found) j.listed)) sheet) → TooShort records r sheet sheet'
      go true l e w = record {
        listed = j.listed;
        byte = byte_by j.found;
        verdict = j.verdict;
        short = omega (arith, ltb-true (length sheet) (length (sheet_of (byte_by j.found) j.listed)) l, sheet_length (byte_by j.found) j.listed);
        refusal_is = cc;
        untouched = w;
      }
      go false l e w = absurd (refused_apart j.found _ e)

-- a refusal is not accepted
pub accepted_not_refused : {answer : Verdict} {r : Refused} → Accepted answer → answer ≡ judge.Refused r → ⊥
accepted_not_refused order e = cc
accepted_not_refused pattern e = cc

-- the verdict byte tells what is found
byte_apart : (found found' : Option patterns.Pattern) → byte_by found ≡ byte_by found' → found ≡ found'
byte_apart None None e = refl
byte_apart None (Some q) e = absurd (omega (arith, e, numbered q))
byte_apart (Some p) None e = absurd (omega (arith, e, numbered p))
byte_apart (Some p) (Some q) e = ap Some (number_apart p q e)

-- There is only one answer, and only one sheet is left: "the result .. and every lent byte follow from the input". An order is the one that the
-- search finds, so the listed operations follow too.
judgements_one : {records : List Record} → Lawful (history_of records) → Lone (history_of records)
    → {sheet left left' : List ℕ} {answer answer' : Verdict} → Judgement records sheet answer left → Judgement records sheet answer' left'
    → (answer ≡ answer') × (left ≡ left')
judgements_one lawful lone {sheet} {left} {answer = answer} j k =
    let found : j.found ≡ k.found = byte_apart j.found k.found (verdict_one lawful j.verdict k.verdict).0 in
    let listed : j.listed ≡ k.listed = listed_one lawful lone j.verdict j.chosen k.verdict k.chosen in
    let delivers : Delivers k.found k.listed sheet answer left = rw (found, listed) at j.delivers in
    (delivers.answers ∙ sym k.delivers.answers, delivers.leaves ∙ sym k.delivers.leaves)

pub judged_determined : (log : List ℕ) {sheet left left' : List ℕ} {answer answer' : Verdict} → Judges (read_log log) sheet answer left → Judges (read_log log) sheet answer' left' → (answer ≡ answer') × (left ≡ left')
judged_determined log j k = go (read_log log) refl j k
  where
    go : (reading : Reading) → read_log log ≡ reading → {sheet left left' : List ℕ} {answer answer' : Verdict} → Judges reading sheet answer left → Judges reading sheet answer' left' → (answer ≡ answer') × (left ≡ left')
    go (readable records) reads (judged j) (judged k) =
        let read = readable_log log records reads in
        judgements_one (history_lawful read) (history_lone read) j k
    go (refused refusal index) reads turned_down turned_down = (refl, refl)

-- The verdict on a log lists at most 682 operations.
pub verdict_at_most : (log : List ℕ) {records : List Record} → read_log log ≡ readable records → {byte : ℕ} {listed : List ℕ}
    → violations.Verdict Queue (history_of records) byte listed → length listed ≤ 682
verdict_at_most log {records} reads verdict =
    let read = readable_log log records reads in
    listed_at_most (history_lawful read) (returns_apart read) (record { calls = calls_within read; returns = λ o l. returns_within read o })
    read.partial.regular.few Queue (history_lone read) verdict

-- So 1,368 bytes, 4 and 2 for each of them, are enough for its sheet.
pub long_enough : (log : List ℕ) {records : List Record} → read_log log ≡ readable records → {sheet sheet' : List ℕ} {answer : Verdict} → 1368 ≤ length sheet → Judges (read_log log) sheet answer sheet' → Accepted answer
long_enough log {records} reads long j = go long (rw reads at j)
  where
    go : {sheet sheet' : List ℕ} {answer : Verdict} → 1368 ≤ length sheet → Judges (readable records) sheet answer sheet' → Accepted answer
    go {answer = Order k} long j = order
    go {answer = Pattern number k} long j = pattern
    go {answer = judge.Refused r} long (judged j) = let short = judged_too_short j in absurd (omega (arith, short.short, verdict_at_most log reads short.verdict))

-- The numbers in an answer for a log are small.
pub judged_at_most : (log : List ℕ) {sheet sheet' : List ℕ} {answer : Verdict} → Judges (read_log log) sheet answer sheet' → Accepted answer → count_of answer ≤ 682
judged_at_most log j accepted = go (read_log log) refl j accepted
  where
    go : (reading : Reading) → read_log log ≡ reading → {sheet sheet' : List ℕ} {answer : Verdict} → Judges reading sheet answer sheet' → Accepted answer → count_of answer ≤ 682
    go (readable records) reads (judged j) accepted = let shown = judged_shows j accepted in omega (arith, verdict_at_most log reads shown.verdict, shown.counted)
    go (refused refusal index) reads turned_down accepted = absurd (accepted_not_refused accepted refl)

pub judged_refusal : (log : List ℕ) {sheet sheet' : List ℕ} {r : Refused} → Judges (read_log log) sheet (judge.Refused r) sheet' → (1 ≤ r.number) × (r.index ≤ max_records)
judged_refusal log j = go (read_log log) (within log) j refl
  where
    go : (reading : Reading) → Within reading → {sheet sheet' : List ℕ} {answer : Verdict} {r : Refused} → Judges reading sheet answer sheet' → answer ≡ judge.Refused r → (1 ≤ r.number) × (r.index ≤ max_records)
    go (readable records) few (judged j) e = let short = judged_too_short (rw e at j) in rw short.refusal_is (omega arith, omega arith)
    go (refused refusal i) few {r = r} turned_down e = let same : r ≡ told refusal i = cc in rw same (few.0, few.2)
