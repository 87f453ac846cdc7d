-- What judging a log into a lent sheet may answer and leave behind. Document 01: "The verdict is an order, a pattern with its operations, or a
-- refusal", "What the wording has to hold fast", 1.
use Rattle.std.specs.Prelude.{ℕ, ◌+◌, ◌*◌, ◌≡◌, List, Option, Some, None, length, if◌then◌else◌}
use Rattle.record.specs.declared.refusal.Refusal.{Refusal}
use Rattle.record.specs.declared.refusal.Refusal.TheVariants.{BufferTooShort}
use Rattle.record.specs.Refusal.{told}
use Rattle.record.specs.declared.record.Record.{Record}
use Rattle.buffer.specs.Buffer.{lacks_room, written}
use Rattle.reader.specs.Log.{Reading, readable, refused}
use Rattle.history.specs.Object.{Queue}
use Rattle.history.specs.Operations.{history_of}
use Rattle.history.specs.Sheet.{sheet_header, order_verdict, sheet_of}
use Rattle.violations.specs.Verdict as violations
use Rattle.violations.specs.Found.{FoundSettled}
use Rattle.patterns.specs.Pattern.{number_of}
use Rattle.patterns.specs.declared.pattern.Pattern as patterns
use Rattle.judge.specs.declared.judge.Verdict.{Verdict}
use Rattle.judge.specs.declared.judge.Verdict.TheVariants as judge
use Rattle.judge.specs.declared.judge.Verdict.TheVariants.{Order, Pattern}

-- the verdict byte of a pattern, or of an order if there is none
abbrev pub byte_by : Option patterns.Pattern → ℕ
byte_by (Some p) = number_of p
byte_by None = order_verdict

-- the answer for a pattern, or for an order if there is none, and how many operations it lists
abbrev pub verdict_of : Option patterns.Pattern → ℕ → Verdict
verdict_of (Some p) k = Pattern (number_of p) k
verdict_of None k = Order k

-- what an answer stands for: its verdict byte, 0 for an order or the pattern number; k, how many operations it lists; and how many bytes its
-- sheet has. A refusal has no sheet.
abbrev pub byte_of : Verdict → ℕ
byte_of (Order k) = order_verdict
byte_of (Pattern number k) = number
byte_of (judge.Refused r) = 0

abbrev pub count_of : Verdict → ℕ
count_of (Order k) = k
count_of (Pattern number k) = k
count_of (judge.Refused r) = 0

abbrev pub sheet_bytes : Verdict → ℕ
sheet_bytes (Order k) = sheet_header + 2 * k
sheet_bytes (Pattern number k) = sheet_header + 2 * k
sheet_bytes (judge.Refused r) = 0

-- The answer is no refusal.
pub data Accepted : Verdict → Type 0 where
  order : {k : ℕ} → Accepted (Order k)
  pattern : {number k : ℕ} → Accepted (Pattern number k)

-- A verdict is delivered into a lent sheet: the answer says what it is, and its sheet stands in the lent one, with what was behind it; or the answer
-- is 24, and the lent sheet is as it was.
pub record Delivers (found : Option patterns.Pattern) (listed sheet : List ℕ) (answer : Verdict) (sheet' : List ℕ) : Type 0 where
  pub answers : answer ≡ (if lacks_room (sheet_of (byte_by found) listed) sheet
      then judge.Refused (told BufferTooShort 0)
      else (verdict_of found (length listed)))
  pub leaves : sheet' ≡ written (sheet_of (byte_by found) listed) sheet

-- A readable log is judged: it has a verdict, an order as the judge lists it or the first pattern, and that is delivered. Document 01 leaves open
-- which legal order is listed; here it is the one that the search finds, once it is settled what becomes of a remove without return, so the history
-- alone decides it.
pub record Judgement (records : List Record) (sheet : List ℕ) (answer : Verdict) (sheet' : List ℕ) : Type 0 where
  pub found : Option patterns.Pattern
  pub listed : List ℕ
  pub verdict : violations.Verdict Queue (history_of records) (byte_by found) listed
  pub chosen : byte_by found ≡ order_verdict → FoundSettled (history_of records) listed
  pub delivers : Delivers found listed sheet answer sheet'

-- A log, as it was read, is judged into a sheet: this is the answer, and this sheet is left. A log that is not readable "returns its number and a
-- record index, .. and writes nothing."
pub data Judges : Reading → List ℕ → Verdict → List ℕ → Type 0 where
  judged : {records : List Record} {sheet sheet' : List ℕ} {answer : Verdict} → Judgement records sheet answer sheet' → Judges (readable records) sheet answer sheet'
  turned_down : {refusal : Refusal} {index : ℕ} {sheet : List ℕ} → Judges (refused refusal index) sheet (judge.Refused (told refusal index)) sheet
