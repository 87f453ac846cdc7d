-- What the program prints for a log. Document 01, "The program".
use Rattle.std.specs.Prelude.{ℕ, ◌≤◌, ◌≡◌, List, [], ◌∷◌, ◌++◌, map, length, take, drop, eqb, if◌then◌else◌}
use Rattle.record.specs.Refusal.{number_of}
use Rattle.record.specs.declared.record.Record.{Record}
use Rattle.text.specs.Text.{ascii, decimal, line}
use Rattle.reader.specs.Log.{Reading, readable, refused, operations}
use Rattle.history.specs.Object.{Queue}
use Rattle.history.specs.Operations.{history_of}
use Rattle.history.specs.Sheet.{order_verdict}
use Rattle.violations.specs.Verdict.{Verdict}
use Rattle.violations.specs.Found.{FoundSettled}

-- "Line 1: n, then the calls."
abbrev pub counts_line : ℕ → ℕ → List ℕ
counts_line records calls = line (ascii "log") (decimal records ∷ ascii "records" ∷ decimal calls ∷ ascii "operations" ∷ [])

-- "Line 2: "order", then the listed operations ("order" alone for k = 0); for a pattern, "pattern", its number, its operations."
abbrev pub order_line : List ℕ → List ℕ
order_line listed = line (ascii "order") (map decimal listed)

abbrev pub pattern_line : ℕ → List ℕ → List ℕ
pattern_line number listed = line (ascii "pattern") (decimal number ∷ map decimal listed)

-- the same by the verdict byte
abbrev pub verdict_line : ℕ → List ℕ → List ℕ
verdict_line byte listed = if eqb byte order_verdict then order_line listed else pattern_line byte listed

-- "A refusal prints one line only, "refused", number, index."
abbrev pub refusal_line : ℕ → ℕ → List ℕ
refusal_line number index = line (ascii "refused") (decimal number ∷ decimal index ∷ [])

-- A text is the report of a readable log: two lines, of which the second tells the verdict of the log. An order is the one that the judge lists.
pub record JudgedReport (records : List Record) (text : List ℕ) : Type 0 where
  pub byte : ℕ
  pub listed : List ℕ
  pub verdict : Verdict Queue (history_of records) byte listed
  pub chosen : byte ≡ order_verdict → FoundSettled (history_of records) listed
  pub lines : text ≡ counts_line (length records) (operations records) ++ verdict_line byte listed

-- A text is the report of a log, as it was read.
abbrev pub Reports : Reading → List ℕ → Type 0
Reports (readable records) text = JudgedReport records text
Reports (refused refusal index) text = text ≡ refusal_line (number_of refusal) index

-- The report of a log is written at the start of a buffer, n bytes. Behind them the buffer is as it was.
pub record Reported (reading : Reading) (buffer : List ℕ) (n : ℕ) (buffer' : List ℕ) : Type 0 where
  pub within : n ≤ length buffer
  pub reports : Reports reading (take n buffer')
  pub keeps : drop n buffer' ≡ drop n buffer
