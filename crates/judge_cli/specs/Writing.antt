-- How the code writes a report from the judge's answer and sheet. What the program prints can be understood without this file.
use Rattle.std.specs.Prelude.{ℕ, ◌+◌, ◌*◌, ◌≤◌, List, [], map, length}
use Rattle.record.specs.declared.refusal.Refused.{Refused}
use Rattle.text.specs.Text.{decimal, spaced}
use Rattle.reader.specs.Log.{max_records, Reading, readable, refused, operations}
use Rattle.history.specs.Sheet.{sheet_header, numbers_from}
use Rattle.judge.specs.declared.judge.Verdict.{Verdict}
use Rattle.judge.specs.declared.judge.Verdict.TheVariants as judge
use Rattle.judge.specs.declared.judge.Verdict.TheVariants.{Order, Pattern}
use Rattle.judge_cli.specs.Report.{counts_line, order_line, pattern_line, refusal_line}

-- a sheet with room for every verdict on a log
abbrev pub sheet_room : ℕ
sheet_room = sheet_header + 2 * max_records

-- a buffer with room for every report: its first line has at most 33 bytes, and its second at most 10, and 5 more for each operation listed
abbrev pub report_room : ℕ
report_room = 33 + (10 + 5 * max_records)

-- the first line for a log, as it was read; nothing if it is refused
abbrev pub counts_of : Reading → List ℕ
counts_of (readable records) = counts_line (length records) (operations records)
counts_of (refused refusal index) = []

-- the first k operations that a sheet lists, a space before each
abbrev pub listing : List ℕ → ℕ → List ℕ
listing sheet k = spaced (map decimal (numbers_from sheet sheet_header k))

-- the line for the judge's answer, which left this sheet
abbrev pub answer_line : Verdict → List ℕ → List ℕ
answer_line (Order k) sheet = order_line (numbers_from sheet sheet_header k)
answer_line (Pattern number k) sheet = pattern_line number (numbers_from sheet sheet_header k)
answer_line (judge.Refused r) sheet = refusal_line r.number r.index

-- the operations that the judge's answer lists are on the sheet
abbrev pub OnSheet : Verdict → List ℕ → Type 0
OnSheet (Order k) sheet = sheet_header + 2 * k ≤ length sheet
OnSheet (Pattern number k) sheet = sheet_header + 2 * k ≤ length sheet
OnSheet (judge.Refused r) sheet = Unit {0}
