-- The archive of a log. Document 01, "Sheet, excerpt, narrowing": "The archive of a log is the sheet that judging it writes and, with a pattern, the
-- excerpt made from it .. . Buffers are long enough where 24 does not turn the call down." Document 02, change 4, of a log with an open remove: "For
-- such logs the archive keeps the sheet alone."
use Rattle.std.specs.Prelude.{ℕ, ◌≡◌, true, List, Ok, [], get_or, take}
use Rattle.record.specs.declared.record.Record.{Record}
use Rattle.reader.specs.Log.{readable, read_log, has_pending_remove}
use Rattle.judge.specs.Judge.{sheet_bytes, Judges}
use Rattle.judge.specs.declared.judge.Verdict.TheVariants.{Order, Pattern}
use Rattle.projection.specs.Outcome.{excerpt_answer, excerpt_leaves}

-- the verdict byte of a sheet
abbrev pub verdict_byte : List ℕ → ℕ
verdict_byte sheet = get_or sheet 1 0

-- A log has this sheet and this excerpt for its archive: judging it, into a buffer that is long enough, writes the sheet; with a pattern the
-- excerpt call, with a buffer that is long enough, writes the excerpt. With an order there is none, and none of a log with an open remove.
pub data Archive (log : List ℕ) : List ℕ → List ℕ → Type 0 where
  with_order : {buffer left : List ℕ} {k : ℕ} → Judges (read_log log) buffer (Order k) left → Archive log (take (sheet_bytes (Order k)) left) []
  with_pattern : {buffer left : List ℕ} {number k written : ℕ} → Judges (read_log log) buffer (Pattern number k) left → (out : List ℕ)
      → excerpt_answer (read_log log) out ≡ Ok written
      → Archive log (take (sheet_bytes (Pattern number k)) left) (take written (excerpt_leaves (read_log log) out))
  sheet_alone : {buffer left : List ℕ} {number k : ℕ} {records : List Record} → Judges (read_log log) buffer (Pattern number k) left
      → read_log log ≡ readable records → has_pending_remove records ≡ true → Archive log (take (sheet_bytes (Pattern number k)) left) []
