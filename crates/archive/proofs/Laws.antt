-- Demand 3, at the level of bytes, for every readable log: the archive holds a legal order of the log exactly when one exists, and otherwise the
-- pattern with the operations that document 01 picks; the excerpt, judged by itself, gives the same number; neighbouring records that trade places, if
-- change 3 lets them, leave the verdict as it is. Legal orders are those of change 4, where one remove may be open; the archive of a log with one is
-- the sheet alone, so what is said of excerpts is for logs without.
use Prim.Native.Nat.{ℕ}
use mathlib.Core.Path.{◌≡◌, sym, ap, ◌∙◌}
use mathlib.Core.Bool.{false}
use mathlib.Core.Logic.{◌↔◌}
use mathlib.Core.List.{List}
use Rattle.std.specs.Prelude.{true, Ok}
use Rattle.record.specs.Number.{Bytes}
use Rattle.record.specs.declared.record.Record.{Record}
use Rattle.reader.specs.Log.{readable, read_log, encode_log, has_pending_remove}
use Rattle.reader.proofs.Laws.{readable_log}
use Rattle.history.specs.Object.{Queue}
use Rattle.history.specs.History.{add, Returned}
use Rattle.history.specs.Linearization.{Listed, Linearization}
use Rattle.history.specs.Operations.{history_of}
use Rattle.history.specs.Sheet.{order_verdict, sheet_of, listed_on}
use Rattle.history.proofs.Laws.{history_lawful, history_lone}
use Rattle.violations.specs.Violations.{Is, Removed}
use Rattle.violations.specs.Verdict.{FirstViolation, Verdict}
use Rattle.violations.proofs.Laws.{verdict_exactly, verdict_legal, verdict_pending, pattern_of}
use Rattle.replay.specs.Replay.{replayed}
use Rattle.replay.proofs.Laws.{linearization_replays}
use Rattle.projection.specs.Projection.{excerpted}
use Rattle.projection.proofs.Laws.{excerpt_verdict}
use Rattle.archive.specs.Archive.{verdict_byte, Archive}
use Rattle.archive.specs.Trade.{traded, Traded}
use Rattle.archive.proofs.Contents.{archive_contents, archive_excerpt}
-- "For such logs", those with an open remove, "the archive keeps the sheet alone."
pub use Rattle.archive.proofs.Contents.{archive_alone}
use Rattle.archive.proofs.Traded.{TradedBytes, traded_bytes, traded_readable, traded_verdict}
-- Every readable log has an archive, and only one.
pub use Rattle.archive.proofs.Existing.{archive_exists}
pub use Rattle.archive.proofs.Only.{archive_one}
-- What accepted calls write is an archive.
pub use Rattle.archive.proofs.Only.{order_alone, judged_archived, excerpt_archived}

-- What the sheet of an archive holds: the verdict of the log's history, in the form that document 01 gives, and nothing else.
pub verdict_is : {log sheet excerpt : List ℕ} {records : List Record} → read_log log ≡ readable records → Archive log sheet excerpt
    → Verdict Queue (history_of records) (verdict_byte sheet) (listed_on sheet) × (sheet ≡ sheet_of (verdict_byte sheet) (listed_on sheet))
verdict_is {records = records} reads archive =
    let c = archive_contents archive in
    let read : readable c.records ≡ readable records = sym c.reads ∙ reads in
    let same : c.records ≡ records = cc in
    (rw same at c.verdict, c.whole)

module _ {log : List ℕ} {records : List Record} (reads : read_log log ≡ readable records) {sheet excerpt : List ℕ} (archive : Archive log sheet excerpt) where
  -- "For every readable log the archive holds a legal order exactly when one exists":
  pub order_exactly : (verdict_byte sheet ≡ order_verdict) ↔ ((order : List ℕ) × Linearization Queue (history_of records) order)
  order_exactly =
      let read = readable_log log records reads in
      verdict_exactly Queue (history_lawful read) (history_lone read) (verdict_is reads archive).0

  -- the order that it holds is legal, lists an open add exactly if its value was removed, and replay says yes to its sheet;
  pub order_is_legal : verdict_byte sheet ≡ order_verdict → Linearization Queue (history_of records) (listed_on sheet)
  order_is_legal e =
      let read = readable_log log records reads in
      verdict_legal Queue (history_lawful read) (history_lone read) (verdict_is reads archive).0 e

  pub order_lists_pending : verdict_byte sheet ≡ order_verdict → (a : ℕ) → Is (history_of records) add a → (Returned (history_of records) a → ⊥)
      → Listed (listed_on sheet) a ↔ Removed (history_of records) a
  order_lists_pending e =
      let read = readable_log log records reads in
      verdict_pending Queue (history_lawful read) (history_lone read) (verdict_is reads archive).0 e

  pub order_replays : verdict_byte sheet ≡ order_verdict → replayed (read_log log) sheet ≡ Ok true
  order_replays e =
      ap (replayed (read_log log)) ((verdict_is reads archive).1 ∙ ap (λ byte. sheet_of byte (listed_on sheet)) e)
      ∙ (linearization_replays log records reads (listed_on sheet) (order_is_legal e)).1

  -- "otherwise the pattern with the operations that document 01 picks": the lowest number that occurs, with its lowest list. An open remove is in no
  -- pattern: "the pattern is the one found with it left out".
  pub pattern_is_first : (verdict_byte sheet ≡ order_verdict → ⊥) → FirstViolation Queue (history_of records) (verdict_byte sheet) (listed_on sheet)
  pattern_is_first n = pattern_of (verdict_is reads archive).0 n

  -- "the excerpt, judged by itself, gives the same number": it is a readable log, and every archive of it has the same verdict byte.
  module _ (bytes : Bytes log) (returned : has_pending_remove records ≡ false) (pattern : verdict_byte sheet ≡ order_verdict → ⊥) where
    abbrev kept : List Record
    kept = excerpted records (listed_on sheet)

    -- the excerpt's bytes are those of all records of all operations on the values of the listed ones, and of the listed empty remove
    pub excerpt_bytes : excerpt ≡ encode_log kept
    excerpt_bytes = archive_excerpt archive records reads returned (pattern_is_first pattern) pattern

    pub excerpt_readable : read_log excerpt ≡ readable kept
    excerpt_readable = ap read_log excerpt_bytes ∙ (excerpt_verdict log records reads bytes (pattern_is_first pattern)).0

    pub excerpt_same : {sheet' excerpt' : List ℕ} → Archive excerpt sheet' excerpt' → verdict_byte sheet' ≡ verdict_byte sheet
    excerpt_same {sheet'} again = (excerpt_verdict log records reads bytes (pattern_is_first pattern)).1 (verdict_byte sheet') (listed_on sheet') (verdict_is excerpt_readable again).0

-- "neighbouring calls, or returns, that trade places leave the verdict as it is", as change 3 has it: "Two neighbours of one tick and different clients
-- may now trade places, a call with a return included. Two calls of different ticks may trade only if no return has either tick, and two returns only
-- if no call has; both logs must be readable." Whichever two of these trade places while each place keeps its tick, the traded log is readable if the
-- other is, and the verdict byte is the same.
module _ {log log' : List ℕ} (bytes : Bytes log) (trade : Traded log log') where
  -- no other byte changes
  pub trade_bytes : TradedBytes log log'
  trade_bytes = traded_bytes bytes trade

  pub trade_readable : read_log log' ≡ readable (traded trade.place trade.records)
  trade_readable = traded_readable bytes trade

  pub trade_same : {sheet sheet' excerpt excerpt' : List ℕ} → Archive log sheet excerpt → Archive log' sheet' excerpt' → verdict_byte sheet ≡ verdict_byte sheet'
  trade_same before after = traded_verdict bytes trade (verdict_is trade.reads before).0 (verdict_is trade_readable after).0
