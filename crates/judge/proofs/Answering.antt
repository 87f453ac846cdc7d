-- From what is found for the table to the answer for the log.
use Prim.Native.Nat.{ℕ, ◌+◌, ◌*◌, ◌≤◌, ◌<◌}
use native.Mathlib.Omega.{arith}
use mathlib.Core.Path.{◌≡◌, refl, sym, ◌∙◌}
use mathlib.Core.Bool.{false}
use mathlib.Core.List.{List}
use lib.ListN.{length, take}
use borrow.Author.Tests.{lt-ltb, le-ltb}
use Rattle.std.specs.Prelude.{Option, Result, Err}
use Rattle.record.specs.Refusal.{told}
use Rattle.record.specs.declared.refusal.Refusal.TheVariants.{BufferTooShort}
use Rattle.record.specs.declared.refusal.Refused.{Refused}
use Rattle.buffer.specs.Buffer.{lacks_room, written}
use Rattle.reader.specs.Log.{read_log, checked}
use Rattle.reader.specs.declared.log.Counts.{Counts}
use Rattle.reader.proofs.Laws.{readable_log, where_refused}
use Rattle.history.specs.Object.{Queue}
use Rattle.history.specs.History.{Lone}
use Rattle.history.specs.Sheet.{sheet_of}
use Rattle.history.specs.Table.{tabled}
use Rattle.history.proofs.Agreeing.{agree_sym}
use Rattle.history.proofs.Laws.{history_lone}
use Rattle.history.proofs.Sheets.{sheet_length}
use Rattle.history.proofs.Tabulating.{Tabled}
use Rattle.violations.proofs.Laws.{agree_lone, agree_verdict, agree_found_settled}
use Rattle.matching.specs.Held.{Held}
use Rattle.matching.proofs.Holding.{agree_held}
use Rattle.patterns.specs.declared.pattern.Pattern as patterns
use Rattle.judge.specs.Decision.{Decided}
use Rattle.judge.specs.Judge.{byte_by, verdict_of, Delivers, Judges, judged, turned_down}
use Rattle.judge.specs.declared.judge.Verdict.{Verdict}
use Rattle.judge.specs.declared.judge.Verdict.TheVariants as judge

-- the history in the table is that of a readable log
pub tabled_held : {log : List ℕ} {count size : ℕ} {table : List ℕ} → Tabled log count size table → Held (tabled count (size + 1) table)
tabled_held {log} t = agree_held (readable_log log t.records t.reads) t.agree

pub tabled_lone : {log : List ℕ} {count size : ℕ} {table : List ℕ} → Tabled log count size table → Lone (tabled count (size + 1) table)
tabled_lone {log} t = agree_lone (agree_sym t.agree) (history_lone (readable_log log t.records t.reads))

-- a verdict is delivered
module _ (found : Option patterns.Pattern) (listed sheet : List ℕ) where
  pub delivers_nothing : length sheet < 4 + 2 * length listed → Delivers found listed sheet (judge.Refused (told BufferTooShort 0)) sheet
  delivers_nothing short =
      let lacks = lt-ltb (length sheet) (length (sheet_of (byte_by found) listed)) (omega (arith, sheet_length (byte_by found) listed)) in
      record { answers = rw lacks refl; leaves = rw lacks refl }

  module _ (room : 4 + 2 * length listed ≤ length sheet) {sheet' : List ℕ} (wrote : sheet' ≡ written (sheet_of (byte_by found) listed) sheet) where
    fits : lacks_room (sheet_of (byte_by found) listed) sheet ≡ false
    fits = le-ltb (length sheet) (length (sheet_of (byte_by found) listed)) (omega (arith, sheet_length (byte_by found) listed))

    pub delivers_verdict : Delivers found listed sheet (verdict_of found (length listed)) sheet'
    delivers_verdict = record { answers = rw fits refl; leaves = wrote }

-- a readable log is judged
pub log_judged : {log : List ℕ} {count size k : ℕ} {found : Option patterns.Pattern} {table list sheet sheet' : List ℕ} {answer : Verdict} → Tabled log count size table → Decided (tabled count (size + 1) table) (byte_by found) k list
    → Delivers found (take k list) sheet answer sheet' → Judges (read_log log) sheet answer sheet'
log_judged {log} {k = k} {found = found} {list = list} t decided delivers = rw t.reads (judged (record {
  found = found;
  listed = take k list;
  verdict = agree_verdict Queue t.agree decided.verdict;
  chosen = λ e. agree_found_settled t.agree (decided.chosen e);
  delivers = delivers;
}))

-- any other is refused
pub log_refused : (log sheet : List ℕ) {answer : Result Counts Refused} {r : Refused} → answer ≡ checked (read_log log) → answer ≡ Err r → Judges (read_log log) sheet (judge.Refused r) sheet
log_refused log sheet e f = where_refused (read_log log) (sym e ∙ f) (λ reading r. Judges reading sheet (judge.Refused r) sheet) (λ refusal index. turned_down)
