-- From what the parts of replay find out to its answer.
use Prim.Native.Nat.{ℕ, ◌+◌}
use mathlib.Core.Path.{◌≡◌, refl, sym, ◌∙◌}
use mathlib.Core.Bool.{Bool, true, false}
use mathlib.Core.List.{List}
use Rattle.std.specs.Prelude.{Result, Ok, Err}
use Rattle.record.specs.Refusal.{refusing}
use Rattle.record.specs.declared.refusal.Refusal.TheVariants.{WrongSheet}
use Rattle.record.specs.declared.refusal.Refused.{Refused}
use Rattle.reader.specs.Log.{read_log, checked}
use Rattle.reader.specs.declared.log.Counts.{Counts}
use Rattle.reader.proofs.Laws.{where_refused}
use Rattle.history.specs.Answers.{Decides}
use Rattle.history.specs.Object.{Queue}
use Rattle.history.specs.Linearization.{Linearization}
use Rattle.history.specs.Sheet.{listed_on, is_order_sheet}
use Rattle.history.specs.Table.{tabled}
use Rattle.history.proofs.Agreeing.{agree_sym, agree_linearization}
use Rattle.history.proofs.Tabulating.{Tabled}
use Rattle.replay.specs.Replay.{replayed}
use Rattle.replay.proofs.Laws.{legal_is_yes, other_is_no, form_is_refused}

-- the log is refused
pub log_refused : (log sheet : List ℕ) {answer : Result Counts Refused} {r : Refused} → answer ≡ checked (read_log log) → answer ≡ Err r
    → Err r ≡ replayed (read_log log) sheet
log_refused log sheet e f = where_refused (read_log log) (sym e ∙ f) (λ reading r. Err r ≡ replayed reading sheet) (λ refusal index. refl)

module _ {log : List ℕ} {count size : ℕ} {table : List ℕ} (t : Tabled log count size table) (sheet : List ℕ) where
  -- the sheet is refused
  pub sheet_refused : is_order_sheet sheet ≡ false → refusing WrongSheet 0 ≡ replayed (read_log log) sheet
  sheet_refused s = sym (form_is_refused log sheet t.records t.reads s)

  -- the order is tried
  module _ (s : is_order_sheet sheet ≡ true) where
    pub order_says : (legal : Bool) → Decides (Linearization Queue (tabled count (size + 1) table) (listed_on sheet)) legal → Ok legal ≡ replayed (read_log log) sheet
    order_says true l = sym (legal_is_yes log sheet (record {
      records = t.records;
      reads = t.reads;
      form = s;
      legal = agree_linearization Queue t.agree l;
    }))
    order_says false d = sym (other_is_no log sheet (record {
      records = t.records;
      reads = t.reads;
      form = s;
      not_legal = λ l. d (agree_linearization Queue (agree_sym t.agree) l);
    }))
