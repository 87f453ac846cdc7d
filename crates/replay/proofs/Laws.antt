-- The laws of replay, for everything above it. Demand 2: "Replay says yes exactly to legal orders, whoever made them."
use Prim.Native.Nat.{ℕ, ◌+◌, ◌*◌, ◌≤◌, ◌<◌}
use native.Mathlib.Omega.{arith}
use native.Mathlib.Decide.{dec_lt}
use mathlib.Core.Path.{◌≡◌, refl, sym, ap, ◌∙◌}
use mathlib.Core.Bool.{Bool, true, false}
use mathlib.Core.List.{List}
use lib.ListN.{length, get_or, get_or-eq_default}
use borrow.Author.Tests.{eq-eqb}
use lib.Dec.{lit≤}
use Rattle.std.specs.Prelude.{Ok, Err}
use Rattle.record.specs.declared.record.Record.{Record}
use Rattle.reader.specs.Log.{max_records, Reading, readable, refused, read_log, operations}
use Rattle.reader.specs.Readable.{Within}
use Rattle.reader.proofs.Laws.{within, few_operations}
use Rattle.history.specs.Object.{Queue}
use Rattle.history.specs.Linearization.{Linearization}
use Rattle.history.specs.Operations.{history_of}
use Rattle.history.specs.Sheet.{order_verdict, sheet_header, sheet_of, listed_field, listed_on, is_order_sheet}
use Rattle.history.proofs.Counting.{ordering_short}
use Rattle.history.proofs.Deciding.{linearization?}
use Rattle.history.proofs.Forms.{sheet_by_length}
use Rattle.history.proofs.Sheets.{sheet_length, sheet_lists, listed_length}
use Rattle.record.specs.Refusal.{max_refusal, told, refusing}
use Rattle.record.specs.declared.refusal.Refusal.{Refusal}
use Rattle.record.specs.declared.refusal.Refusal.TheVariants.{WrongSheet}
use Rattle.record.specs.declared.refusal.Refused.{Refused}
use Rattle.replay.specs.Replay.{replayed, ListsLinearization, ListsOther}

-- what replay finds of a readable log and a sheet
data Outcome (records : List Record) (sheet : List ℕ) : Type 0 where
  legal : is_order_sheet sheet ≡ true → Linearization Queue (history_of records) (listed_on sheet) → replayed (readable records) sheet ≡ Ok true → Outcome records sheet
  other : is_order_sheet sheet ≡ true → (Linearization Queue (history_of records) (listed_on sheet) → ⊥) → replayed (readable records) sheet ≡ Ok false → Outcome records sheet
  formless : is_order_sheet sheet ≡ false → replayed (readable records) sheet ≡ refusing WrongSheet 0 → Outcome records sheet

outcome : (records : List Record) (sheet : List ℕ) → Outcome records sheet
outcome records sheet = go (is_order_sheet sheet) refl
  where
    by : is_order_sheet sheet ≡ true → (d : Dec (Linearization Queue (history_of records) (listed_on sheet)))
        → linearization? Queue (history_of records) (listed_on sheet) ≡ d → Outcome records sheet
    by form (yes l) e = legal form l (rw (form, e) refl)
    by form (no n) e = other form n (rw (form, e) refl)

    go : (form : Bool) → is_order_sheet sheet ≡ form → Outcome records sheet
    go true form = by form (linearization? Queue (history_of records) (listed_on sheet)) refl
    go false form = formless form (rw form refl)

-- Replay says yes exactly if the log is readable and the sheet lists a legal order of it.
pub yes_is_legal : (log sheet : List ℕ) → replayed (read_log log) sheet ≡ Ok true → ListsLinearization log sheet
yes_is_legal log sheet e = go (read_log log) refl e
  where
    go : (reading : Reading) → read_log log ≡ reading → replayed reading sheet ≡ Ok true → ListsLinearization log sheet
    go (refused refusal index) reads e = cc
    go (readable records) reads e = by (outcome records sheet)
      where
        by : Outcome records sheet → ListsLinearization log sheet
        by (legal form l r) = record { records = records; reads = reads; form = form; legal = l }
        by (other form n r) = cc
        by (formless form r) = cc

pub legal_is_yes : (log sheet : List ℕ) → ListsLinearization log sheet → replayed (read_log log) sheet ≡ Ok true
legal_is_yes log sheet order = rw order.reads (by (outcome order.records sheet))
  where
    by : Outcome order.records sheet → replayed (readable order.records) sheet ≡ Ok true
    by (legal form l r) = r
    by (other form n r) = absurd (n order.legal)
    by (formless form r) = let z : true ≡ false = sym order.form ∙ form in cc

-- It says no exactly if the log is readable and the sheet has the form of an order, but what it lists is none that is legal.
pub no_is_other : (log sheet : List ℕ) → replayed (read_log log) sheet ≡ Ok false → ListsOther log sheet
no_is_other log sheet e = go (read_log log) refl e
  where
    go : (reading : Reading) → read_log log ≡ reading → replayed reading sheet ≡ Ok false → ListsOther log sheet
    go (refused refusal index) reads e = cc
    go (readable records) reads e = by (outcome records sheet)
      where
        by : Outcome records sheet → ListsOther log sheet
        by (legal form l r) = cc
        by (other form n r) = record { records = records; reads = reads; form = form; not_legal = n }
        by (formless form r) = cc

pub other_is_no : (log sheet : List ℕ) → ListsOther log sheet → replayed (read_log log) sheet ≡ Ok false
other_is_no log sheet order = rw order.reads (by (outcome order.records sheet))
  where
    by : Outcome order.records sheet → replayed (readable order.records) sheet ≡ Ok false
    by (legal form l r) = absurd (order.not_legal l)
    by (other form n r) = r
    by (formless form r) = let z : true ≡ false = sym order.form ∙ form in cc

-- Of a readable log it refuses exactly a sheet of another form, under 11 and with index 0.
module _ (log sheet : List ℕ) (records : List Record) (reads : read_log log ≡ readable records) where
  pub refused_is_form : {r : Refused} → replayed (read_log log) sheet ≡ Err r → (is_order_sheet sheet ≡ false) × (r ≡ told WrongSheet 0)
  refused_is_form {r} e = let e' : replayed (readable records) sheet ≡ Err r = rw reads at e in by e' (outcome records sheet)
    where
      by : replayed (readable records) sheet ≡ Err r → Outcome records sheet → (is_order_sheet sheet ≡ false) × (r ≡ told WrongSheet 0)
      by e (legal form l r) = cc
      by e (other form n r) = cc
      by e (formless form r) = (form, cc)

  pub form_is_refused : is_order_sheet sheet ≡ false → replayed (read_log log) sheet ≡ refusing WrongSheet 0
  form_is_refused form = rw (reads, form) refl

-- A log that is refused is refused under the same number, whatever the sheet is.
pub log_refused_first : (log sheet : List ℕ) (refusal : Refusal) (index : ℕ) → read_log log ≡ refused refusal index → replayed (read_log log) sheet ≡ refusing refusal index
log_refused_first log sheet refusal index e = rw e refl

-- Any order that fits on a sheet can be written on one and replayed: the answer is yes exactly if it is legal.
module _ (order : List ℕ) (few : length order < 65536) (small : (i : ℕ) → get_or order i 0 < 65536) where
  written_form : is_order_sheet (sheet_of order_verdict order) ≡ true
  written_form =
      let sheet = sheet_of order_verdict order in
      let k : listed_field sheet ≡ length order = sym (listed_length sheet) ∙ ap length (sheet_lists order_verdict order few small) in
      sym (sheet_by_length sheet (omega (arith, sheet_length order_verdict order)) refl refl) ∙ eq-eqb (length sheet) (sheet_header + 2 * listed_field sheet) (omega (arith, sheet_length order_verdict order))

  pub written_yes : (log : List ℕ) → replayed (read_log log) (sheet_of order_verdict order) ≡ Ok true
      → (records : List Record) × (read_log log ≡ readable records) × Linearization Queue (history_of records) order
  written_yes log e =
      let listed = yes_is_legal log (sheet_of order_verdict order) e in
      (listed.records, listed.reads, rw (sheet_lists order_verdict order few small) at listed.legal)

  pub written_legal : (log : List ℕ) (records : List Record) → read_log log ≡ readable records → Linearization Queue (history_of records) order
      → replayed (read_log log) (sheet_of order_verdict order) ≡ Ok true
  written_legal log records reads l =
      legal_is_yes log (sheet_of order_verdict order) (record { records = records; reads = reads; form = written_form; legal = rw (sheet_lists order_verdict order few small) l })

-- Every legal order of a log fits on a sheet, whoever made it, and replay says yes to it.
pub linearization_replays : (log : List ℕ) (records : List Record) → read_log log ≡ readable records → (order : List ℕ)
    → Linearization Queue (history_of records) order
    → (listed_on (sheet_of order_verdict order) ≡ order) × (replayed (read_log log) (sheet_of order_verdict order) ≡ Ok true)
linearization_replays log records e order l = (sheet_lists order_verdict order short numbers, written_legal order short numbers log records e l)
  where
    few : operations records ≤ max_records
    few = let read : Within (readable records) = rw e at (within log) in omega (arith, few_operations records)

    short : length order < 65536
    short = omega (arith, few, ordering_short l.ordering)

    small : (i : ℕ) → Dec (i < length order) → get_or order i 0 < 65536
    small i (yes b) = omega (arith, few, l.ordering.known i b)
    small i (no b) = rw (get_or-eq_default order 0 {n = i} (omega arith)) (omega arith)

    numbers : (i : ℕ) → get_or order i 0 < 65536
    numbers i = small i (dec_lt i (length order))

-- a refusal is within the same bounds as one of a log
pub replay_within : (log sheet : List ℕ) {r : Refused} → replayed (read_log log) sheet ≡ Err r
    → (1 ≤ r.number) × (r.number ≤ max_refusal) × (r.index ≤ max_records)
replay_within log sheet {r} e = go (read_log log) refl (within log) e
  where
    go : (reading : Reading) → read_log log ≡ reading → Within reading → replayed reading sheet ≡ Err r
        → (1 ≤ r.number) × (r.number ≤ max_refusal) × (r.index ≤ max_records)
    go (readable records) reads w e = let form = refused_is_form log sheet records reads {r = r} (rw reads e) in rw form.1 (lit≤ tt, lit≤ tt, lit≤ tt)
    go (refused refusal i) reads w e = let same : r ≡ told refusal i = cc in rw same w
