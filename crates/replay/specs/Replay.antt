-- What replay answers for a log and a sheet. Document 01, "Turned down by what was handed in", 11, and demand 2: replay says yes
-- to a log and an order exactly if that order is legal for that log. A remove that has not returned may stand in it once or be left
-- out (document 02, change 4: legal "in this wider sense, and replay uses it too").
use Rattle.std.specs.Prelude.{ℕ, ◌≡◌, Bool, true, false, List, Result, Ok, if◌then◌else◌}
use Rattle.record.specs.Refusal.{refusing}
use Rattle.record.specs.declared.refusal.Refusal.TheVariants.{WrongSheet}
use Rattle.record.specs.declared.refusal.Refused.{Refused}
use Rattle.record.specs.declared.record.Record.{Record}
use Rattle.reader.specs.Log.{Reading, readable, refused, read_log}
use Rattle.history.specs.Object.{Queue}
use Rattle.history.specs.Linearization.{Linearization}
use Rattle.history.specs.Operations.{history_of}
use Rattle.history.specs.Sheet.{listed_on, is_order_sheet}
use Rattle.history.proofs.Deciding.{linearization?}

-- yes exactly if what is asked holds
abbrev pub says : {P : Type 0} → Dec P → Bool
says (yes p) = true
says (no n) = false

-- Replay of a log, as it was read, and a sheet: the log's refusal, 11, or whether the sheet lists a legal order of the log's history.
abbrev pub replayed : Reading → List ℕ → Result Bool Refused
replayed (refused refusal index) sheet = refusing refusal index
replayed (readable records) sheet =
    if is_order_sheet sheet then Ok (says (linearization? Queue (history_of records) (listed_on sheet))) else refusing WrongSheet 0

-- The log is readable and the sheet lists a legal order of it: what a yes of replay means.
pub record ListsLinearization (log sheet : List ℕ) : Type 0 where
  pub records : List Record
  pub reads : read_log log ≡ readable records
  pub form : is_order_sheet sheet ≡ true
  pub legal : Linearization Queue (history_of records) (listed_on sheet)

-- The log is readable and the sheet lists an order that is not legal for it: what a no means.
pub record ListsOther (log sheet : List ℕ) : Type 0 where
  pub records : List Record
  pub reads : read_log log ≡ readable records
  pub form : is_order_sheet sheet ≡ true
  pub not_legal : Linearization Queue (history_of records) (listed_on sheet) → ⊥
