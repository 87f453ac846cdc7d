-- What is decided for the history in the code's table. What the judge answers can be understood without this file.
use Rattle.std.specs.Prelude.{ℕ, ◌≤◌, ◌≡◌, List, length, take, Option, Some, None}
use Rattle.reader.specs.Log.{max_records}
use Rattle.history.specs.Object.{Queue}
use Rattle.history.specs.History.{History}
use Rattle.history.specs.Sheet.{order_verdict}
use Rattle.violations.specs.Verdict.{FirstViolation, CompleteVerdict, Verdict}
use Rattle.violations.specs.Found.{Found, FoundSettled}
use Rattle.patterns.specs.Pattern.{number_of}
use Rattle.judge.specs.declared.decide.Judged.{Judged}
use Rattle.judge.specs.declared.decide.Judged.TheVariants as judged
use Rattle.judge.specs.declared.decide.Decision.{Decision}
use Rattle.judge.specs.declared.decide.Decision.TheVariants.{LeftOut, Taking, Pattern}

-- the verdict byte, and how many operations are listed
abbrev pub byte_in : Judged → ℕ
byte_in (judged.Order k) = order_verdict
byte_in (judged.Pattern found) = number_of found.pattern

abbrev pub count_in : Judged → ℕ
count_in (judged.Order k) = k
count_in (judged.Pattern found) = found.listed

-- The first k numbers of the list are the operations that the verdict on the history as it stands lists: a remove without return is left out. An order
-- is the one that the search finds.
pub record CompleteDecided (h : History) (byte k : ℕ) (list : List ℕ) : Type 0 where
  pub sized : length list ≡ max_records
  pub within : k ≤ max_records
  pub verdict : CompleteVerdict Queue h byte (take k list)
  pub chosen : byte ≡ order_verdict → Found h (take k list)

-- The same for the verdict, where the fates of a remove without return are tried.
pub record Decided (h : History) (byte k : ℕ) (list : List ℕ) : Type 0 where
  pub sized : length list ≡ max_records
  pub within : k ≤ max_records
  pub verdict : Verdict Queue h byte (take k list)
  pub chosen : byte ≡ order_verdict → FoundSettled h (take k list)

-- Where a pattern occurs with the remove left out, its fates are tried: an order is found, and its operations are the first k numbers of the list; or the
-- pattern stands.
abbrev pub Outcome : History → ℕ → List ℕ → Option ℕ → List ℕ → Type 0
Outcome h number listed (Some k) order = Decided h order_verdict k order
Outcome h number listed None order = Verdict Queue h number listed

pub record FateTried (h : History) (tried : Option ℕ) (order : List ℕ) : Type 0 where
  pub outcome : {number : ℕ} {listed : List ℕ} → FirstViolation Queue h number listed → Outcome h number listed tried order

-- It is decided, and the operations stand in the list that the decision names.
abbrev pub DecidedBy : History → Decision → List ℕ → List ℕ → Type 0
DecidedBy h (LeftOut k) list order = Decided h order_verdict k list
DecidedBy h (Taking k) list order = Decided h order_verdict k order
DecidedBy h (Pattern found) list order = Decided h (number_of found.pattern) found.listed list
