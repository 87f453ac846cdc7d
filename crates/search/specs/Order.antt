-- What the search for an order finds. What the judge answers can be understood without this file.
use Rattle.std.specs.Prelude.{ℕ, ◌≤◌, ◌≡◌, List, length, take, Option, Some, None}
use Rattle.reader.specs.Log.{max_records}
use Rattle.history.specs.Object.{Queue}
use Rattle.history.specs.History.{History}
use Rattle.violations.specs.Violations.{NoViolation}
use Rattle.violations.specs.Verdict.{JudgedLinearization}
use Rattle.violations.specs.Found.{Found}

-- The first k numbers of the list are a legal order as the judge lists it, the one that the search finds.
pub record OrderListed (h : History) (k : ℕ) (list : List ℕ) : Type 0 where
  pub sized : length list ≡ max_records
  pub within : k ≤ max_records
  pub judged : JudgedLinearization Queue h (take k list)
  pub found : Found h (take k list)

-- An order is found, or some pattern occurs.
abbrev pub Ordered : History → Option ℕ → List ℕ → Type 0
Ordered h (Some k) list = OrderListed h k list
Ordered h None list = (length list ≡ max_records) × (NoViolation Queue h → ⊥)
