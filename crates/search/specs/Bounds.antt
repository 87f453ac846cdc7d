-- What the code keeps of limits: how far a value that enters the queue may reach while an operation is left. What the judge answers can be
-- understood without this file.
use Rattle.std.specs.Prelude.{ℕ, ◌+◌, ◌-◌, ◌≤◌, ◌<◌, ◌≡◌, List, length, get_or, eqb, if◌then◌else◌}
use Rattle.reader.specs.Log.{max_records}
use Rattle.history.specs.History.{add, empty_remove}
use Rattle.history.specs.Table.{kind_at, return_at}
use Rattle.matching.specs.Answers.{LeastFrom}
use Rattle.matching.specs.Matching.{partner_at}

-- the limit that an operation sets
abbrev pub limit_by : List ℕ → ℕ → List ℕ → List ℕ → ℕ → ℕ
limit_by table end partner gaps o =
    if eqb (kind_at table o) add then (if eqb (partner_at partner o) 0 then end + 1 else return_at table (partner_at partner o - 1)) else
    if eqb (kind_at table o) empty_remove then get_or gaps (return_at table o - 1) 0 else
    (end + 1)

abbrev pub limit_at : List ℕ → ℕ → ℕ
limit_at limit o = get_or limit o 0

pub record LimitTable (count end : ℕ) (table partner gaps limit : List ℕ) : Type 0 where
  pub sized : length limit ≡ max_records
  pub limits : (o : ℕ) → o < count → limit_at limit o ≡ limit_by table end partner gaps o

-- x is the least limit of the operations from n on, the end and 1 if they set none
abbrev pub Least : ℕ → ℕ → List ℕ → ℕ → ℕ → Type 0
Least count end limit n x = LeastFrom (limit_at limit) (end + 1) count n x

-- the table of bounds from operation n on
pub record BoundTable (count end : ℕ) (limit : List ℕ) (n : ℕ) (bound : List ℕ) : Type 0 where
  pub sized : length bound ≡ max_records + 1
  pub least : (o : ℕ) → n ≤ o → o ≤ count → Least count end limit o (get_or bound o 0)
