-- What the code keeps of how far values reach: a table with a number for each add. What the judge answers can be understood without this file.
use Rattle.std.specs.Prelude.{ℕ, ◌-◌, ◌<◌, ◌≡◌, List, length, get_or, eqb, if◌then◌else◌}
use Rattle.reader.specs.Log.{max_records}
use Rattle.history.specs.History.{History, add, no_kind}
use Rattle.history.specs.Table.{call_at}
use Rattle.violations.specs.Violations.{Is, Reaches}
use Rattle.matching.specs.Matching.{partner_at}

-- where the value of an operation stops covering: at the call of its partner, or at the end
abbrev pub reach_by : List ℕ → ℕ → List ℕ → ℕ → ℕ
reach_by table end partner o = if eqb (partner_at partner o) 0 then end else call_at table (partner_at partner o - 1)

abbrev pub reach_at : List ℕ → ℕ → ℕ
reach_at reach o = get_or reach o 0

pub record ReachTable (count end : ℕ) (table partner reach : List ℕ) : Type 0 where
  pub sized : length reach ≡ max_records
  pub reaches : (o : ℕ) → o < count → reach_at reach o ≡ reach_by table end partner o

-- The table of reaches is right.
pub record Reaching (h : History) (reach : List ℕ) : Type 0 where
  pub sized : length reach ≡ max_records
  pub reaches : (a : ℕ) → Is h add a → Reaches h a (reach_at reach a)
  -- no value reaches to two places, since none is removed twice
  pub only : (a far : ℕ) → Is h add a → Reaches h a far → far ≡ reach_at reach a
  -- what has no kind has no value that is removed
  pub idle : (o : ℕ) → Is h no_kind o → reach_at reach o ≡ h.end
