-- What the code finds of the patterns 4 and 5. What the judge answers can be understood without this file.
use Rattle.std.specs.Prelude.{ℕ, ◌-◌, ◌≤◌, ◌<◌, ◌≡◌, List, length, get_or, eqb, if◌then◌else◌}
use Rattle.history.specs.History.{History, add}
use Rattle.history.specs.Positions.{max_positions}
use Rattle.history.specs.Table.{kind_at, call_at, return_at}
use Rattle.matching.specs.Answers.{First, LeastFrom}
use Rattle.matching.specs.Matching.{partner_at}
use Rattle.matching.specs.Reaches.{reach_at}

-- Add a precedes add b, whose remove returns before the value of a stops covering.
pub record Blocks (table partner reach : List ℕ) (a b : ℕ) : Type 0 where
  pub adds : kind_at table b ≡ add
  pub removed : 0 < partner_at partner b
  pub before : return_at table a < call_at table b
  pub early : return_at table (partner_at partner b - 1) < reach_at reach a

-- the pattern that an add shows if it blocks another: 4 if it is never removed, else 5
abbrev pub pattern_by : List ℕ → ℕ → ℕ
pattern_by partner a = if eqb (partner_at partner a) 0 then 4 else 5

-- a is an add that shows this pattern
pub record Blocking (table : List ℕ) (count : ℕ) (partner reach : List ℕ) (pattern a : ℕ) : Type 0 where
  pub adds : kind_at table a ≡ add
  pub is : pattern_by partner a ≡ pattern
  pub some : (b : ℕ) × (b < count) × Blocks table partner reach a b

-- when the remove of the value of add b returns; the end if there is none, or if b is no add
abbrev pub removal_by : History → List ℕ → ℕ → ℕ
removal_by h partner b = if eqb (h.kind b) add then (if eqb (partner_at partner b) 0 then h.end else h.ret (partner_at partner b - 1)) else h.end

-- x is the soonest return of a remove whose add is called from position p on, or the end if there is none. (Operations are numbered in the order
-- of their calls, so those from the first of these on are all that are called from p on.)
pub record Soonest (h : History) (partner : List ℕ) (p x : ℕ) : Type 0 where
  -- the first operation called from there on
  pub from : ℕ
  pub called : First (λ b. p ≤ h.call b) h.count from
  pub least : LeastFrom (removal_by h partner) h.end h.count from x

-- the table of these returns, from position n on
pub record SoonestTable (h : History) (partner : List ℕ) (n : ℕ) (soonest : List ℕ) : Type 0 where
  pub sized : length soonest ≡ max_positions
  pub returns : (p : ℕ) → n ≤ p → p < h.end → Soonest h partner p (get_or soonest p 0)
