-- What the code keeps of gaps: for each position the last gap up to there that no value covers. What the judge answers can be understood without
-- this file.
use Rattle.std.specs.Prelude.{ℕ, ◌+◌, ◌-◌, ◌≤◌, ◌<◌, ◌≡◌, List, length, get_or}
use Rattle.history.specs.History.{History, add}
use Rattle.history.specs.Positions.{max_positions}
use Rattle.violations.specs.Violations.{Is}
use Rattle.matching.specs.Returns.{ReturnsNoted}
use Rattle.matching.specs.Reaches.{reach_at}

-- the value of add a covers gap g, as the table of reaches has it
pub record CoversIn (h : History) (reach : List ℕ) (a g : ℕ) : Type 0 where
  pub adds : Is h add a
  pub from : h.ret a ≤ g
  pub until : g < reach_at reach a

-- x is 1 above the last gap up to g that no value covers, or 0 if there is none
pub record LastUncovered (h : History) (reach : List ℕ) (g x : ℕ) : Type 0 where
  pub within : x ≤ g + 1
  pub uncovered : 0 < x → (a : ℕ) → CoversIn h reach a (x - 1) → ⊥
  pub covered : (f : ℕ) → x ≤ f → f ≤ g → (a : ℕ) × CoversIn h reach a f

-- the table of gaps up to position n
pub record Uncovered (h : History) (reach : List ℕ) (n : ℕ) (gaps : List ℕ) : Type 0 where
  pub sized : length gaps ≡ max_positions
  pub lasts : (g : ℕ) → g < n → LastUncovered h reach g (get_or gaps g 0)

-- The sweep turns a table of how far the values noted at each position reach into the table of gaps below, whatever history it is of.
pub record Swept (end : ℕ) (gaps gaps' : List ℕ) : Type 0 where
  pub uncovered : (h : History) (reach : List ℕ) → h.end ≡ end → ReturnsNoted h reach h.count gaps → Uncovered h reach end gaps'
