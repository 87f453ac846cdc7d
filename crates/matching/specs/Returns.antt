-- What the code notes of adds at the positions of their returns. What the judge answers can be understood without this file.
use Rattle.std.specs.Prelude.{ℕ, ◌≤◌, ◌<◌, ◌≡◌, List, length, get_or}
use Rattle.history.specs.History.{History, add}
use Rattle.history.specs.Positions.{max_positions}
use Rattle.violations.specs.Violations.{Is}

-- Each operation has a number in a table. x is the highest one of the adds among the first n operations that return at position g; 0 if there is
-- none.
pub record NotedAt (h : History) (number : List ℕ) (n g x : ℕ) : Type 0 where
  pub over : (a : ℕ) → a < n → Is h add a → h.ret a ≡ g → get_or number a 0 ≤ x
  pub met : 0 < x → (a : ℕ) × (a < n) × Is h add a × (h.ret a ≡ g) × (get_or number a 0 ≡ x)

pub record ReturnsNoted (h : History) (number : List ℕ) (n : ℕ) (noted : List ℕ) : Type 0 where
  pub sized : length noted ≡ max_positions
  pub highest : (g : ℕ) → g < h.end → NotedAt h number n g (get_or noted g 0)
