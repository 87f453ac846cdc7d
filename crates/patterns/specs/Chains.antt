-- What the code finds of pattern 6. What the judge answers can be understood without this file.
use Rattle.std.specs.Prelude.{ℕ, ◌+◌, ◌-◌, ◌*◌, ◌≤◌, ◌<◌, ◌≡◌, ◌⊎◌, List, ◌∷◌, length, get_or, take}
use Rattle.reader.specs.Log.{max_records}
use Rattle.history.specs.History.{History, add, empty_remove}
use Rattle.history.specs.Positions.{max_positions}
use Rattle.violations.specs.Violations.{Is, AllCovered, Chain, FalseEmpty}
use Rattle.matching.specs.Returns.{ReturnsNoted}
use Rattle.matching.specs.Reaches.{reach_at, Reaching}

-- how an add ranks: by how far its value reaches, and of several that reach equally far, the lowest add ranks highest
abbrev pub rank_by : List ℕ → ℕ → ℕ
rank_by reach a = reach_at reach a * max_records + (max_records - 1 - a)

-- the table of the ranks of the adds, up to operation n
pub record Ranked (h : History) (reach : List ℕ) (n : ℕ) (rank : List ℕ) : Type 0 where
  pub sized : length rank ≡ max_records
  pub ranks : (a : ℕ) → a < n → h.kind a ≡ add → get_or rank a 0 ≡ rank_by reach a

-- At each position the highest rank of the adds that return there is noted, for the ranks by a right table of reaches.
pub record RanksNoted (h : History) (noted : List ℕ) : Type 0 where
  pub reach : List ℕ
  pub reaching : Reaching h reach
  pub rank : List ℕ
  pub ranked : Ranked h reach h.count rank
  pub returns : ReturnsNoted h rank h.count noted

-- x is the first position from p on at which something is noted, or the end
pub record NextNoted (end : ℕ) (noted : List ℕ) (p x : ℕ) : Type 0 where
  pub from : p ≤ x
  pub within : x ≤ end
  pub none_before : (g : ℕ) → p ≤ g → g < x → get_or noted g 0 ≡ 0
  pub there : (x ≡ end) ⊎ (0 < get_or noted x 0)

-- the table of these positions, from position n on
pub record NextTable (end : ℕ) (noted : List ℕ) (n : ℕ) (next : List ℕ) : Type 0 where
  pub sized : length next ≡ max_positions
  pub nexts : (p : ℕ) → n ≤ p → p < end → NextNoted end noted p (get_or next p 0)

-- The first k numbers of the list are operation e and a chain that covers its gaps; or k is 0, and not all of them are covered.
pub record Chained (h : History) (e k : ℕ) (list : List ℕ) : Type 0 where
  pub sized : length list ≡ max_records
  pub within : k ≤ max_records
  pub uncovered : k ≡ 0 → AllCovered h e → ⊥
  pub chained : 0 < k → (chain : List ℕ) × (take k list ≡ e ∷ chain) × Chain h (h.ret e) (h.call e) chain

-- The first k numbers of the list are the lowest empty remove whose gaps are all covered, and its chain; or k is 0, and there is none.
pub record FirstChained (h : History) (k : ℕ) (list : List ℕ) : Type 0 where
  pub sized : length list ≡ max_records
  pub within : k ≤ max_records
  pub none : k ≡ 0 → (e : ℕ) → Is h empty_remove e → AllCovered h e → ⊥
  pub found : 0 < k → (e : ℕ) × (chain : List ℕ) × (take k list ≡ e ∷ chain) × FalseEmpty h e chain × ((f : ℕ) → f < e → Is h empty_remove f → AllCovered h f → ⊥)
