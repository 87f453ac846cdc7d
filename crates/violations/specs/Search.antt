-- The theory of the search for an order of a queue's history, as code sees it: what holds when operations are placed one after
-- the other on a queue of adds. `reach` and `gap` are tables of the code: where the value of an add stops covering, and a gap of
-- an empty remove. What the judge answers can be understood without this file.
use Rattle.std.specs.Prelude.{ℕ, ◌≤◌, ◌<◌, ◌≡◌, ◌⊎◌, ◌↔◌, List, [], ◌++◌, map, length}
use Rattle.history.specs.History.{History, add, remove, empty_remove, Precedes}
use Rattle.history.specs.Linearization.{Fifo, placed, Listed}
use Rattle.violations.specs.Violations.{Is, RemoveOf, Gap, Reaches, Covered}
use Rattle.violations.specs.Greedy.{Left, Begun}

-- Pattern 2 does not occur: no value is removed twice.
abbrev pub Single : History → Type 0
Single h = (r s : ℕ) → Is h remove r → Is h remove s → h.value r ≡ h.value s → r ≡ s

-- The table `reach` is right, and patterns 1 and 2 do not occur: each remove has its add, and no other remove has its value.
pub record Matched (h : History) (reach : ℕ → ℕ) : Type 0 where
  pub reaches : (a : ℕ) → Is h add a → Reaches h a (reach a)
  pub named : (r : ℕ) → Is h remove r → (a : ℕ) × Is h add a × RemoveOf h a r
  pub single : Single h

-- Patterns 3 to 6 do not occur either, and the table `gap` tells for each empty remove a gap that no value covers.
pub record Sound (h : History) (reach gap : ℕ → ℕ) : Type 0 where
  pub matched : Matched h reach
  -- 3: an add is called before its remove returns
  pub timely : (a r : ℕ) → Is h add a → RemoveOf h a r → h.call a < h.ret r
  -- 4 and 5: the remove of an add that precedes another is called before the other's remove returns
  pub in_turn : (a b r : ℕ) → Is h add a → Is h add b → Precedes h a b → RemoveOf h b r → reach a < h.ret r
  -- 6: each empty remove has a gap that no value covers
  pub gaps : (e : ℕ) → Is h empty_remove e → Gap h e (gap e)
  pub uncovered : (e : ℕ) → Is h empty_remove e → Covered h (gap e) → ⊥

-- The adds that are in the queue when the operations of `order` are placed.
pub record Queued (h : History) (reach gap : ℕ → ℕ) (order queue : List ℕ) : Type 0 where
  -- they are placed, and each is in the queue once
  pub added : (a : ℕ) → Listed queue a → Is h add a × Listed order a
  pub apart : (i j : ℕ) → i < j → j < length queue → placed queue i ≡ placed queue j → ⊥
  -- a remove is left exactly if the add of its value is left or in the queue
  pub served : (a r : ℕ) → Is h add a → RemoveOf h a r → Left h order r ↔ (Left h order a ⊎ Listed queue a)
  -- they block nothing: no remove of an add that is left, no remove of one behind them, no empty remove
  pub before_adds : (i b r : ℕ) → i < length queue → Is h add b → Left h order b → RemoveOf h b r → reach (placed queue i) < h.ret r
  pub before_queued : (i j r : ℕ) → i < j → j < length queue → RemoveOf h (placed queue j) r → reach (placed queue i) < h.ret r
  pub before_empties : (i e : ℕ) → i < length queue → Is h empty_remove e → Left h order e → reach (placed queue i) ≤ gap e

-- How the search stands: the operations of `order` are placed, and the adds of `queue` are in the queue.
pub record Searched (h : History) (reach gap : ℕ → ℕ) (order queue : List ℕ) : Type 0 where
  pub begun : Begun h order
  -- what can be run on the queue can be run after the order
  pub runs : (more : List ℕ) → Fifo h more (map h.value queue) → Fifo h (order ++ more) []
  pub queued : Queued h reach gap order queue
