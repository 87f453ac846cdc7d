-- How an order is searched for, whatever is benched: operations are placed one after the other, and of those that may be placed
-- always the lowest. When an operation may be placed is said for a queue in Found.antt and for a cell in CellSearch.antt. What a
-- legal order and a verdict are can be understood without this file; it says which of the legal orders is listed.
use Rattle.std.specs.Prelude.{ℕ, ◌≤◌, ◌<◌, ◌≡◌, ◌⊎◌, List, [], ◌∷◌, ◌++◌, length}
use Rattle.history.specs.History.{History, add, Returned, Precedes}
use Rattle.history.specs.Linearization.{placed, Listed}
use Rattle.violations.specs.Violations.{Removed}

-- an operation that the judge lists: it has a kind, and it has returned or its value was removed (of a cell: read)
pub record Due (h : History) (o : ℕ) : Type 0 where
  pub known : o < h.count
  pub kinded : add ≤ h.kind o
  pub listed : Returned h o ⊎ Removed h o

-- one that is left to be placed
pub record Left (h : History) (order : List ℕ) (o : ℕ) : Type 0 where
  pub due : Due h o
  pub unplaced : Listed order o → ⊥

-- Nothing that is left precedes it.
pub record Enabled (h : History) (order : List ℕ) (o : ℕ) : Type 0 where
  pub left : Left h order o
  pub first : (p : ℕ) → Left h order p → h.call o < h.ret p

-- An operation that may be placed next. `Serves order o s s'` says that o may be placed after the operations of `order`, as
-- far as the queue or the cell is concerned, and makes s' of its state s.
pub record Placeable {S : Type 0} (h : History) (Serves : List ℕ → ℕ → S → S → Type 0)
    (order : List ℕ) (s : S) (o : ℕ) (s' : S) : Type 0 where
  pub enabled : Enabled h order o
  pub serves : Serves order o s s'

-- How the search goes on after an order, from a state: of the operations that may be placed the lowest is placed, until
-- nothing is left.
pub data Continues {S : Type 0} (h : History) (Serves : List ℕ → ℕ → S → S → Type 0) : List ℕ → S → List ℕ → Type 0 where
  ends : {order : List ℕ} {s : S} → ((o : ℕ) → Left h order o → ⊥) → Continues h Serves order s []
  places : {order more : List ℕ} {s s' : S} {o : ℕ}
      → Placeable h Serves order s o s'
      → ((p : ℕ) (other : S) → p < o → Placeable h Serves order s p other → ⊥)
      → Continues h Serves (order ++ (o ∷ [])) s' more
      → Continues h Serves order s (o ∷ more)

-- What is placed so far is the beginning of an order as the judge lists it. (This is for the theory of the search alone.)
pub record Begun (h : History) (order : List ℕ) : Type 0 where
  -- what is placed is to be listed, each operation once
  pub due : (i : ℕ) → i < length order → Due h (placed order i)
  pub once : (i j : ℕ) → i < j → j < length order → placed order i ≡ placed order j → ⊥
  -- nothing placed comes before what precedes it, whether that is placed or left
  pub keeps : (i j : ℕ) → i < j → j < length order → Precedes h (placed order j) (placed order i) → ⊥
  pub ahead : (i p : ℕ) → i < length order → Left h order p → Precedes h p (placed order i) → ⊥
