-- What the code keeps while it runs an order: marks of the operations that it has placed, the latest call among them, and the queue.
-- What replay answers can be understood without this file.
use Rattle.std.specs.Prelude.{ℕ, zero, suc, ◌+◌, ◌≤◌, ◌<◌, ◌≡◌, Bool, true, false, List, [], length, get_or, drop, Option, Some, None, if◌then◌else◌}
use Rattle.std.proofs.Math.Seq.{slice}
use Rattle.reader.specs.Log.{max_records}
use Rattle.history.specs.History.{History, Returned, Precedes}
use Rattle.history.specs.Object.{Queue}
use Rattle.history.specs.RunFrom.{RunFrom}
use Rattle.history.specs.Linearization.{Moves, placed, Linearization}
use Rattle.history.specs.Table.{tabled, return_at}
use Rattle.replay.specs.declared.order.Progress.{Progress}

-- how many of the first marks are set
unfoldable pub total : ℕ → List Bool → ℕ
total zero marks = 0
total (suc n) marks = total n marks + (if get_or marks n false then 1 else 0)

-- Nothing is marked.
pub record Unmarked (marks : List Bool) : Type 0 where
  pub sized : length marks ≡ max_records
  pub none : (o : ℕ) → get_or marks o false ≡ false

-- the values that wait, front first
abbrev pub waiting : Progress → List ℕ → List ℕ
waiting p queue = slice p.head p.tail queue

-- No more values came in than operations are marked.
pub record Room (count : ℕ) (p : Progress) (marks : List Bool) (queue : List ℕ) : Type 0 where
  pub few : count ≤ max_records
  pub marks_sized : length marks ≡ max_records
  pub queue_sized : length queue ≡ max_records
  pub held : p.head ≤ p.tail
  pub room : p.tail ≤ total count marks

-- Operation o is run on the queue, or cannot be.
abbrev pub Served : History → ℕ → Progress → List ℕ → List ℕ → Option Progress → Type 0
Served h o p queue queue' None = (rest : List ℕ) → Moves h o (waiting p queue) rest → ⊥
Served h o p queue queue' (Some q) =
    Moves h o (waiting p queue) (waiting q queue') × (q.latest ≡ p.latest) × (q.head ≤ q.tail) × (q.tail ≤ p.tail + 1)

-- the same for every operation of this kind and value
pub record Serves (kind value : ℕ) (p : Progress) (queue : List ℕ) (step : Option Progress) (queue' : List ℕ) : Type 0 where
  pub sized : length queue' ≡ max_records
  pub served : (h : History) (o : ℕ) → h.kind o ≡ kind → h.value o ≡ value → Served h o p queue queue' step

-- The first i operations of an order are placed.
pub record Kept (h : History) (order : List ℕ) (i : ℕ) (p : Progress) (marks : List Bool) (queue : List ℕ) : Type 0 where
  pub has_room : Room h.count p marks queue
  -- what a legal order asks of them
  pub known : (j : ℕ) → j < i → placed order j < h.count
  pub once : (j k : ℕ) → j < k → k < i → placed order j ≡ placed order k → ⊥
  pub keeps : (j k : ℕ) → j < k → k < i → Precedes h (placed order k) (placed order j) → ⊥
  -- just they are marked
  pub marked : (o : ℕ) → get_or marks o false ≡ true → (j : ℕ) × (j < i) × (placed order j ≡ o)
  pub marks_all : (j : ℕ) → j < i → get_or marks (placed order j) false ≡ true
  -- the latest call among them
  pub above : (j : ℕ) → j < i → h.call (placed order j) ≤ p.latest
  pub met : 0 < p.latest → (j : ℕ) × (j < i) × (h.call (placed order j) ≡ p.latest)
  -- the order can be run exactly if the rest of it can be run from the queue
  pub rest_suffices : RunFrom (Moves h) (drop i order) (waiting p queue) → RunFrom (Moves h) order []
  pub rest_follows : RunFrom (Moves h) order [] → RunFrom (Moves h) (drop i order) (waiting p queue)

-- A step: the next operation of the order is placed, or the order is not legal.
abbrev pub After : History → List ℕ → ℕ → List Bool → List ℕ → Option Progress → Type 0
After h order i marks queue None = Linearization Queue h order → ⊥
After h order i marks queue (Some q) = Kept h order (i + 1) q marks queue

pub record Stepped (h : History) (o : ℕ) (p : Progress) (marks : List Bool) (queue : List ℕ)
    (step : Option Progress) (marks' : List Bool) (queue' : List ℕ) : Type 0 where
  pub after : (order : List ℕ) (i : ℕ) → i < length order → placed order i ≡ o → Kept h order i p marks queue → After h order i marks' queue' step

-- the same for the history in a table, wherever its end is
pub record StepsIn (count : ℕ) (table : List ℕ) (o : ℕ) (p : Progress) (marks : List Bool) (queue : List ℕ)
    (step : Option Progress) (marks' : List Bool) (queue' : List ℕ) : Type 0 where
  pub stepped : (end : ℕ) → Stepped (tabled count end table) o p marks queue step marks' queue'

-- Every operation of the order is placed.
pub record AllPlaced (h : History) (order : List ℕ) (marks : List Bool) : Type 0 where
  pub progress : Progress
  pub queue : List ℕ
  pub kept : Kept h order (length order) progress marks queue

-- all of the order is placed, or the order is not legal
abbrev pub Tried : History → List ℕ → List Bool → Bool → Type 0
Tried h order marks true = AllPlaced h order marks
Tried h order marks false = Linearization Queue h order → ⊥

-- the same for the history in a table, wherever its end is
pub record TriedIn (count : ℕ) (table order : List ℕ) (marks : List Bool) (answer : Bool) : Type 0 where
  pub tried : (end : ℕ) → Tried (tabled count end table) order marks answer

-- An operation is marked if it returns below the end.
abbrev pub ReturnIsMarked : ℕ → List ℕ → List Bool → ℕ → Type 0
ReturnIsMarked end table marks o = return_at table o < end → get_or marks o false ≡ true

-- Every returned operation is marked.
abbrev pub AllMarked : History → List Bool → Type 0
AllMarked h marks = (o : ℕ) → o < h.count → Returned h o → get_or marks o false ≡ true
