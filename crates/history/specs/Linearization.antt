-- Document 01, "Legal orders" (Herlihy and Wing's linearizations), part by part, with document 02: one remove of a queue may be
-- open (change 4), and a cell is run in its own way (change 5, Register.antt).
use Rattle.std.specs.Prelude.{ℕ, ◌≤◌, ◌<◌, ◌≡◌, List, [], ◌∷◌, ◌++◌, length, get_or}
use Rattle.history.specs.Object.{Object, Queue, Cell}
use Rattle.history.specs.History.{History, add, remove, empty_remove, no_kind, Returned, Precedes}
use Rattle.history.specs.RunFrom.{RunFrom}
use Rattle.history.specs.Register.{initial, Register}

-- "each add puts its value at the back, each remove with a value takes that value from the front and each empty remove meets
-- an empty queue": what operation o makes of a queue of values, front first
pub data Makes (h : History) (o : ℕ) : List ℕ → List ℕ → Type 0 where
  puts : {queue : List ℕ} → h.kind o ≡ add → Makes h o queue (queue ++ (h.value o ∷ []))
  takes : {v : ℕ} {queue : List ℕ} → h.kind o ≡ remove → h.value o ≡ v → Makes h o (v ∷ queue) queue
  meets : h.kind o ≡ empty_remove → Makes h o [] []

-- The operations of an order can be run on a queue, none of them a remove that has not returned.
abbrev pub Fifo : History → List ℕ → List ℕ → Type 0
Fifo h order queue = RunFrom (Makes h) order queue

-- The same with a remove that has not returned, of which change 4 says: "where it stands, it takes the front value if there
-- is one and otherwise changes nothing."
pub data Moves (h : History) (o : ℕ) : List ℕ → List ℕ → Type 0 where
  makes : {queue queue' : List ℕ} → Makes h o queue queue' → Moves h o queue queue'
  takes_front : {v : ℕ} {queue : List ℕ} → h.kind o ≡ no_kind → Moves h o (v ∷ queue) queue
  finds_none : h.kind o ≡ no_kind → Moves h o [] []

-- An order can be run from the start: "from an empty queue", or from a cell that nothing has been written to.
abbrev pub Runnable : Object → History → List ℕ → Type 0
Runnable Queue h order = RunFrom (Moves h) order []
Runnable Cell h order = Register h order initial

-- the operation at a place of an order
abbrev pub placed : List ℕ → ℕ → ℕ
placed order i = get_or order i 0

-- where an operation stands in an order
pub record Listed (order : List ℕ) (o : ℕ) : Type 0 where
  pub at : ℕ
  pub below : at < length order
  pub here : placed order at ≡ o

-- What is asked of a legal order whatever is benched.
pub record Ordering (h : History) (order : List ℕ) : Type 0 where
  -- "it lists every returned operation exactly once, each open add at most once and nothing else" (of a queue also an open
  -- remove, at most once: "It may stand in an order once or be left out", change 4)
  pub known : (i : ℕ) → i < length order → placed order i < h.count
  pub every : (o : ℕ) → o < h.count → Returned h o → Listed order o
  pub once : (i j : ℕ) → i < j → j < length order → placed order i ≡ placed order j → ⊥
  -- "no operation comes before one that precedes it"
  pub keeps : (i j : ℕ) → i < j → j < length order → Precedes h (placed order j) (placed order i) → ⊥

-- A legal order of a history.
pub record Linearization (object : Object) (h : History) (order : List ℕ) : Type 0 where
  pub ordering : Ordering h order
  pub runs : Runnable object h order

-- Everything that an order lists has a kind: it leaves out what has not returned, but for adds and writes.
abbrev pub Kinded : History → List ℕ → Type 0
Kinded h order = (i : ℕ) → i < length order → add ≤ h.kind (placed order i)

-- A legal order of a queue's history that leaves out a remove that has not returned: Herlihy and Wing's linearization of a
-- completion of the history. It is a legal order in which everything has a kind, and the other way round (proofs/Queues.antt).
pub record CompleteLinearization (h : History) (order : List ℕ) : Type 0 where
  pub ordering : Ordering h order
  pub runs : Fifo h order []
