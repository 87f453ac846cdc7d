-- Document 02, change 5: "A legal run gives each read the latest written value, or the initial one before any write."
use Rattle.std.specs.Prelude.{ℕ, ◌≡◌, List}
use Rattle.history.specs.History.{History, write, read, initial_read}
use Rattle.history.specs.RunFrom.{RunFrom}

-- what a cell holds
pub data Content : Type 0 where
  initial : Content
  holds : ℕ → Content

-- What operation o makes of a cell. There is no case for a read that has not returned, so it is in no legal order.
pub data Stores (h : History) (o : ℕ) : Content → Content → Type 0 where
  writes : {c : Content} → h.kind o ≡ write → Stores h o c (holds (h.value o))
  reads : {v : ℕ} → h.kind o ≡ read → h.value o ≡ v → Stores h o (holds v) (holds v)
  reads_initial : h.kind o ≡ initial_read → Stores h o initial initial

-- The operations of an order can be run on a cell.
abbrev pub Register : History → List ℕ → Content → Type 0
Register h order c = RunFrom (Stores h) order c
