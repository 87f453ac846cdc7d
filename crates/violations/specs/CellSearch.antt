-- The theory of the search for an order of a cell's history, as code sees it: when an operation may be placed, and what holds
-- while operations are placed. What the judge answers can be understood without this file.
use Rattle.std.specs.Prelude.{ℕ, ◌<◌, ◌≡◌, ◌⊎◌, List, ◌++◌}
use Rattle.history.specs.History.{History, write, read, initial_read, Precedes}
use Rattle.history.specs.Register.{Content, initial, holds, Register}
use Rattle.history.specs.Linearization.{Listed}
use Rattle.violations.specs.Operation.{Is}
use Rattle.violations.specs.Cells.{On, Written}
use Rattle.violations.specs.Greedy.{Left, Enabled, Begun}

-- the latest write that is placed, if one is
pub data Current : Type 0 where
  nothing : Current
  wrote : ℕ → Current

-- what the cell holds then
abbrev pub content_of : History → Current → Content
content_of h nothing = initial
content_of h (wrote w) = holds (h.value w)

-- o reads what the cell holds
pub data Reads (h : History) (o : ℕ) : Current → Type 0 where
  of_initial : Is h initial_read o → Reads h o nothing
  of_written : {w : ℕ} → Is h read o → h.value o ≡ h.value w → Reads h o (wrote w)

-- No read of what the cell holds is left.
abbrev pub AllRead : History → List ℕ → Current → Type 0
AllRead h order c = (x : ℕ) → Left h order x → Reads h x c → ⊥

-- A write is safe: every operation on its value is called before any operation that is enabled and not on its value returns.
-- So nothing has to come between the write and the reads of its value.
pub record Safe (h : History) (order : List ℕ) (w : ℕ) : Type 0 where
  pub calls : (x y : ℕ) → On h (h.value w) x → Enabled h order y → (On h (h.value w) y → ⊥) → h.call x < h.ret y

-- what placing an operation makes of the latest write
pub data Serves (h : History) (order : List ℕ) (o : ℕ) : Current → Current → Type 0 where
  reads : {c : Current} → Reads h o c → Serves h order o c c
  writes : {c : Current} → Is h write o → AllRead h order c → Safe h order o → Serves h order o c (wrote o)

-- No pattern occurs: 7, 8, 9 and 10, one after the other.
pub record Sound (h : History) : Type 0 where
  pub named : (r : ℕ) → Is h read r → Written h (h.value r)
  pub timely : (r w : ℕ) → Is h read r → Is h write w → h.value r ≡ h.value w → h.call w < h.ret r
  pub uncrossed : (a b o p q r : ℕ) → (a ≡ b → ⊥) → On h a o → On h b p → On h b q → On h a r → Precedes h o p → Precedes h q r → ⊥
  pub fresh : (o i : ℕ) → On h (h.value o) o → Is h initial_read i → Precedes h o i → ⊥

-- How the search stands: the operations of `order` are placed, and the latest write among them is `c`.
pub record Searched (h : History) (order : List ℕ) (c : Current) : Type 0 where
  pub begun : Begun h order
  -- what can be run on the cell can be run after the order, and the other way round
  pub runs : (more : List ℕ) → Register h more (content_of h c) → Register h (order ++ more) initial
  pub follows : (more : List ℕ) → Register h (order ++ more) initial → Register h more (content_of h c)
  -- the latest write is placed
  pub current : (w : ℕ) → c ≡ wrote w → Is h write w × Listed order w
  -- a read that is left has its write left, or reads what the cell holds
  pub served : (r w : ℕ) → Is h read r → Left h order r → Is h write w → h.value r ≡ h.value w → Left h order w ⊎ (c ≡ wrote w)
  -- while an initial read is left, nothing is written
  pub initials : (i : ℕ) → Is h initial_read i → Left h order i → c ≡ nothing
  -- if no pattern occurs, nothing that is left and not on the value that the cell holds precedes a read of it that is left
  pub block : Sound h → (w x y : ℕ) → c ≡ wrote w → Left h order x → Is h read x → h.value x ≡ h.value w → Left h order y
      → (On h (h.value w) y → ⊥) → h.call x < h.ret y
