-- Document 01, "The six patterns" of a queue: a record for each row of its table, in the table's order. The operations that a record
-- is about stand in the order in which the table lists them. The four patterns of a cell are in Cells.antt.
use Rattle.std.specs.Prelude.{ℕ, ◌≤◌, ◌<◌, ◌≡◌, ◌⊎◌, List, [], ◌∷◌}
use Rattle.history.specs.History.{History, add, remove, empty_remove, Precedes}
use Rattle.history.specs.Object.{Object, Queue, Cell}
pub use Rattle.violations.specs.Operation.{Is}
use Rattle.violations.specs.Cells.{Unwritten, Premature, Crossed, Stale}

-- r is a remove of the value of a (that a is an add is said apart)
pub record RemoveOf (h : History) (a r : ℕ) : Type 0 where
  pub removes : Is h remove r
  pub same : h.value r ≡ h.value a

-- the value of a is removed
abbrev pub Removed : History → ℕ → Type 0
Removed h a = (r : ℕ) × RemoveOf h a r

-- 1. "Unknown: a remove whose value no add of the log names. Lists the remove."
pub record Unknown (h : History) (r : ℕ) : Type 0 where
  pub removes : Is h remove r
  pub unnamed : (a : ℕ) → Is h add a → RemoveOf h a r → ⊥

-- 2. "Twice: two removes of one value. Lists both, lower number first."
pub record Twice (h : History) (r s : ℕ) : Type 0 where
  pub first : Is h remove r
  pub second : Is h remove s
  pub lower : r < s
  pub same : h.value r ≡ h.value s

-- 3. "Early: a remove that precedes the add of its value. Lists remove, add." The add may be open.
pub record Early (h : History) (r a : ℕ) : Type 0 where
  pub adds : Is h add a
  pub removes : RemoveOf h a r
  pub before : Precedes h r a

-- 4. "Stuck: add a precedes add b, b is removed, a never is. Lists add a, add b, remove b." Add b may be open.
pub record Stuck (h : History) (a b r : ℕ) : Type 0 where
  pub first : Is h add a
  pub second : Is h add b
  pub before : Precedes h a b
  pub removes : RemoveOf h b r
  pub never : Removed h a → ⊥

-- 5. "Overtaken: add a precedes add b, and remove b precedes remove a. Lists add a, add b, remove b, remove a." Add b may be
-- open.
pub record Overtaken (h : History) (a b r s : ℕ) : Type 0 where
  pub first : Is h add a
  pub second : Is h add b
  pub added_before : Precedes h a b
  pub removes : RemoveOf h b r
  pub removes_late : RemoveOf h a s
  pub overtakes : Precedes h r s

-- 6. "A gap lies between two neighbouring records; the remove's gaps run from its call to its return." Gap g lies just
-- behind the record at position g.
pub record Gap (h : History) (e g : ℕ) : Type 0 where
  pub from : h.call e ≤ g
  pub until : g < h.ret e

-- "A value covers the gaps from its add's return to its remove's call, or to the end if it is never removed": where the
-- value of add a stops covering. (A value that is removed twice stops at either call; then pattern 2 occurs, and 6 is not
-- reported.)
pub data Reaches (h : History) (a reach : ℕ) : Type 0 where
  removed : (r : ℕ) → RemoveOf h a r → h.call r ≡ reach → Reaches h a reach
  never : (Removed h a → ⊥) → h.end ≡ reach → Reaches h a reach

-- the value of add a, which stops covering at `reach`, covers gap g (an open add returns at the end, so its value covers no gap)
pub record Covers (h : History) (a reach g : ℕ) : Type 0 where
  pub adds : Is h add a
  pub reaches : Reaches h a reach
  pub from : h.ret a ≤ g
  pub until : g < reach

-- some value covers the gap
abbrev pub Covered : History → ℕ → Type 0
Covered h g = (a : ℕ) × (reach : ℕ) × Covers h a reach g

-- all gaps of an empty remove are covered
abbrev pub AllCovered : History → ℕ → Type 0
AllCovered h e = (g : ℕ) → Gap h e g → Covered h g

-- "the value covering the first gap that reaches furthest": as far as it truly reaches, also behind the return of the empty
-- remove. "Never removed reaches furthest", since the end is above every call; "among several of those, the lowest add". (No
-- two calls are at one position, so other values do not reach equally far.)
pub record Furthest (h : History) (a reach g : ℕ) : Type 0 where
  pub covers : Covers h a reach g
  pub furthest : (b far : ℕ) → Covers h b far g → (far < reach) ⊎ ((far ≡ reach) × (a ≤ b))

-- "the adds of a chain: the value covering the first gap that reaches furthest, then the same for the first gap beyond it,
-- until all are covered", for the gaps from g up to a return
pub data Chain (h : History) (return : ℕ) : ℕ → List ℕ → Type 0 where
  all : {g : ℕ} → return ≤ g → Chain h return g []
  link : {g a reach : ℕ} {chain : List ℕ} → g < return → Furthest h a reach g → Chain h return reach chain → Chain h return g (a ∷ chain)

-- "False empty: an empty remove, every gap of which is covered. Lists the empty remove, then the adds of a chain"
pub record FalseEmpty (h : History) (e : ℕ) (chain : List ℕ) : Type 0 where
  pub empties : Is h empty_remove e
  pub covered : AllCovered h e
  pub chained : Chain h (h.ret e) (h.call e) chain

-- A pattern occurs, by its number, with the operations that it lists.
pub data Occurs : Object → History → ℕ → List ℕ → Type 0 where
  unknown : {h : History} {r : ℕ} → Unknown h r → Occurs Queue h 1 (r ∷ [])
  twice : {h : History} {r s : ℕ} → Twice h r s → Occurs Queue h 2 (r ∷ s ∷ [])
  early : {h : History} {r a : ℕ} → Early h r a → Occurs Queue h 3 (r ∷ a ∷ [])
  stuck : {h : History} {a b r : ℕ} → Stuck h a b r → Occurs Queue h 4 (a ∷ b ∷ r ∷ [])
  overtaken : {h : History} {a b r s : ℕ} → Overtaken h a b r s → Occurs Queue h 5 (a ∷ b ∷ r ∷ s ∷ [])
  false_empty : {h : History} {e : ℕ} {chain : List ℕ} → FalseEmpty h e chain → Occurs Queue h 6 (e ∷ chain)
  unwritten : {h : History} {r : ℕ} → Unwritten h r → Occurs Cell h 7 (r ∷ [])
  premature : {h : History} {r w : ℕ} → Premature h r w → Occurs Cell h 8 (r ∷ w ∷ [])
  crossed : {h : History} {o p q r : ℕ} → Crossed h o p q r → Occurs Cell h 9 (o ∷ p ∷ q ∷ r ∷ [])
  stale : {h : History} {o i : ℕ} → Stale h o i → Occurs Cell h 10 (o ∷ i ∷ [])

-- No pattern occurs.
abbrev pub NoViolation : Object → History → Type 0
NoViolation object h = (n : ℕ) (listed : List ℕ) → Occurs object h n listed → ⊥
