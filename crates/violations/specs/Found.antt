-- Which of the legal orders of a queue's history is listed. Document 01 leaves the choice to the program; here the history alone
-- decides it: it is the order that the search of Greedy.antt finds. `reach` and `gap` tell where the value of an add stops
-- covering, and a gap of an empty remove.
use Rattle.std.specs.Prelude.{ℕ, ◌≤◌, ◌<◌, ◌≡◌, List, [], ◌∷◌, ◌++◌}
use Rattle.history.specs.History.{History, add, empty_remove}
use Rattle.history.specs.Object.{Queue}
use Rattle.violations.specs.Violations.{Is, RemoveOf, Gap, Reaches, Covered}
use Rattle.violations.specs.Fates.{Settled}
use Rattle.violations.specs.Verdict.{JudgedLinearization}
use Rattle.violations.specs.Greedy.{Left, Continues}

-- An add may enter the queue: its remove is called before the remove of any add that is left returns, and no later than the
-- gap of each empty remove that is left.
pub record Safe (h : History) (reach gap : ℕ → ℕ) (order : List ℕ) (a : ℕ) : Type 0 where
  pub removes : (b r : ℕ) → Is h add b → Left h order b → RemoveOf h b r → reach a < h.ret r
  pub empties : (e : ℕ) → Is h empty_remove e → Left h order e → reach a ≤ gap e

-- what placing an operation makes of the queue
pub data Serves (h : History) (reach gap : ℕ → ℕ) (order : List ℕ) (o : ℕ) : List ℕ → List ℕ → Type 0 where
  enqueues : {queue : List ℕ} → h.kind o ≡ add → Safe h reach gap order o → Serves h reach gap order o queue (queue ++ (o ∷ []))
  dequeues : {a : ℕ} {queue : List ℕ} → RemoveOf h a o → Serves h reach gap order o (a ∷ queue) queue
  meets_empty : h.kind o ≡ empty_remove → Serves h reach gap order o [] []

-- The last gap of an empty remove that no value covers.
pub record LastGap (h : History) (e g : ℕ) : Type 0 where
  pub lies : Gap h e g
  pub uncovered : Covered h g → ⊥
  pub last : (later : ℕ) → g < later → Gap h e later → Covered h later

-- The order that the search finds.
pub record Found (h : History) (order : List ℕ) : Type 0 where
  pub reach : ℕ → ℕ
  pub gap : ℕ → ℕ
  pub reaches : (a : ℕ) → Is h add a → Reaches h a (reach a)
  pub gaps : (e : ℕ) → Is h empty_remove e → LastGap h e (gap e)
  pub continues : Continues h (Serves h reach gap) [] [] order

-- The order that is listed where a remove may have not returned: what becomes of it is settled first, and then the search finds the order.
pub record FoundSettled (h : History) (order : List ℕ) : Type 0 where
  pub settled : History
  pub settles : Settled Queue h settled
  pub judged : JudgedLinearization Queue settled order
  pub found : Found settled order
