-- What the sheet says of a history: an order, or the first pattern.
use Rattle.std.specs.Prelude.{ℕ, ◌<◌, ◌≡◌, ◌↔◌, List, [], ◌∷◌}
use Rattle.history.specs.History.{History, add, Returned}
use Rattle.history.specs.Object.{Object}
use Rattle.history.specs.Linearization.{Listed, Linearization, Kinded}
use Rattle.history.specs.Sheet.{order_verdict}
use Rattle.violations.specs.Violations.{Is, Removed, Occurs}
use Rattle.violations.specs.Fates.{NoneSucceeds, Settled}

-- one list is lower than another, "compared left to right"
pub data Lower : List ℕ → List ℕ → Type 0 where
  ends : {y : ℕ} {ys : List ℕ} → Lower [] (y ∷ ys)
  here : {x y : ℕ} {xs ys : List ℕ} → x < y → Lower (x ∷ xs) (y ∷ ys)
  further : {x y : ℕ} {xs ys : List ℕ} → x ≡ y → Lower xs ys → Lower (x ∷ xs) (y ∷ ys)

-- "The lowest number that occurs is reported. Among its occurrences the lowest list of operation numbers is taken."
pub record FirstViolation (object : Object) (h : History) (number : ℕ) (listed : List ℕ) : Type 0 where
  pub occurs : Occurs object h number listed
  pub lowest_number : (n : ℕ) (other : List ℕ) → n < number → Occurs object h n other → ⊥
  pub lowest_list : (other : List ℕ) → Occurs object h number other → Lower other listed → ⊥

-- a first pattern, whatever its number and list
abbrev pub SomeViolation : Object → History → Type 0
SomeViolation object h = (number : ℕ) × (listed : List ℕ) × FirstViolation object h number listed

-- A legal order as the judge lists it: "The judge lists an open add exactly if its value was removed", and "an open write ..
-- exactly if its value was read" (change 5). Everything else that has not returned is left out.
pub record JudgedLinearization (object : Object) (h : History) (order : List ℕ) : Type 0 where
  pub legal : Linearization object h order
  pub pending : (a : ℕ) → Is h add a → (Returned h a → ⊥) → Listed order a ↔ Removed h a
  pub complete : Kinded h order

-- Change 11: "of all legal orders over the operations it has to list, the one whose list is smallest compared left to right".
pub record LowestLinearization (object : Object) (h : History) (order : List ℕ) : Type 0 where
  pub judged : JudgedLinearization object h order
  pub none_lower : (other : List ℕ) → JudgedLinearization object h other → Lower other order → ⊥

-- The verdict on a history as it stands: what has no kind is left out.
pub data CompleteVerdict (object : Object) (h : History) : ℕ → List ℕ → Type 0 where
  linearization : {listed : List ℕ} → JudgedLinearization object h listed → CompleteVerdict object h order_verdict listed
  violation : {number : ℕ} {listed : List ℕ} → FirstViolation object h number listed → CompleteVerdict object h number listed

-- The verdict: the verdict byte, "0 for an order or the pattern number", and the operations that the sheet lists. A remove of a
-- queue that has not returned is tried left out, then with each fate (Fates.antt). "If none succeeds, the pattern is the one
-- found with it left out." Where there is no such remove, this is the verdict on the history as it stands.
pub data Verdict (object : Object) (h : History) : ℕ → List ℕ → Type 0 where
  linearization : {settled : History} {listed : List ℕ}
      → Settled object h settled → JudgedLinearization object settled listed → Verdict object h order_verdict listed
  violation : {number : ℕ} {listed : List ℕ}
      → FirstViolation object h number listed → NoneSucceeds object h → Verdict object h number listed
