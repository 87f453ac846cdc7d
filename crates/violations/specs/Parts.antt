-- Parts of a history, and histories that are alike. Document 01's excerpt and narrowing keep "all records of all operations" on
-- some values, an excerpt one empty remove too, and a cell's excerpt for pattern 10 all initial reads (document 02, change 5): the
-- history of such a log is a part. Where two neighbouring calls or returns "trade places" (demand 3), the histories of the two logs
-- are alike.
use Rattle.std.specs.Prelude.{ℕ, ◌≤◌, ◌<◌, ◌≡◌, ◌↔◌, List, [], ◌∷◌}
use Rattle.history.specs.History.{History, add, empty_remove, Returned, Precedes}

-- o is an operation with a value
pub record HasValue (h : History) (o : ℕ) : Type 0 where
  pub known : o < h.count
  pub valued : (add ≤ h.kind o) × (h.kind o < empty_remove)

-- operation o of a history is operation q of its part
pub record KeptAs (part : History) (to : ℕ → ℕ) (o q : ℕ) : Type 0 where
  pub known : q < part.count
  pub is : to q ≡ o

-- The operations of `part` are some of those of h, in numbers and values of their own: all operations of some values, and any of
-- those without a value (empty removes, initial reads, what has no kind).
pub record Part (h part : History) : Type 0 where
  -- the operation of h that one of the part is
  pub to : ℕ → ℕ
  pub known : (o : ℕ) → o < part.count → to o < h.count
  pub one : (o p : ℕ) → o < part.count → p < part.count → to o ≡ to p → o ≡ p
  -- kind, openness and precedence are kept, and values match one-to-one
  pub kind : (o : ℕ) → o < part.count → h.kind (to o) ≡ part.kind o
  pub returned : (o : ℕ) → o < part.count → Returned h (to o) ↔ Returned part o
  pub precedes : (o p : ℕ) → o < part.count → p < part.count → Precedes h (to o) (to p) ↔ Precedes part o p
  pub value : (o p : ℕ) → HasValue part o → HasValue part p → (h.value (to o) ≡ h.value (to p)) ↔ (part.value o ≡ part.value p)
  -- an operation with the value of a kept one is kept
  pub whole : (o p : ℕ) → HasValue h o → HasValue part p → h.value o ≡ h.value (to p) → (q : ℕ) × KeptAs part to o q

-- an operation of h that is kept
abbrev pub Kept : {h part : History} → Part h part → ℕ → Type 0
Kept {h} {part} p o = (q : ℕ) × KeptAs part p.to o q

-- An order of h without the operations that are not kept, in the numbers of the part.
pub data Filtered {h part : History} (p : Part h part) : List ℕ → List ℕ → Type 0 where
  none : Filtered p [] []
  kept : {o q : ℕ} {order filtered : List ℕ} → KeptAs part p.to o q → Filtered p order filtered → Filtered p (o ∷ order) (q ∷ filtered)
  dropped : {o : ℕ} {order filtered : List ℕ} → (Kept p o → ⊥) → Filtered p order filtered → Filtered p (o ∷ order) filtered

-- Histories are alike if a one-to-one map of their operations keeps kind, openness and precedence, and their values match
-- one-to-one.
pub record Alike (h k : History) : Type 0 where
  pub to : ℕ → ℕ
  pub from : ℕ → ℕ
  pub to_known : (o : ℕ) → o < h.count → to o < k.count
  pub from_known : (o : ℕ) → o < k.count → from o < h.count
  pub back : (o : ℕ) → o < h.count → from (to o) ≡ o
  pub forth : (o : ℕ) → o < k.count → to (from o) ≡ o
  pub kind : (o : ℕ) → o < h.count → k.kind (to o) ≡ h.kind o
  pub returned : (o : ℕ) → o < h.count → Returned k (to o) ↔ Returned h o
  pub precedes : (o p : ℕ) → o < h.count → p < h.count → Precedes k (to o) (to p) ↔ Precedes h o p
  pub value : (o p : ℕ) → HasValue h o → HasValue h p → (k.value (to o) ≡ k.value (to p)) ↔ (h.value o ≡ h.value p)
