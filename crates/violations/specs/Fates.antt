-- What may become of a remove of a queue that has not returned. Document 02, change 4: "The judge first tries it left out, then as
-- the remove of each value added and not otherwise removed, lowest add first, and lists the first success. If none succeeds, the
-- pattern is the one found with it left out." What has no kind is in no `CompleteLinearization` and in no pattern, so the history
-- as it stands has it left out.
use Rattle.std.specs.Prelude.{ℕ, ◌-◌, ◌<◌, List, eqb, if◌then◌else◌}
use Rattle.history.specs.Object.{Object, Queue, Cell}
use Rattle.history.specs.History.{History, add, remove, no_kind, RemovesReturned}
use Rattle.history.specs.Linearization.{CompleteLinearization}
use Rattle.violations.specs.Violations.{Is, Removed}

-- the history in which remove o comes back with the value of add a. It returns at the last position, after every call.
abbrev pub taking : History → ℕ → ℕ → History
taking h o a = record {
  count = h.count;
  kind = λ p. if eqb p o then remove else h.kind p;
  value = λ p. if eqb p o then h.value a else h.value p;
  call = h.call;
  ret = λ p. if eqb p o then h.end - 1 else h.ret p;
  end = h.end;
}

-- a value that it may have taken: one "added and not otherwise removed"
pub record Free (h : History) (a : ℕ) : Type 0 where
  pub adds : Is h add a
  pub unremoved : Removed h a → ⊥

-- The histories that are tried after the one with it left out. A cell has none: a read that has not returned stands in no order.
pub data Fate : Object → History → History → Type 0 where
  takes_value : {h : History} {o a : ℕ} → Is h no_kind o → Free h a → Fate Queue h (taking h o a)

-- A try succeeds: there is a legal order. (Only queues have tries.)
abbrev pub Succeeds : History → Type 0
Succeeds h = (order : List ℕ) × CompleteLinearization h order

-- No fate succeeds.
abbrev pub NoneSucceeds : Object → History → Type 0
NoneSucceeds object h = (fate : History) → Fate object h fate → Succeeds fate → ⊥

-- The history that is judged, if it has an order, by "the first success": the one with it left out, or the one in which it
-- takes the value of the lowest add with which there is an order.
pub data Settled : Object → History → History → Type 0 where
  left_out : {object : Object} {h : History} → Settled object h h
  took : {h : History} {o a : ℕ} → Is h no_kind o → Free h a → (Succeeds h → ⊥) → ((b : ℕ) → b < a → Free h b → Succeeds (taking h o b) → ⊥)
      → Settled Queue h (taking h o a)

-- Nothing has a fate: what is benched is a cell, or a queue of which no remove is pending.
abbrev pub Unfated : Object → History → Type 0
Unfated Queue h = RemovesReturned h
Unfated Cell h = Unit {0}
