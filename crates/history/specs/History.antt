-- A history: all that is known of a run above the log. Its operations are numbered from 0 on, and time is positions: numbers
-- that grow with it.
use Rattle.std.specs.Prelude.{ℕ, ◌+◌, ◌≤◌, ◌<◌, ◌≡◌}
use Rattle.history.specs.Object.{Object, Queue, Cell}

-- the kinds of an operation of a queue: an add, a remove that came back with a value, a remove that came back empty
abbrev pub add : ℕ
add = 1

abbrev pub remove : ℕ
remove = 2

abbrev pub empty_remove : ℕ
empty_remove = 3

-- the same kinds of an operation of a cell
abbrev pub write : ℕ
write = add

abbrev pub read : ℕ
read = remove

abbrev pub initial_read : ℕ
initial_read = empty_remove

-- what has no kind: a remove or a read that has not returned, so that nothing is known of what it did
abbrev pub no_kind : ℕ
no_kind = 0

pub record History : Type 0 where
  -- how many operations there are
  pub count : ℕ
  pub kind : ℕ → ℕ
  -- the value that is added or removed, written or read; of an empty remove, and of what has no kind, it means nothing
  pub value : ℕ → ℕ
  -- the positions of the call and of the return; what is pending (document 01: open) returns at the end
  pub call : ℕ → ℕ
  pub ret : ℕ → ℕ
  -- a number above every position
  pub end : ℕ

abbrev pub Returned : History → ℕ → Type 0
Returned h o = h.ret o < h.end

-- Document 02, change 3: "an operation precedes another exactly if its return's tick is lower than the other's call's tick." That is stated of the
-- records of a log by `PrecedesByTicks` in Operations.antt, and here by positions; `precedes_by_ticks` in proofs/Laws.antt says that it is the same.
abbrev pub Precedes : History → ℕ → ℕ → Type 0
Precedes h o p = h.ret o < h.call p

-- What holds of the history of every readable log, for any positions that have the laws of proofs/Positions.antt. Everything above knows time by this
-- and `Precedes` alone, so there are no ticks from here on.
pub record Lawful (h : History) : Type 0 where
  pub kinds : (o : ℕ) → o < h.count → h.kind o ≤ empty_remove
  -- an operation is called before it returns
  pub spans : (o : ℕ) → o < h.count → h.call o < h.ret o
  pub ends : (o : ℕ) → o < h.count → h.ret o ≤ h.end
  -- removes with a value and empty removes have returned, and what has no kind has not
  pub returned : (o : ℕ) → o < h.count → add < h.kind o → Returned h o
  pub unreturned : (o : ℕ) → o < h.count → h.kind o ≡ no_kind → Returned h o → ⊥
  -- no return and call stand at the same position
  pub apart : (o p : ℕ) → o < h.count → p < h.count → h.ret o ≡ h.call p → ⊥
  -- "Operations are numbered from 0 in the order of their call records."
  pub numbered : (o p : ℕ) → o < p → p < h.count → h.call o < h.call p
  -- no value is added twice
  pub once : (a b : ℕ) → a < h.count → b < h.count → h.kind a ≡ add → h.kind b ≡ add → h.value a ≡ h.value b → a ≡ b

-- No remove or read is pending.
abbrev pub RemovesReturned : History → Type 0
RemovesReturned h = (o : ℕ) → o < h.count → add ≤ h.kind o

-- What is asked of a queue's history besides: at most one remove has not returned, and if there is one, no call stands at the
-- last position, so that it could return there, after every call.
pub record Lone (h : History) : Type 0 where
  pub one : (o p : ℕ) → o < h.count → p < h.count → h.kind o ≡ no_kind → h.kind p ≡ no_kind → o ≡ p
  pub spare : (o p : ℕ) → o < h.count → p < h.count → h.kind o ≡ no_kind → h.call p + 1 < h.end

-- What is asked of the history of either object: of a cell nothing, since any number of its reads may be open.
abbrev pub LoneIn : Object → History → Type 0
LoneIn Queue h = Lone h
LoneIn Cell h = Unit {0}
