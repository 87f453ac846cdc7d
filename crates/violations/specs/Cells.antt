-- Document 02, change 5, "New patterns": a record for each, in the document's order. The operations that a record is about stand
-- in the order in which the document lists them.
use Rattle.std.specs.Prelude.{ℕ, ◌<◌, ◌≡◌, ◌⊎◌}
use Rattle.history.specs.History.{History, write, read, initial_read, Precedes}
use Rattle.violations.specs.Operation.{Is}

-- o is an operation on this value: a write or a read of it
pub record On (h : History) (value o : ℕ) : Type 0 where
  pub known : o < h.count
  pub kinds : (h.kind o ≡ write) ⊎ (h.kind o ≡ read)
  pub is : h.value o ≡ value

-- the value is written
pub record Written (h : History) (value : ℕ) : Type 0 where
  pub by : ℕ
  pub writes : Is h write by
  pub is : h.value by ≡ value

-- 7. "a read of a value never written (the read)"
pub record Unwritten (h : History) (r : ℕ) : Type 0 where
  pub reads : Is h read r
  pub never : Written h (h.value r) → ⊥

-- 8. "a read preceding the write of its value (read, write)". The write may be open.
pub record Premature (h : History) (r w : ℕ) : Type 0 where
  pub reads : Is h read r
  pub writes : Is h write w
  pub same : h.value r ≡ h.value w
  pub before : Precedes h r w

-- 9. "for two written values, an operation of a precedes one of b, and one of b precedes one of a (those four in that order)".
-- Operations may repeat: o and r may be one, and p and q.
pub record Crossed (h : History) (o p q r : ℕ) : Type 0 where
  pub a : ℕ
  pub b : ℕ
  pub different : a ≡ b → ⊥
  pub a_written : Written h a
  pub b_written : Written h b
  pub first : On h a o
  pub second : On h b p
  pub third : On h b q
  pub fourth : On h a r
  pub forth : Precedes h o p
  pub back : Precedes h q r

-- 10. "an operation on a written value precedes a read of the initial one (both)"
pub record Stale (h : History) (o i : ℕ) : Type 0 where
  pub value : ℕ
  pub written : Written h value
  pub on : On h value o
  pub reads : Is h initial_read i
  pub before : Precedes h o i
