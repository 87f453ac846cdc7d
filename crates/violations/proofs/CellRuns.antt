-- In a run of a cell a read finds the value of the latest write before it, and an initial read comes before every write.
use Prim.Native.Nat.{ℕ, zero, suc, ◌≤◌, ◌<◌}
use native.Mathlib.Omega.{arith}
use mathlib.Core.Path.{◌≡◌, sym, ap}
use mathlib.Core.List.{List, ◌∷◌}
use lib.ListN.{length}
use Rattle.history.specs.History.{History, write, read, initial_read}
use Rattle.history.specs.RunFrom.{done, then}
use Rattle.history.specs.Register.{Content, initial, holds, Stores, writes, reads, reads_initial, Register}
use Rattle.history.specs.Linearization.{placed}

-- No write stands from a place on up to just before another one.
pub record NoWrite (h : History) (order : List ℕ) (i j : ℕ) : Type 0 where
  pub none : (k : ℕ) → i ≤ k → k < j → h.kind (placed order k) ≡ write → ⊥

no_write_behind : {h : History} {order : List ℕ} {o i j : ℕ} → NoWrite h order i j → NoWrite h (o ∷ order) (suc i) (suc j)
no_write_behind {h} {order} {o} {i} {j} n = record { none = go }
  where
    go : (k : ℕ) → suc i ≤ k → k < suc j → h.kind (placed (o ∷ order) k) ≡ write → ⊥
    go zero l m w = omega arith
    go (suc k) l m w = n.none k (omega arith) (omega arith) w

no_write_first : {h : History} {order : List ℕ} {o j : ℕ} → (h.kind o ≡ write → ⊥) → NoWrite h order 0 j → NoWrite h (o ∷ order) 0 (suc j)
no_write_first {h} {order} {o} {j} first n = record { none = go }
  where
    go : (k : ℕ) → 0 ≤ k → k < suc j → h.kind (placed (o ∷ order) k) ≡ write → ⊥
    go zero l m w = first w
    go (suc k) l m w = n.none k (omega arith) (omega arith) w

-- Where the value that is read at a place comes from: from a write before it, with none between, or it was there at the start.
pub data Source (h : History) (order : List ℕ) (c : Content) (j : ℕ) : Type 0 where
  written : (i : ℕ) → i < j → h.kind (placed order i) ≡ write → h.value (placed order i) ≡ h.value (placed order j)
      → NoWrite h order (suc i) j → Source h order c j
  held : c ≡ holds (h.value (placed order j)) → NoWrite h order 0 j → Source h order c j

source_first : {h : History} {order : List ℕ} {o : ℕ} {c c' : Content} → Stores h o c c' → h.kind o ≡ read → Source h (o ∷ order) c 0
source_first (writes e) k = absurd (omega arith)
source_first (reads e v) k = held (ap holds (sym v)) (record { none = λ x l m. absurd (omega arith) })
source_first (reads_initial e) k = absurd (omega arith)

source_behind : {h : History} {order : List ℕ} {o j : ℕ} {c c' : Content} → Stores h o c c' → Source h order c' j → Source h (o ∷ order) c (suc j)
source_behind s (written i l k v n) = written (suc i) (omega arith) k v (no_write_behind n)
source_behind {h} {order} {o} {j} (writes e) (held q n) =
    let same : h.value o ≡ h.value (placed order j) = cc in
    written 0 (omega arith) e same (no_write_behind n)
source_behind (reads e v) (held q n) = held q (no_write_first (λ w. omega arith) n)
source_behind (reads_initial e) (held q n) = held q (no_write_first (λ w. omega arith) n)

pub source : {h : History} {order : List ℕ} {c : Content} → Register h order c → (j : ℕ) → j < length order → h.kind (placed order j) ≡ read
    → Source h order c j
source done j l k = absurd (omega arith)
source (then s run) zero l k = source_first s k
source (then s run) (suc j) l k = source_behind s (source run j (omega arith) k)

-- 1 if nothing has been written to the cell, otherwise 0; so the two contents differ
abbrev pub untouched : Content → ℕ
untouched initial = 1
untouched (holds v) = 0

pub initial_apart : {v : ℕ} → initial ≡ holds v → ⊥
initial_apart e = let z : ◌≡◌ {A = ℕ} 1 0 = ap untouched e in omega arith

-- once a value is written, no initial read follows
never_again : {h : History} {order : List ℕ} {c : Content} → Register h order c → untouched c ≡ 0 → (j : ℕ) → j < length order
    → h.kind (placed order j) ≡ initial_read → ⊥
never_again done u j l k = omega arith
never_again (then (writes e) run) u zero l k = omega arith
never_again (then (reads e v) run) u zero l k = omega arith
never_again (then (reads_initial e) run) u zero l k = omega arith
never_again (then (writes e) run) u (suc j) l k = never_again run (omega arith) j (omega arith) k
never_again (then (reads e v) run) u (suc j) l k = never_again run u j (omega arith) k
never_again (then (reads_initial e) run) u (suc j) l k = omega arith

pub initial_first : {h : History} {order : List ℕ} {c : Content} → Register h order c → (j : ℕ) → j < length order
    → h.kind (placed order j) ≡ initial_read → NoWrite h order 0 j
initial_first done j l k = absurd (omega arith)
initial_first (then s run) zero l k = record { none = λ x m n. absurd (omega arith) }
initial_first (then (writes e) run) (suc j) l k = absurd (never_again run (omega arith) j (omega arith) k)
initial_first (then (reads e v) run) (suc j) l k = no_write_first (λ w. omega arith) (initial_first run j (omega arith) k)
initial_first (then (reads_initial e) run) (suc j) l k = no_write_first (λ w. omega arith) (initial_first run j (omega arith) k)
