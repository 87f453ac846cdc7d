-- Laws of the operations on a value of a cell.
use Prim.Native.Nat.{ℕ, ◌≤◌, ◌<◌}
use native.Mathlib.Omega.{arith}
use native.Mathlib.Decide.{ℕ_discrete}
use mathlib.Core.Path.{◌≡◌, refl}
use mathlib.Core.Logic.{◌⊎◌, inl, inr}
use Rattle.history.specs.History.{History, add, empty_remove, write, read, initial_read, Lawful}
use Rattle.violations.specs.Operation.{Is}
use Rattle.violations.specs.Cells.{On, Written}
use Rattle.violations.specs.Parts.{HasValue}
use Rattle.violations.specs.Greedy.{Due}

-- a write and a read are on their values
pub write_on : {h : History} {w : ℕ} → Is h write w → On h (h.value w) w
write_on is = record { known = is.known; kinds = inl is.kinds; is = refl }

pub read_on : {h : History} {v r : ℕ} → Is h read r → h.value r ≡ v → On h v r
read_on is same = record { known = is.known; kinds = inr is.kinds; is = same }

pub written_on : {h : History} {v : ℕ} (w : Written h v) → On h v w.by
written_on w = record { known = w.writes.known; kinds = inl w.writes.kinds; is = w.is }

-- what is to be listed and no initial read is on its value
pub due_on : {h : History} → Lawful h → {o : ℕ} → Due h o → (h.kind o ≡ initial_read → ⊥) → On h (h.value o) o
due_on {h} lawful {o} due n = record { known = due.known; kinds = go (ℕ_discrete (h.kind o) write); is = refl }
  where
    go : Dec (h.kind o ≡ write) → (h.kind o ≡ write) ⊎ (h.kind o ≡ read)
    go (yes k) = inl k
    go (no k) = inr (omega (arith, lawful.kinds o due.known, due.kinded))

-- what is on a value has it, and is of a kind
pub on_kinded : {h : History} {v o : ℕ} → On h v o → (add ≤ h.kind o) × (h.kind o < empty_remove)
on_kinded {h} {v} {o} on = go on.kinds
  where
    go : (h.kind o ≡ write) ⊎ (h.kind o ≡ read) → (add ≤ h.kind o) × (h.kind o < empty_remove)
    go (inl k) = omega arith
    go (inr k) = omega arith

pub on_valued : {h : History} {v o : ℕ} → On h v o → HasValue h o
on_valued on = record { known = on.known; valued = on_kinded on }
