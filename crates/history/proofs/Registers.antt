-- Laws of what operations make of a cell.
use Prim.Native.Nat.{ℕ, ◌≤◌}
use native.Mathlib.Omega.{arith}
use mathlib.Core.Path.{◌≡◌, refl}
use mathlib.Core.List.{List}
use Rattle.history.specs.History.{History, add}
use Rattle.history.specs.Register.{Content, Stores, writes, reads, reads_initial, Register}
use Rattle.history.specs.Linearization.{Kinded}
use Rattle.history.proofs.Running.{run_each}

-- an operation makes only one thing of a cell
pub stores_one : {h : History} {o : ℕ} {c left right : Content} → Stores h o c left → Stores h o c right → left ≡ right
stores_one (writes a) (writes b) = refl
stores_one (writes a) (reads r e) = absurd (omega arith)
stores_one (writes a) (reads_initial e) = absurd (omega arith)
stores_one (reads r e) (writes a) = absurd (omega arith)
stores_one (reads r e) (reads r' e') = refl
stores_one (reads_initial e) (writes a) = absurd (omega arith)
stores_one (reads_initial e) (reads_initial e') = refl

-- what can be run on a cell has a kind
pub register_kinded : {h : History} {order : List ℕ} {c : Content} → Register h order c → Kinded h order
register_kinded {h} run = run_each (λ o. add ≤ h.kind o) (λ o c c' stored. kinded stored) run
  where
    kinded : {o : ℕ} {c c' : Content} → Stores h o c c' → add ≤ h.kind o
    kinded (writes a) = omega arith
    kinded (reads r e) = omega arith
    kinded (reads_initial e) = omega arith
