-- Laws of what operations make of a queue.
use Prim.Native.Nat.{ℕ, ◌≤◌}
use native.Mathlib.Omega.{arith}
use mathlib.Core.Path.{◌≡◌, refl}
use mathlib.Core.List.{List, [], ◌∷◌}
use Rattle.history.specs.History.{History, add, remove, empty_remove, RemovesReturned}
use Rattle.history.specs.Object.{Queue}
use Rattle.history.specs.Linearization.{Makes, puts, takes, meets, Fifo, Moves, makes, takes_front, finds_none, Runnable, placed, Linearization, Kinded, CompleteLinearization}
use Rattle.history.proofs.Running.{run_over, run_each}

-- an operation makes only one thing of a queue
pub makes_one : {h : History} {o : ℕ} {queue left right : List ℕ} → Makes h o queue left → Makes h o queue right → left ≡ right
makes_one (puts a) (puts b) = refl
makes_one (puts a) (takes r e) = absurd (omega arith)
makes_one (puts a) (meets e) = absurd (omega arith)
makes_one (takes r e) (puts a) = absurd (omega arith)
makes_one (takes r e) (takes r' e') = refl
makes_one (meets e) (puts a) = absurd (omega arith)
makes_one (meets e) (meets e') = refl

-- what a queue is that an operation of a kind makes something of
pub makes_remove : {h : History} {o : ℕ} {queue rest : List ℕ} → Makes h o queue rest → h.kind o ≡ remove → queue ≡ h.value o ∷ rest
makes_remove (puts a) k = absurd (omega arith)
makes_remove (takes r v) k = rw v refl
makes_remove (meets e) k = absurd (omega arith)

pub makes_empty : {h : History} {o : ℕ} {queue rest : List ℕ} → Makes h o queue rest → h.kind o ≡ empty_remove → queue ≡ []
makes_empty (puts a) k = absurd (omega arith)
makes_empty (takes r v) k = absurd (omega arith)
makes_empty (meets e) k = refl

pub makes_kind : {h : History} {o : ℕ} {queue rest : List ℕ} → Makes h o queue rest → (add ≤ h.kind o) × (h.kind o ≤ empty_remove)
makes_kind (puts a) = omega arith
makes_kind (takes r v) = omega arith
makes_kind (meets e) = omega arith

-- an operation makes only one thing of a queue, also where it has not returned
pub moves_one : {h : History} {o : ℕ} {queue left right : List ℕ} → Moves h o queue left → Moves h o queue right → left ≡ right
moves_one (makes a) (makes b) = makes_one a b
moves_one (makes a) (takes_front e) = absurd (omega (arith, makes_kind a))
moves_one (makes a) (finds_none e) = absurd (omega (arith, makes_kind a))
moves_one (takes_front e) (makes a) = absurd (omega (arith, makes_kind a))
moves_one (takes_front e) (takes_front f) = refl
moves_one (finds_none e) (makes a) = absurd (omega (arith, makes_kind a))
moves_one (finds_none e) (finds_none f) = refl

pub moves_kind : {h : History} {o : ℕ} {queue rest : List ℕ} → Moves h o queue rest → h.kind o ≤ empty_remove
moves_kind (makes made) = (makes_kind made).1
moves_kind (takes_front e) = omega arith
moves_kind (finds_none e) = omega arith

-- what has a kind does just what it makes
pub moves_kinded : {h : History} {o : ℕ} {queue rest : List ℕ} → Moves h o queue rest → add ≤ h.kind o → Makes h o queue rest
moves_kinded (makes made) k = made
moves_kinded (takes_front e) k = absurd (omega arith)
moves_kinded (finds_none e) k = absurd (omega arith)

-- what can be run without a pending remove can be run, and the other way round
pub fifo_runs : {h : History} {order : List ℕ} → Fifo h order [] → Runnable Queue h order
fifo_runs run = run_over (λ i l queue queue'. makes) run

runs_fifo : {h : History} {order : List ℕ} → Kinded h order → Runnable Queue h order → Fifo h order []
runs_fifo kinded run = run_over (λ i l queue queue' moved. moves_kinded moved (kinded i l)) run

-- An order is complete exactly if it is legal and everything that it lists has a kind.
pub complete_linearization : {h : History} {order : List ℕ} → CompleteLinearization h order → Linearization Queue h order
complete_linearization legal = record { ordering = legal.ordering; runs = fifo_runs legal.runs }

pub complete_kinded : {h : History} {order : List ℕ} → CompleteLinearization h order → Kinded h order
complete_kinded {h} legal = run_each (λ o. add ≤ h.kind o) (λ o queue queue' made. (makes_kind made).0) legal.runs

pub linearization_complete : {h : History} {order : List ℕ} → Kinded h order → Linearization Queue h order → CompleteLinearization h order
linearization_complete kinded legal = record { ordering = legal.ordering; runs = runs_fifo kinded legal.runs }

-- Where no remove is pending, every legal order is complete.
pub returned_complete : {h : History} {order : List ℕ} → RemovesReturned h → Linearization Queue h order → CompleteLinearization h order
returned_complete {order = order} returned legal = linearization_complete (λ i l. returned (placed order i) (legal.ordering.known i l)) legal
