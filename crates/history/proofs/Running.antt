-- Laws of runs, whatever is run: on what a run begins with, that it goes over to other steps, and that it is decided.
use Prim.Native.Nat.{ℕ, zero, suc, ◌<◌}
use native.Mathlib.Omega.{arith}
use mathlib.Core.Path.{◌≡◌}
use mathlib.Core.List.{List, [], ◌∷◌}
use lib.ListN.{length}
use Rattle.history.specs.RunFrom.{RunFrom, done, then}
use Rattle.history.specs.Linearization.{placed}

-- a run begins with what its first operation makes of the state
pub run_first : {S : Type 0} {Step : ℕ → S → S → Type 0} {o : ℕ} {order : List ℕ} {s : S} → RunFrom Step (o ∷ order) s
    → (s' : S) × Step o s s' × RunFrom Step order s'
run_first (then {s' = s'} step rest) = (s', step, rest)

-- what holds of every operation that makes a step holds of all that are run
pub run_each : {S : Type 0} {Step : ℕ → S → S → Type 0} (P : ℕ → Type 0) → ((o : ℕ) (s s' : S) → Step o s s' → P o)
    → {order : List ℕ} {s : S} → RunFrom Step order s → (i : ℕ) → i < length order → P (placed order i)
run_each P each done i l = absurd (omega arith)
run_each P each (then {o} {s = s} {s' = s'} step rest) zero l = each o s s' step
run_each P each (then step rest) (suc i) l = run_each P each rest i (omega arith)

-- operations that make steps of one sort can be run by those of another, if their steps go over
pub run_over : {S : Type 0} {Step Other : ℕ → S → S → Type 0} {order : List ℕ} {s : S}
    → ((i : ℕ) → i < length order → (s s' : S) → Step (placed order i) s s' → Other (placed order i) s s') → RunFrom Step order s → RunFrom Other order s
run_over over done = done
run_over over (then {s = s} {s' = s'} step rest) = then (over 0 (omega arith) s s' step) (run_over (λ i l. over (suc i) (omega arith)) rest)

-- whether operations can be run, if it is decided what each makes of a state, and that is one thing only
unfoldable pub run? : {S : Type 0} {Step : ℕ → S → S → Type 0} → ((o : ℕ) (s left right : S) → Step o s left → Step o s right → left ≡ right)
    → ((o : ℕ) (s : S) → Dec ((s' : S) × Step o s s')) → (order : List ℕ) (s : S) → Dec (RunFrom Step order s)
run? one step? [] s = yes done
run? {S} {Step} one step? (o ∷ order) s = go (step? o s) (λ s'. run? one step? order s')
  where
    rest? : {s' : S} → Step o s s' → Dec (RunFrom Step order s') → Dec (RunFrom Step (o ∷ order) s)
    rest? step (yes rest) = yes (then step rest)
    rest? step (no n) = no (λ run. n (rw (one o s _ _ step (run_first run).1) (run_first run).2))

    go : Dec ((s' : S) × Step o s s') → ((s' : S) → Dec (RunFrom Step order s')) → Dec (RunFrom Step (o ∷ order) s)
    go (yes (s', step)) d = rest? step (d s')
    go (no n) d = no (λ run. n ((run_first run).0, (run_first run).1))
