-- Tables of numbers: a number is stored, and a new table.
use Prim.Native.Nat.{ℕ, ◌+◌, ◌-◌, ◌≤◌, ◌<◌}
use native.Mathlib.Omega.{arith}
use native.Mathlib.Decide.{ℕ_discrete}
use mathlib.Core.Path.{◌≡◌}
use mathlib.Core.List.{List}
use lib.ListN.{length, get_or, set, replicate, length-replicate}
use lib.Seq.{get_or-set_same, get_or-set_other}
use Rattle.table.proofs.Lists.{zeros}
use Rattle.matching.specs.Matching.{Cleared}

-- what holds of the number that is stored, or of that which stays, holds of an entry of the table
pub entry_stored : (P : ℕ → Type 0) (xs : List ℕ) (i x o : ℕ) → i < length xs → (o ≡ i → P x) → ((o ≡ i → ⊥) → P (get_or xs o 0)) → P (get_or (set xs i x) o 0)
entry_stored P xs i x o l new old = go (ℕ_discrete o i)
  where
    go : Dec (o ≡ i) → P (get_or (set xs i x) o 0)
    go (yes e) = rw (e, get_or-set_same xs i x 0 l) (new e)
    go (no n) = rw (get_or-set_other xs i o x 0 n) (old n)

-- a table that is filled from its first entry on is filled by one entry more
pub filled_more : {f : ℕ → ℕ} {n x : ℕ} (xs : List ℕ) → n < length xs → ((o : ℕ) → o < n → get_or xs o 0 ≡ f o) → x ≡ f n → (o : ℕ) → o < n + 1 → get_or (set xs n x) o 0 ≡ f o
filled_more {f} {n} {x} xs l old new o m = entry_stored (λ y. y ≡ f o) xs n x o l (λ e. rw e new) (λ d. old o (omega arith))

-- and one that is filled from its last entry down
pub filled_back : (P : ℕ → ℕ → Type 0) {n end x : ℕ} (xs : List ℕ) → 0 < n → n ≤ length xs → ((o : ℕ) → n ≤ o → o < end → P o (get_or xs o 0))
    → P (n - 1) x → (o : ℕ) → n - 1 ≤ o → o < end → P o (get_or (set xs (n - 1) x) o 0)
filled_back P {n} {x = x} xs some within old new o l m = entry_stored (P o) xs (n - 1) x o (omega arith) (λ e. rw e new) (λ d. old o (omega arith) m)

-- a new table is cleared
pub new_cleared : (size : ℕ) → Cleared size (replicate size 0)
new_cleared size = record { sized = length-replicate {A = ℕ} size 0; zero = zeros size }
