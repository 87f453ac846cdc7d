-- A verdict lists operations with numbers below 1,024, if there are no more, and its byte is 0 or the number of a pattern.
use Prim.Native.Nat.{ℕ, zero, suc, ◌≤◌, ◌<◌}
use native.Mathlib.Omega.{arith}
use native.Mathlib.Decide.{dec_lt}
use mathlib.Core.Path.{◌≡◌, refl}
use mathlib.Core.List.{List, [], ◌∷◌}
use lib.ListN.{length, get_or, get_or-eq_default}
use Rattle.reader.specs.Log.{max_records}
use Rattle.history.specs.Each.{Each}
use Rattle.history.specs.Object.{Object}
use Rattle.history.specs.History.{History}
use Rattle.violations.specs.Fates.{Settled, left_out, took}
use Rattle.violations.specs.Verdict.{Verdict}
use Rattle.violations.proofs.Occurrences.{highest_number, occurs_numbered, occurs_known}

each_below : {n : ℕ} → 0 < n → (xs : List ℕ) → Each (λ o. o < n) xs → (i : ℕ) → get_or xs i 0 < n
each_below l [] known i = l
each_below l (x ∷ xs) (here, rest) zero = here
each_below l (x ∷ xs) (here, rest) (suc i) = each_below l xs rest i

list_known : (h : History) → h.count ≤ max_records → (listed : List ℕ) → ((i : ℕ) → i < length listed → get_or listed i 0 < h.count) → (i : ℕ)
    → get_or listed i 0 < max_records
list_known h few listed known i = go (dec_lt i (length listed))
  where
    go : Dec (i < length listed) → get_or listed i 0 < max_records
    go (yes l) = omega (arith, known i l)
    go (no l) = omega (arith, get_or-eq_default listed 0 {n = i} (omega arith))

-- a settled history has as many operations as the history
settled_count : {object : Object} {h k : History} → Settled object h k → k.count ≡ h.count
settled_count left_out = refl
settled_count (took is free fails lower) = refl

pub verdict_known : {object : Object} {h : History} → h.count ≤ max_records → {byte : ℕ} {listed : List ℕ} → Verdict object h byte listed → (i : ℕ)
    → get_or listed i 0 < max_records
verdict_known {h = h} few (Verdict.linearization {listed = listed} s x) i =
    list_known h few listed (λ i l. omega (arith, x.legal.ordering.known i l, settled_count s)) i
verdict_known few (Verdict.violation {listed = []} x none) i = omega arith
verdict_known few (Verdict.violation {listed = o ∷ listed} x none) i =
    let known = occurs_known x.occurs in
    omega (arith, each_below (omega (arith, known.0)) (o ∷ listed) known i)

-- the verdict byte is at most the highest number of a pattern
pub verdict_small : {object : Object} {h : History} {byte : ℕ} {listed : List ℕ} → Verdict object h byte listed → byte ≤ highest_number object
verdict_small (Verdict.linearization s x) = omega arith
verdict_small (Verdict.violation x none) = (occurs_numbered x.occurs).1
