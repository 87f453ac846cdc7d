-- Orders as the judge lists them, of a queue's history and of a cell's, list just what is to be listed.
use Prim.Native.Nat.{ℕ, ◌<◌}
use native.Mathlib.Omega.{arith}
use native.Mathlib.Decide.{dec_lt, ℕ_discrete}
use mathlib.Core.Path.{◌≡◌, refl}
use mathlib.Core.Logic.{◌⊎◌, inl, inr}
use mathlib.Core.List.{List}
use lib.ListN.{length}
use Rattle.history.specs.History.{History, add, no_kind, Returned, Lawful}
use Rattle.history.specs.Object.{Object, Queue}
use Rattle.history.specs.Linearization.{placed, Listed, CompleteLinearization}
use Rattle.history.proofs.Queues.{linearization_complete}
use Rattle.violations.specs.Violations.{Removed}
use Rattle.violations.specs.Verdict.{JudgedLinearization}
use Rattle.violations.specs.Greedy.{Due}

-- it leaves out a remove that has not returned
pub judged_complete : {h : History} {order : List ℕ} → JudgedLinearization Queue h order → CompleteLinearization h order
judged_complete judged = linearization_complete judged.complete judged.legal

-- what has returned is to be listed
pub returned_due : {h : History} → Lawful h → (o : ℕ) → o < h.count → Returned h o → Due h o
returned_due {h} lawful o known back =
    let some : h.kind o ≡ no_kind → ⊥ = λ e. lawful.unreturned o known e back in
    record { known = known; kinded = omega arith; listed = inl back }

-- what it lists is to be listed
pub judged_due : {object : Object} {h : History} → Lawful h → {order : List ℕ} → JudgedLinearization object h order → (i : ℕ) → i < length order
    → Due h (placed order i)
judged_due {h = h} lawful {order} judged i l =
    record { known = known; kinded = judged.complete i l; listed = go (dec_lt (h.ret o) h.end) (ℕ_discrete (h.kind o) add) }
  where
    o : ℕ
    o = placed order i

    known : o < h.count
    known = judged.legal.ordering.known i l

    go : Dec (Returned h o) → Dec (h.kind o ≡ add) → Returned h o ⊎ Removed h o
    go (yes back) d = inl back
    go (no n) (yes k) = inr ((judged.pending o (record { known = known; kinds = k }) n).0 (record { at = i; below = l; here = refl }))
    go (no n) (no k) = inl (lawful.returned o known (omega (arith, judged.complete i l)))

-- what is to be listed is listed
pub due_judged : {object : Object} {h : History} → Lawful h → {order : List ℕ} → JudgedLinearization object h order → {o : ℕ} → Due h o → Listed order o
due_judged {h = h} lawful {order} judged {o} due = go (dec_lt (h.ret o) h.end) (ℕ_discrete (h.kind o) add) due.listed
  where
    go : Dec (Returned h o) → Dec (h.kind o ≡ add) → Returned h o ⊎ Removed h o → Listed order o
    go (yes r) d e = judged.legal.ordering.every o due.known r
    go (no n) d (inl r) = absurd (n r)
    go (no n) (yes k) (inr r) = (judged.pending o (record { known = due.known; kinds = k }) n).1 r
    go (no n) (no k) (inr r) = absurd (n (lawful.returned o due.known (omega (arith, due.kinded))))
