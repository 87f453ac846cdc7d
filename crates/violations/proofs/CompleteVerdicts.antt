-- Verdicts on a history as it stands, with what has no kind left out, for either object: an order as the judge lists it rules
-- every pattern out, one exists exactly if no pattern occurs, and there is one verdict only.
use Prim.Native.Nat.{ℕ}
use mathlib.Core.Path.{◌≡◌, refl}
use mathlib.Core.Logic.{◌⊎◌, inl, inr, ◌↔◌}
use mathlib.Core.List.{List}
use Rattle.history.specs.Object.{Object, Queue, Cell}
use Rattle.history.specs.History.{History, Lawful}
use Rattle.history.specs.Sheet.{order_verdict}
use Rattle.violations.specs.Violations.{Occurs, NoViolation}
use Rattle.violations.specs.Verdict.{FirstViolation, SomeViolation, JudgedLinearization, LowestLinearization, CompleteVerdict}
use Rattle.violations.specs.Fates.{Succeeds}
use Rattle.violations.proofs.Lowest.{Compared, lower_total}
use Rattle.violations.proofs.Judged.{judged_complete}
use Rattle.violations.proofs.Occurrences.{occurs_some}
use Rattle.violations.proofs.FirstViolations.{first_violation}
use Rattle.violations.proofs.Excluding.{excluded}
use Rattle.violations.proofs.Finding.{found_exists}
use Rattle.violations.proofs.QueueLowest.{found_lowest}
use Rattle.violations.proofs.CellExcluding.{cell_excluded}
use Rattle.violations.proofs.CellFinding.{cell_found_exists}
use Rattle.violations.proofs.CellLowest.{cell_found_lowest}

-- An order as the judge lists it rules every pattern out.
pub judged_excluded : (object : Object) {h : History} → Lawful h → {order : List ℕ} → JudgedLinearization object h order → {n : ℕ} {listed : List ℕ}
    → Occurs object h n listed → ⊥
judged_excluded Queue lawful judged occurs = excluded lawful (judged_complete judged) occurs
judged_excluded Cell lawful judged occurs = cell_excluded lawful judged.legal occurs

-- Where no pattern occurs, the search finds the lowest order.
pub lowest_exists : (object : Object) {h : History} → Lawful h → NoViolation object h → (order : List ℕ) × LowestLinearization object h order
lowest_exists Queue lawful clean = let (order, judged, found) = found_exists lawful clean in (order, found_lowest lawful found judged)
lowest_exists Cell lawful clean = let (order, judged, found) = cell_found_exists lawful clean in (order, cell_found_lowest lawful found judged)

-- There is only one lowest.
pub lowest_one : {object : Object} {h : History} {xs ys : List ℕ} → LowestLinearization object h xs → LowestLinearization object h ys → xs ≡ ys
lowest_one {xs = xs} {ys = ys} x y = go (lower_total xs ys)
  where
    go : Compared xs ys → xs ≡ ys
    go (inl lower) = absurd (y.none_lower xs x.judged lower)
    go (inr (inl e)) = e
    go (inr (inr higher)) = absurd (x.none_lower ys y.judged higher)

-- An order as the judge lists it exists exactly if no pattern occurs.
pub judged_exactly : (object : Object) {h : History} → Lawful h → ((order : List ℕ) × JudgedLinearization object h order) ↔ NoViolation object h
judged_exactly object lawful = (
  λ found n listed. judged_excluded object lawful found.1,
  λ clean. let (order, lowest) = lowest_exists object lawful clean in (order, lowest.judged),
)

-- A legal order of a queue's history that leaves a pending remove out exists exactly if no pattern occurs.
pub complete_exactly : {h : History} → Lawful h → Succeeds h ↔ NoViolation Queue h
complete_exactly lawful = (
  λ (order, legal) n listed. excluded lawful legal,
  λ clean. let (order, judged) = (judged_exactly Queue lawful).1 clean in (order, judged_complete judged),
)

-- Every history has a verdict: the lowest order, or a first pattern.
pub complete_verdict : (object : Object) {h : History} → Lawful h → (byte : ℕ) × (listed : List ℕ) × CompleteVerdict object h byte listed
complete_verdict object {h} lawful = go (first_violation object h)
  where
    go : SomeViolation object h ⊎ NoViolation object h → (byte : ℕ) × (listed : List ℕ) × CompleteVerdict object h byte listed
    go (inl (n, listed, first)) = (n, listed, CompleteVerdict.violation first)
    go (inr clean) = let (order, lowest) = lowest_exists object lawful clean in (order_verdict, order, CompleteVerdict.linearization lowest.judged)

-- The verdict byte 0 is that of an order, and any other that of a pattern.
pub complete_zero : {object : Object} {h : History} {byte : ℕ} {listed : List ℕ} → CompleteVerdict object h byte listed → byte ≡ order_verdict
    → JudgedLinearization object h listed
complete_zero (CompleteVerdict.linearization x) e = x
complete_zero (CompleteVerdict.violation x) e = absurd (occurs_some x.occurs e)

pub complete_pattern : {object : Object} {h : History} {byte : ℕ} {listed : List ℕ} → CompleteVerdict object h byte listed
    → (byte ≡ order_verdict → ⊥) → FirstViolation object h byte listed
complete_pattern (CompleteVerdict.linearization x) n = absurd (n refl)
complete_pattern (CompleteVerdict.violation x) n = x
