-- The theorems of this crate, for everything above: stated here, or passed on from the file that proves them. The histories of
-- readable logs are lawful, and at most one remove is pending in them (`history_lawful`, `history_lone` of the crate history), so what
-- is said of a queue holds of every readable log.
use Prim.Native.Nat.{ℕ}
use native.Mathlib.Decide.{ℕ_discrete}
use mathlib.Core.Path.{◌≡◌, sym, ◌∙◌}
use mathlib.Core.Logic.{◌↔◌}
use mathlib.Core.List.{List}
use Rattle.history.specs.Each.{Each}
use Rattle.history.specs.Object.{Object, Queue, Cell}
use Rattle.history.specs.History.{History, Lawful, Lone}
use Rattle.history.specs.Linearization.{Linearization}
use Rattle.history.specs.Sheet.{order_verdict}
use Rattle.violations.specs.Violations.{NoViolation}
use Rattle.violations.specs.Verdict.{FirstViolation, Verdict}
use Rattle.violations.specs.Parts.{Part, Kept}
use Rattle.violations.specs.Fates.{Unfated}
use Rattle.violations.specs.Found.{FoundSettled}
use Rattle.violations.proofs.Occurrences.{occurs_some}
use Rattle.violations.proofs.Parts as parts
-- "The lowest number that occurs is reported. Among its occurrences the lowest list": there is such an answer where a pattern
-- occurs, and two answers that meet this are equal.
pub use Rattle.violations.proofs.FirstViolations.{first_violation, first_violation_one}
-- A pattern of a queue has a number from 1 to 6, one of a cell from 7 to 10; it lists operations of the history, and each has a
-- kind.
pub use Rattle.violations.proofs.Occurrences.{lowest_number, highest_number, occurs_numbered, occurs_kinded, occurs_known}
-- An empty remove has all its gaps covered exactly if there is a chain, and there is only one.
pub use Rattle.violations.proofs.Chains.{chained_exactly, chain_one}
-- A legal order of a queue's history that leaves a pending remove out rules every pattern out, and gives each empty remove a
-- witness gap. Any legal order of a cell's history rules every pattern of a cell out.
pub use Rattle.violations.proofs.Excluding.{Witness, witness_gap, excluded}
pub use Rattle.violations.proofs.CellExcluding.{cell_excluded}
-- An order as the judge lists it leaves a pending remove out, and lists just what is to be listed.
pub use Rattle.violations.proofs.Judged.{judged_complete, judged_due, due_judged, returned_due}
-- It rules every pattern out, and one exists exactly if no pattern occurs; where none occurs, there is a lowest one, and only one. A
-- legal order of a queue's history that leaves a pending remove out exists exactly if no pattern occurs.
pub use Rattle.violations.proofs.CompleteVerdicts.{judged_excluded, judged_exactly, lowest_exists, lowest_one, complete_exactly}
-- A verdict lists at most 682 operations, if there are at most 1,024 records. Their numbers are below 1,024, and the verdict byte
-- is at most the highest number of a pattern.
pub use Rattle.violations.proofs.Lengths.{ReturnsApart, Positions, complete_at_most, listed_at_most}
pub use Rattle.violations.proofs.Bounds.{verdict_known, verdict_small}
-- The search for an order of a queue's history: it starts, may place whatever is placeable, goes on while something is left, and
-- ends with a legal order that lists an open add exactly if its value was removed; and which tables serve it.
pub use Rattle.violations.proofs.Placing.{search_starts, search_places, search_ends}
pub use Rattle.violations.proofs.Progress.{search_goes_on}
pub use Rattle.violations.proofs.Constructing.{tables_match, tables_fit}
-- Where no pattern occurs, it finds such an order, and only one. It is the lowest.
pub use Rattle.violations.proofs.Finding.{found_one, found_exists}
pub use Rattle.violations.proofs.QueueLowest.{found_lowest}
-- The search for an order of a cell's history: it starts, places, goes on and ends in the same way, and where no pattern occurs it
-- finds the lowest order.
pub use Rattle.violations.proofs.CellPlacing.{cell_starts, cell_places, cell_ends}
pub use Rattle.violations.proofs.CellProgress.{cell_goes_on}
pub use Rattle.violations.proofs.CellFinding.{clean_sound, cell_found_exists}
pub use Rattle.violations.proofs.CellLowest.{cell_found_lowest}
-- Parts of a history, and histories that are alike.
pub use Rattle.violations.proofs.Filtering.{filter, part_linearization}
pub use Rattle.violations.proofs.Parts.{part_violations, part_covered, part_keeps}
pub use Rattle.violations.proofs.Alike.{alike_sym, alike_part}
-- Histories that agree on their operations are lawful together and have the same verdicts, and the search finds the same order in
-- them.
pub use Rattle.violations.proofs.Agreeing.{agree_lawful, agree_lone, agree_found}
pub use Rattle.violations.proofs.AgreeingVerdicts.{agree_complete_verdict, agree_verdict, agree_found_settled}
-- A remove of a queue that has not returned: a legal order exists exactly if there is one with it left out or with one of its
-- fates; at most one fate can succeed where leaving it out fails, and only that of the add which returns first of those that are
-- not removed, under patterns 4 and 6. The history with a fate is lawful.
pub use Rattle.violations.proofs.OpenRemoves.{linearization_exactly}
pub use Rattle.violations.proofs.Fates.{ComesBack, taking_back, comes_back_lawful, Mends}
pub use Rattle.violations.proofs.Candidate.{fate_mends, fate_one, others_stay, none_helps, it_settles, it_helps, it_fails}
-- Every history has a verdict, and two agree in the verdict byte and, with a pattern, in the operations that they list. With an
-- order they have settled for one history, which is lawful and has a lowest order, and only one. The byte is 0 exactly if there is a
-- legal order; the order listed is one, and lists an open add exactly if its value was removed. Any other byte is that of a pattern.
-- Histories that are alike have the same byte.
pub use Rattle.violations.proofs.Verdicts.{verdict, verdict_one, settled_one, settled_lawful, settled_lowest, settled_lowest_one}
pub use Rattle.violations.proofs.Verdicts.{verdict_legal, verdict_pending, verdict_exactly, pattern_of, alike_verdict}
-- If no remove of a queue is pending, a verdict is one on the history as it stands; of a cell every verdict is.
pub use Rattle.violations.proofs.Verdicts.{complete_is_verdict, verdict_is_complete}
pub use Rattle.violations.proofs.CompleteVerdicts.{complete_zero, complete_pattern}

-- A legal order of a cell exists exactly if no pattern occurs. Of its reads any number may be pending: nothing is asked of them.
pub cell_exactly : {h : History} → Lawful h → ((order : List ℕ) × Linearization Cell h order) ↔ NoViolation Cell h
cell_exactly lawful = (
  λ (order, legal) n listed. cell_excluded lawful legal,
  λ clean. let (order, judged) = (judged_exactly Cell lawful).1 clean in (order, judged.legal),
)

pub cell_verdict_exactly : {h : History} → Lawful h → {byte : ℕ} {listed : List ℕ} → Verdict Cell h byte listed
    → (byte ≡ order_verdict) ↔ ((order : List ℕ) × Linearization Cell h order)
cell_verdict_exactly lawful v = verdict_exactly Cell lawful tt v

-- A part in which nothing has a fate and that keeps all that the first pattern lists has the same verdict byte.
pub part_verdict : (object : Object) {h part : History} (p : Part h part) → Lawful h → Lawful part → Unfated object part
    → {m n : ℕ} {xs ys : List ℕ} → FirstViolation object h m xs → Each (Kept p) xs → Verdict object part n ys → m ≡ n
part_verdict object p lawful lawful' unfated first kept v = parts.part_verdict p lawful lawful' first kept (verdict_is_complete object unfated v)

pub cell_part_verdict : {h part : History} (p : Part h part) → Lawful h → Lawful part
    → {m n : ℕ} {xs ys : List ℕ} → FirstViolation Cell h m xs → Each (Kept p) xs → Verdict Cell part n ys → m ≡ n
cell_part_verdict p lawful lawful' first kept v = part_verdict Cell p lawful lawful' tt first kept v

-- A queue's history has a verdict whose order is the one that the search finds,
pub found_verdict : {h : History} → Lawful h → Lone h
    → (byte : ℕ) × (listed : List ℕ) × Verdict Queue h byte listed × (byte ≡ order_verdict → FoundSettled h listed)
found_verdict {h} lawful lone = let (byte, listed, v) = verdict Queue lawful lone in go v
  where
    go : {byte : ℕ} {listed : List ℕ} → Verdict Queue h byte listed
        → (byte : ℕ) × (listed : List ℕ) × Verdict Queue h byte listed × (byte ≡ order_verdict → FoundSettled h listed)
    go {byte} {listed} (Verdict.violation f none) = (byte, listed, Verdict.violation f none, λ e. absurd (occurs_some f.occurs e))
    go {listed = listed} (Verdict.linearization {settled = k} s x) =
        let there = settled_lawful lawful lone s in
        let (order, judged, found) = found_exists there ((judged_exactly Queue there).0 (listed, x)) in
        (order_verdict, order, Verdict.linearization s judged, λ e. record { settled = k; settles = s; judged = judged; found = found })

-- only one order is listed,
pub found_settled_one : {h : History} → Lawful h → Lone h → {xs ys : List ℕ} → FoundSettled h xs → FoundSettled h ys → xs ≡ ys
found_settled_one lawful lone f g =
    let there = settled_lawful lawful lone f.settles in
    let single = (tables_match f.found.reaches (λ number listed l. excluded there (judged_complete f.judged))).single in
    found_one single f.found (rw (← (settled_one lone f.settles f.judged g.settles g.judged)) at g.found)

-- and two verdicts list the same operations, if an order is the one that the search finds.
pub listed_one : {h : History} → Lawful h → Lone h → {m n : ℕ} {xs ys : List ℕ}
    → Verdict Queue h m xs → (m ≡ order_verdict → FoundSettled h xs) → Verdict Queue h n ys → (n ≡ order_verdict → FoundSettled h ys) → xs ≡ ys
listed_one lawful lone {m} {n} {xs} {ys} v found w found' = let (same, lists) = verdict_one lawful v w in go same lists (ℕ_discrete m order_verdict)
  where
    go : m ≡ n → ((m ≡ order_verdict → ⊥) → xs ≡ ys) → Dec (m ≡ order_verdict) → xs ≡ ys
    go same lists (no violation) = lists violation
    go same lists (yes e) = found_settled_one lawful lone (found e) (found' (sym same ∙ e))
