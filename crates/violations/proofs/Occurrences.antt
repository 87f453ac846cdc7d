-- What an occurrence of a pattern lists, and under which number.
use Prim.Native.Nat.{ℕ, ◌≤◌, ◌<◌}
use native.Mathlib.Omega.{arith}
use native.Mathlib.Decide.{dec_lt, dec_le}
use mathlib.Core.Path.{◌≡◌, refl}
use mathlib.Core.Logic.Dec
use mathlib.Core.List.{List, [], ◌∷◌}
use lib.ListN.{get_or}
use Rattle.history.specs.Object.{Object, Queue, Cell}
use Rattle.history.specs.History.{History, add}
use Rattle.history.specs.Each.{Each}
use Rattle.history.specs.Sheet.{order_verdict}
use Rattle.violations.specs.Cells.{On}
use Rattle.violations.specs.Violations.{Is, Chain, all, link, Occurs, unknown, twice, early, stuck, overtaken, false_empty, unwritten, premature, crossed, stale}
use Rattle.violations.proofs.Lists.{each_map}
use Rattle.violations.proofs.Lowest.{Passing}
use Rattle.violations.proofs.CellOperations.{on_kinded}

-- What occurs lists operations of the history, and each has a kind.
is_kinded : {h : History} {kind o : ℕ} → Is h kind o → add ≤ kind → (o < h.count) × (add ≤ h.kind o)
is_kinded is l = (is.known, omega (arith, is.kinds))

on_known : {h : History} {v o : ℕ} → On h v o → (o < h.count) × (add ≤ h.kind o)
on_known on = (on.known, (on_kinded on).0)

chain_kinded : {h : History} {return g : ℕ} {chain : List ℕ} → Chain h return g chain → Each (λ o. (o < h.count) × (add ≤ h.kind o)) chain
chain_kinded (all l) = tt
chain_kinded (link l f rest) = (is_kinded f.covers.adds (omega arith), chain_kinded rest)

pub occurs_kinded : {object : Object} {h : History} {n : ℕ} {listed : List ℕ} → Occurs object h n listed → Each (λ o. (o < h.count) × (add ≤ h.kind o)) listed
occurs_kinded (unknown u) = (is_kinded u.removes (omega arith), tt)
occurs_kinded (twice t) = (is_kinded t.first (omega arith), (is_kinded t.second (omega arith), tt))
occurs_kinded (early t) = (is_kinded t.removes.removes (omega arith), (is_kinded t.adds (omega arith), tt))
occurs_kinded (stuck t) = (is_kinded t.first (omega arith), (is_kinded t.second (omega arith), (is_kinded t.removes.removes (omega arith), tt)))
occurs_kinded (overtaken t) = (
  is_kinded t.first (omega arith),
  (is_kinded t.second (omega arith), (is_kinded t.removes.removes (omega arith), (is_kinded t.removes_late.removes (omega arith), tt))),
)
occurs_kinded (false_empty t) = (is_kinded t.empties (omega arith), chain_kinded t.chained)
occurs_kinded (unwritten t) = (is_kinded t.reads (omega arith), tt)
occurs_kinded (premature t) = (is_kinded t.reads (omega arith), (is_kinded t.writes (omega arith), tt))
occurs_kinded (crossed t) = (on_known t.first, (on_known t.second, (on_known t.third, (on_known t.fourth, tt))))
occurs_kinded (stale t) = (on_known t.on, (is_kinded t.reads (omega arith), tt))

pub occurs_known : {object : Object} {h : History} {n : ℕ} {listed : List ℕ} → Occurs object h n listed → Each (λ o. o < h.count) listed
occurs_known {listed = listed} x = each_map (λ o p. p.0) listed (occurs_kinded x)

-- The patterns of a queue are 1 to 6, those of a cell 7 to 10.
abbrev pub lowest_number : Object → ℕ
lowest_number Queue = 1
lowest_number Cell = 7

abbrev pub highest_number : Object → ℕ
highest_number Queue = 6
highest_number Cell = 10

pub occurs_numbered : {object : Object} {h : History} {n : ℕ} {listed : List ℕ} → Occurs object h n listed
    → (lowest_number object ≤ n) × (n ≤ highest_number object)
occurs_numbered (unknown u) = omega arith
occurs_numbered (twice t) = omega arith
occurs_numbered (early t) = omega arith
occurs_numbered (stuck t) = omega arith
occurs_numbered (overtaken t) = omega arith
occurs_numbered (false_empty t) = omega arith
occurs_numbered (unwritten t) = omega arith
occurs_numbered (premature t) = omega arith
occurs_numbered (crossed t) = omega arith
occurs_numbered (stale t) = omega arith

-- so none is numbered as an order is
pub occurs_some : {object : Object} {h : History} {n : ℕ} {listed : List ℕ} → Occurs object h n listed → n ≡ order_verdict → ⊥
occurs_some {object} {n = n} o e = go object (occurs_numbered o)
  where
    go : (object : Object) → (lowest_number object ≤ n) × (n ≤ highest_number object) → ⊥
    go Queue l = omega arith
    go Cell l = omega arith

-- an operation whose kind is from one number to another
abbrev pub OfKinds : History → ℕ × ℕ → ℕ → Type 0
OfKinds h kinds o = (o < h.count) × ((kinds.0 ≤ h.kind o) × (h.kind o ≤ kinds.1))

unfoldable pub of_kinds? : (h : History) (kinds : ℕ × ℕ) (o : ℕ) → Dec (OfKinds h kinds o)
unfolding Dec.and dec_lt dec_le
of_kinds? h kinds o = Dec.and (dec_lt _ _) (Dec.and (dec_le _ _) (dec_le _ _))

-- the kinds of the operations that each pattern lists, but for 6, whose chains are as long as they are
abbrev pub kinds_of : ℕ → List (ℕ × ℕ)
kinds_of n =
    get_or (
    [] ∷
    ((2, 2) ∷ []) ∷
    ((2, 2) ∷ (2, 2) ∷ []) ∷
    ((2, 2) ∷ (1, 1) ∷ []) ∷
    ((1, 1) ∷ (1, 1) ∷ (2, 2) ∷ []) ∷
    ((1, 1) ∷ (1, 1) ∷ (2, 2) ∷ (2, 2) ∷ []) ∷
    [] ∷
    ((2, 2) ∷ []) ∷
    ((2, 2) ∷ (1, 1) ∷ []) ∷
    ((1, 2) ∷ (1, 2) ∷ (1, 2) ∷ (1, 2) ∷ []) ∷
    ((1, 2) ∷ (3, 3) ∷ []) ∷
    []) n []

is_of : {h : History} {kind o : ℕ} → Is h kind o → OfKinds h (kind, kind) o
is_of is = (is.known, (omega (arith, is.kinds), omega (arith, is.kinds)))

on_of : {h : History} {v o : ℕ} → On h v o → OfKinds h (1, 2) o
on_of on = (on.known, ((on_kinded on).0, omega (arith, (on_kinded on).1)))

pub occurs_of_kinds : {object : Object} {h : History} {n : ℕ} {listed : List ℕ} → (n ≡ 6 → ⊥) → Occurs object h n listed
    → Passing (OfKinds h) (kinds_of n) listed
occurs_of_kinds other (unknown u) = (is_of u.removes, tt)
occurs_of_kinds other (twice t) = (is_of t.first, (is_of t.second, tt))
occurs_of_kinds other (early t) = (is_of t.removes.removes, (is_of t.adds, tt))
occurs_of_kinds other (stuck t) = (is_of t.first, (is_of t.second, (is_of t.removes.removes, tt)))
occurs_of_kinds other (overtaken t) = (is_of t.first, (is_of t.second, (is_of t.removes.removes, (is_of t.removes_late.removes, tt))))
occurs_of_kinds other (false_empty t) = absurd (other refl)
occurs_of_kinds other (unwritten t) = (is_of t.reads, tt)
occurs_of_kinds other (premature t) = (is_of t.reads, (is_of t.writes, tt))
occurs_of_kinds other (crossed t) = (on_of t.first, (on_of t.second, (on_of t.third, (on_of t.fourth, tt))))
occurs_of_kinds other (stale t) = (on_of t.on, (is_of t.reads, tt))
