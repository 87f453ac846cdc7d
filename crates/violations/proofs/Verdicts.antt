-- Verdicts: there is one, with one byte, which is 0 exactly if there is a legal order; histories that are alike have the same
-- byte; and where no remove has a fate, the verdict is the one on the history as it stands.
use Prim.Native.Nat.{ℕ, ◌<◌}
use native.Mathlib.Omega.{arith}
use native.Mathlib.Decide.{ℕ_discrete}
use mathlib.Core.Path.{◌≡◌, refl, sym}
use mathlib.Core.Logic.Dec
use mathlib.Core.Logic.{◌⊎◌, inl, inr, ◌↔◌}
use mathlib.Core.List.{List}
use Rattle.reader.specs.Search.{None}
use Rattle.reader.proofs.Search.{Lowest, lowest}
use Rattle.history.specs.Object.{Object, Queue, Cell}
use Rattle.history.specs.History.{History, add, no_kind, Returned, Lawful, Lone, LoneIn}
use Rattle.history.specs.Linearization.{Listed, Linearization}
use Rattle.history.specs.Sheet.{order_verdict}
use Rattle.history.proofs.Deciding.{equivalent?}
use Rattle.violations.specs.Violations.{Is, Removed, NoViolation}
use Rattle.violations.specs.Verdict.{JudgedLinearization, LowestLinearization, FirstViolation, SomeViolation, CompleteVerdict, Verdict}
use Rattle.violations.specs.Parts.{Alike}
use Rattle.violations.specs.Fates.{taking, Free, Fate, takes_value, Succeeds, NoneSucceeds, Settled, left_out, took, Unfated}
use Rattle.violations.proofs.Operations.{is?, removed?}
use Rattle.violations.proofs.Judged.{judged_complete}
use Rattle.violations.proofs.Occurrences.{occurs_some}
use Rattle.violations.proofs.FirstViolations.{first_violation, first_violation_one}
use Rattle.violations.proofs.CellExcluding.{cell_excluded}
use Rattle.violations.proofs.CompleteVerdicts.{judged_excluded, judged_exactly, complete_exactly, lowest_exists, lowest_one, complete_verdict, complete_zero}
use Rattle.violations.proofs.Alike.{alike_sym, alike_complete_verdict}
use Rattle.violations.proofs.Fates.{ComesBack, taking_back, taking_takes, kinded_other, is_there, remove_there, remove_here, comes_back_lawful, takes_one}
use Rattle.violations.proofs.OpenRemoves.{back_linearization, linearization_exactly}
use Rattle.violations.proofs.Candidate.{none_succeeds, taken_returned}
use Rattle.violations.proofs.AlikeFates.{alike_is, alike_free, taking_alike}

-- A cell has no fates.
no_fate : {h : History} → NoneSucceeds Cell h
no_fate fate f success = elim f [ ]

-- whether a value may be taken, and whether there is a legal order
unfoldable pub free? : (h : History) (a : ℕ) → Dec (Free h a)
unfolding equivalent? Dec.and Dec.not is? removed?
free? h a =
    equivalent? {P = _ × (_ → ⊥)} (λ p. record { adds = p.0; unremoved = p.1 }) (λ f. (f.adds, f.unremoved))
    (Dec.and (is? h add a) (Dec.not (removed? h a)))

succeeds_judged : {h : History} → Lawful h → Succeeds h → (order : List ℕ) × JudgedLinearization Queue h order
succeeds_judged lawful success = (judged_exactly Queue lawful).1 ((complete_exactly lawful).0 success)

succeeds? : {h : History} → Lawful h → Dec (Succeeds h)
succeeds? {h} lawful = go (first_violation Queue h)
  where
    go : SomeViolation Queue h ⊎ NoViolation Queue h → Dec (Succeeds h)
    go (inl (n, listed, first)) = no (λ success. (complete_exactly lawful).0 success n listed first.occurs)
    go (inr clean) = yes ((complete_exactly lawful).1 clean)

-- Some verdict.
abbrev pub SomeVerdict : Object → History → Type 0
SomeVerdict object h = (byte : ℕ) × (listed : List ℕ) × Verdict object h byte listed

-- Where a pattern occurs in a queue's history, the fates of a pending remove are tried, lowest add first.
tried : {h : History} → Lawful h → Lone h → {n : ℕ} {listed : List ℕ} → FirstViolation Queue h n listed → SomeVerdict Queue h
tried {h} lawful lone {n} {listed} first = by_pending (lowest (Is h no_kind) (is? h no_kind) h.count)
  where
    Works : ℕ → ℕ → Type 0
    Works o a = Free h a × Succeeds (taking h o a)

    works? : {o : ℕ} → Is h no_kind o → (a : ℕ) → Dec (Works o a)
    works? is a = Dec.and (free? h a) (succeeds? (comes_back_lawful lawful (taking_back lone is a)))

    by_fate : {o : ℕ} → Is h no_kind o → Lowest (Works o) h.count ⊎ None (Works o) h.count → SomeVerdict Queue h
    by_fate is (inl s) =
        let (order, judged) = succeeds_judged (comes_back_lawful lawful (taking_back lone is s.at)) s.holds.1 in
        let fails : Succeeds h → ⊥ = λ success. (complete_exactly lawful).0 success n listed first.occurs in
        (order_verdict, order, Verdict.linearization (took is s.holds.0 fails (λ b less free success. s.none_lower b less (free, success))) judged)
    by_fate {o} is (inr none) =
        let same : (p : ℕ) → Is h no_kind p → p ≡ o = λ p is'. lone.one p o is'.known is.known is'.kinds is.kinds in
        (n, listed, Verdict.violation first (none_succeeds (λ p b is' free success. none b free.adds.known (free, rw (same p is') at success))))

    by_pending : Lowest (Is h no_kind) h.count ⊎ None (Is h no_kind) h.count → SomeVerdict Queue h
    by_pending (inl s) = by_fate s.holds (lowest (Works s.at) (works? s.holds) h.count)
    by_pending (inr none) = (n, listed, Verdict.violation first (none_succeeds (λ p b is free success. none p is.known is)))

-- Every history has a verdict.
pub verdict : (object : Object) {h : History} → Lawful h → LoneIn object h → SomeVerdict object h
verdict object {h} lawful lone = go object lone (first_violation object h)
  where
    go : (object : Object) → LoneIn object h → SomeViolation object h ⊎ NoViolation object h → SomeVerdict object h
    go object lone (inr clean) = let (order, judged) = (judged_exactly object lawful).1 clean in (order_verdict, order, Verdict.linearization left_out judged)
    go Queue lone (inl (n, listed, first)) = tried lawful lone first
    go Cell lone (inl (n, listed, first)) = (n, listed, Verdict.violation first no_fate)

-- An order and a pattern exclude each other.
settled_excludes : {object : Object} {h k : History} → Lawful h → Settled object h k → {order : List ℕ} → JudgedLinearization object k order
    → {n : ℕ} {listed : List ℕ} → FirstViolation object h n listed
    → NoneSucceeds object h → ⊥
settled_excludes {object} lawful left_out judged first none = judged_excluded object lawful judged first.occurs
settled_excludes {h = h} lawful (took {o = o} {a = a} is free fails lower) {order} judged first none =
    none (taking h o a) (takes_value is free) (order, judged_complete judged)

-- It has only one: two verdicts agree in the verdict byte and, with a pattern, in the operations that they list.
pub verdict_one : {object : Object} {h : History} → Lawful h → {m n : ℕ} {xs ys : List ℕ} → Verdict object h m xs → Verdict object h n ys
    → (m ≡ n) × ((m ≡ order_verdict → ⊥) → xs ≡ ys)
verdict_one lawful (Verdict.linearization s x) (Verdict.linearization t y) = (refl, λ n. absurd (n refl))
verdict_one lawful (Verdict.linearization s x) (Verdict.violation y none) = absurd (settled_excludes lawful s x y none)
verdict_one lawful (Verdict.violation x none) (Verdict.linearization t y) = absurd (settled_excludes lawful t y x none)
verdict_one lawful (Verdict.violation x none) (Verdict.violation y none') = let (number, list) = first_violation_one x y in (number, λ n. list)

-- Two verdicts with an order have settled for one history, the one with the first success.
pub settled_one : {object : Object} {h : History} → LoneIn object h → {j k : History} {xs ys : List ℕ} → Settled object h j
    → JudgedLinearization object j xs → Settled object h k → JudgedLinearization object k ys → j ≡ k
settled_one lone left_out x left_out y = refl
settled_one lone {xs = xs} left_out x (took is free fails lower) y = absurd (fails (xs, judged_complete x))
settled_one lone {ys = ys} (took is free fails lower) x left_out y = absurd (fails (ys, judged_complete y))
settled_one {h = h} lone {xs = xs} {ys = ys} (took {o = o} {a = a} is free fails lower) x (took {o = p} {a = b} is' free' fails' lower') y =
    let same : o ≡ p = lone.one o p is.known is'.known is.kinds is'.kinds in
    let success : Succeeds (taking h o a) = (xs, judged_complete x) in
    let success' : Succeeds (taking h p b) = (ys, judged_complete y) in
    let not_lower : a < b → ⊥ = λ l. lower' a l free (rw same at success) in
    let not_higher : b < a → ⊥ = λ l. lower b l free' (rw (← same) at success') in
    let adds : a ≡ b = omega arith in
    rw (same, adds) refl

-- "Where an open remove is tried, its fate is decided first": the history that is settled is lawful, and where it has an order it
-- has a lowest one. So the lowest order is determined.
pub settled_lawful : {object : Object} {h k : History} → Lawful h → LoneIn object h → Settled object h k → Lawful k
settled_lawful lawful lone left_out = lawful
settled_lawful lawful lone (took {a = a} is free fails lower) = comes_back_lawful lawful (taking_back lone is a)

pub settled_lowest : (object : Object) {h k : History} → Lawful h → LoneIn object h → Settled object h k → {order : List ℕ} → JudgedLinearization object k order
    → (lowest : List ℕ) × LowestLinearization object k lowest
settled_lowest object lawful lone settled {order} judged =
    let there = settled_lawful lawful lone settled in
    lowest_exists object there ((judged_exactly object there).0 (order, judged))

pub settled_lowest_one : {object : Object} {h : History} → LoneIn object h → {j k : History} {xs ys : List ℕ} → Settled object h j
    → LowestLinearization object j xs
    → Settled object h k → LowestLinearization object k ys → xs ≡ ys
settled_lowest_one lone settled lowest settled' lowest' = lowest_one lowest (rw (← (settled_one lone settled lowest.judged settled' lowest'.judged)) at lowest')

-- The order of a verdict is legal,
pub verdict_legal : (object : Object) {h : History} → Lawful h → LoneIn object h → {byte : ℕ} {listed : List ℕ} → Verdict object h byte listed
    → byte ≡ order_verdict → Linearization object h listed
verdict_legal object lawful lone (Verdict.linearization left_out x) e = x.legal
verdict_legal Queue lawful lone (Verdict.linearization (took {a = a} is free fails lower) x) e =
    back_linearization (taking_back lone is a) lawful (judged_complete x)
verdict_legal object lawful lone (Verdict.violation f none) e = absurd (occurs_some f.occurs e)

-- lists an open add exactly if its value was removed (the value that a remove without return has taken is that of an add that has returned),
pub verdict_pending : (object : Object) {h : History} → Lawful h → LoneIn object h → {byte : ℕ} {listed : List ℕ} → Verdict object h byte listed
    → byte ≡ order_verdict → (a : ℕ) → Is h add a → (Returned h a → ⊥) → Listed listed a ↔ Removed h a
verdict_pending object lawful lone (Verdict.linearization left_out x) e a adds pending = x.pending a adds pending
verdict_pending Queue {h} lawful lone (Verdict.linearization {listed = listed} (took {o = o} {a = b} is free fails lower) x) e a adds pending =
    let exactly = x.pending a (is_there c adds (omega arith)) (λ back. pending (omega (arith, c.ret a (kinded_other c adds (omega arith))))) in
    (λ l. by (exactly.0 l), λ (r, out). exactly.1 (r, remove_there c adds out))
  where
    c : ComesBack h (taking h o b) o
    c = taking_back lone is b

    by : Removed (taking h o b) a → Removed h a
    by (r, out) = go (ℕ_discrete r o)
      where
        go : Dec (r ≡ o) → Removed h a
        go (no n) = (r, remove_here c adds out n)
        go (yes same) =
            let taken : a ≡ b = takes_one lawful c adds free.adds (rw same at out) (taking_takes is free.adds) in
            absurd (pending (rw taken (taken_returned lawful lone is fails free (listed, judged_complete x))))
verdict_pending object lawful lone (Verdict.violation f none) e a adds pending = absurd (occurs_some f.occurs e)

-- and the verdict byte is 0 exactly if there is one.
pub verdict_exactly : (object : Object) {h : History} → Lawful h → LoneIn object h → {byte : ℕ} {listed : List ℕ} → Verdict object h byte listed
    → (byte ≡ order_verdict) ↔ ((order : List ℕ) × Linearization object h order)
verdict_exactly object {h} lawful lone {byte} {listed} v = (λ e. (listed, verdict_legal object lawful lone v e), λ (order, legal). go v legal)
  where
    excludes : (object : Object) → LoneIn object h → {n : ℕ} {listed order : List ℕ} → FirstViolation object h n listed → NoneSucceeds object h
        → Linearization object h order → ⊥
    excludes Cell lone first none legal = cell_excluded lawful legal first.occurs
    excludes Queue lone {order = order} first none legal = by ((linearization_exactly lawful lone).0 (order, legal))
      where
        by : Succeeds h ⊎ ((fate : History) × Fate Queue h fate × Succeeds fate) → ⊥
        by (inl success) = (complete_exactly lawful).0 success _ _ first.occurs
        by (inr (fate, f, success)) = none fate f success

    go : {byte : ℕ} {listed order : List ℕ} → Verdict object h byte listed → Linearization object h order → byte ≡ order_verdict
    go (Verdict.linearization s x) legal = refl
    go (Verdict.violation f none) legal = absurd (excludes object lone f none legal)

-- Any other verdict byte than 0 is that of a pattern.
pub pattern_of : {object : Object} {h : History} {byte : ℕ} {listed : List ℕ} → Verdict object h byte listed → (byte ≡ order_verdict → ⊥)
    → FirstViolation object h byte listed
pattern_of (Verdict.linearization s x) n = absurd (n refl)
pattern_of (Verdict.violation x none) n = x

-- An order of one history excludes a pattern of one that is alike: if it comes with a fate, the same fate succeeds there.
alike_excludes : (object : Object) {h k : History} → Lawful h → Lawful k → LoneIn object h → LoneIn object k → Alike h k → {j : History}
    → Settled object h j → {order : List ℕ} → JudgedLinearization object j order
    → {n : ℕ} {listed : List ℕ} → FirstViolation object k n listed → NoneSucceeds object k → ⊥
alike_excludes object lawful lawful' lone lone' a left_out judged first none =
    occurs_some first.occurs (sym (alike_complete_verdict lawful lawful' a (CompleteVerdict.linearization judged) (CompleteVerdict.violation first)))
alike_excludes Queue {h} {k} lawful lawful' lone lone' a (took {o = o} {a = x} is free fails lower) judged first none =
    none (taking k (a.to o) (a.to x)) (takes_value (alike_is a is) (alike_free a free)) (succeeds (complete_verdict Queue there))
  where
    there : Lawful (taking k (a.to o) (a.to x))
    there = comes_back_lawful lawful' (taking_back lone' (alike_is a is) (a.to x))

    succeeds : (byte : ℕ) × (listed : List ℕ) × CompleteVerdict Queue (taking k (a.to o) (a.to x)) byte listed → Succeeds (taking k (a.to o) (a.to x))
    succeeds (byte, listed, v) =
        let here = comes_back_lawful lawful (taking_back lone is x) in
        let alike = taking_alike a lone lone' is free.adds in
        let same : order_verdict ≡ byte = alike_complete_verdict here there alike (CompleteVerdict.linearization judged) v in
        (listed, judged_complete (complete_zero v (sym same)))

-- Histories that are alike have the same verdict byte.
pub alike_verdict : (object : Object) {h k : History} → Lawful h → Lawful k → LoneIn object h → LoneIn object k → Alike h k
    → {m n : ℕ} {xs ys : List ℕ} → Verdict object h m xs → Verdict object k n ys → m ≡ n
alike_verdict object lawful lawful' lone lone' a (Verdict.linearization s x) (Verdict.linearization t y) = refl
alike_verdict object lawful lawful' lone lone' a (Verdict.linearization s x) (Verdict.violation y none) =
    absurd (alike_excludes object lawful lawful' lone lone' a s x y none)
alike_verdict object lawful lawful' lone lone' a (Verdict.violation x none) (Verdict.linearization t y) =
    absurd (alike_excludes object lawful' lawful lone' lone (alike_sym a) t y x none)
alike_verdict object lawful lawful' lone lone' a (Verdict.violation x none) (Verdict.violation y none') =
    alike_complete_verdict lawful lawful' a (CompleteVerdict.violation x) (CompleteVerdict.violation y)

-- Where nothing has a fate, a verdict is one on the history as it stands.
pub complete_is_verdict : (object : Object) {h : History} → Unfated object h → {byte : ℕ} {listed : List ℕ} → CompleteVerdict object h byte listed
    → Verdict object h byte listed
complete_is_verdict object unfated (CompleteVerdict.linearization x) = Verdict.linearization left_out x
complete_is_verdict Queue returned (CompleteVerdict.violation f) =
    Verdict.violation f (none_succeeds (λ o b is free success. omega (arith, returned o is.known, is.kinds)))
complete_is_verdict Cell u (CompleteVerdict.violation f) = Verdict.violation f no_fate

pub verdict_is_complete : (object : Object) {h : History} → Unfated object h → {byte : ℕ} {listed : List ℕ} → Verdict object h byte listed
    → CompleteVerdict object h byte listed
verdict_is_complete object unfated (Verdict.linearization left_out x) = CompleteVerdict.linearization x
verdict_is_complete Queue returned (Verdict.linearization (took {o = o} is free fails lower) x) = absurd (omega (arith, returned o is.known, is.kinds))
verdict_is_complete object unfated (Verdict.violation f none) = CompleteVerdict.violation f
