-- The first violation of a history, of a queue or of a cell: it is found, in a form that computes, and there is only one. And
-- whether a list is an order as the judge lists it.
use Prim.Native.Nat.{ℕ, ◌+◌, ◌<◌}
use native.Mathlib.Omega.{arith}
use native.Mathlib.Decide.{dec_le, ℕ_discrete, dec_lt}
use mathlib.Core.Path.{◌≡◌}
use mathlib.Core.Logic.Dec
use mathlib.Core.Logic.{◌⊎◌, inl, inr}
use mathlib.Core.List.{List, ◌∷◌}
use lib.ListN.{length}
use Rattle.history.specs.Object.{Object, Queue, Cell}
use Rattle.history.specs.History.{History, add, empty_remove}
use Rattle.history.proofs.Deciding.{all_below?, implies?, equivalent?, listed?, linearization?}
use Rattle.violations.specs.Violations.{Is, AllCovered, FalseEmpty, Occurs, false_empty, NoViolation}
use Rattle.violations.specs.Verdict.{FirstViolation, SomeViolation, JudgedLinearization}
use Rattle.violations.specs.Found.{LastGap}
use Rattle.violations.proofs.Operations.{is?, removed?}
use Rattle.violations.proofs.Chains.{chain_one, false_empty_lem, last_gap}
use Rattle.violations.proofs.Occurrences.{highest_number, OfKinds, of_kinds?, kinds_of, occurs_numbered, occurs_of_kinds, occurs_known}
use Rattle.violations.proofs.Lowest.{Compared, lower_total, same?, LowestList, Sought, only_lowest, LowestPair, lowest_pair, lowest_cons, lowest_passing}
use Rattle.violations.proofs.Deciding.{queue_occurs?}
use Rattle.violations.proofs.CellDeciding.{cell_occurs?}

-- the list of pattern 6 that begins with an operation is sought: there is only one, since there is only one chain
false_empty_of : (h : History) (e : ℕ) → Sought (λ chain. Occurs Queue h 6 (e ∷ chain))
unfolding is? last_gap false_empty_lem only_lowest
false_empty_of h e = go (is? h empty_remove e) (last_gap h e)
  where
    the : {chain : List ℕ} → Occurs Queue h 6 (e ∷ chain) → FalseEmpty h e chain
    the (false_empty t) = t

    found : (chain : List ℕ) × FalseEmpty h e chain → LowestList (λ chain. Occurs Queue h 6 (e ∷ chain))
    found (chain, f) = only_lowest {list = chain} (false_empty f) (λ other o. chain_one (the o).chained f.chained)

    go : Dec (Is h empty_remove e) → AllCovered h e ⊎ ((g : ℕ) × LastGap h e g) → Sought (λ chain. Occurs Queue h 6 (e ∷ chain))
    go (yes i) (inl covered) = inl (found (false_empty_lem i covered))
    go (yes i) (inr (g, u)) = inr (λ chain o. u.uncovered ((the o).covered g u.lies))
    go (no q) d = inr (λ chain o. q (the o).empties)

-- the lowest list with which a pattern occurs is sought
lowest_occurrence : (object : Object) (h : History) (n : ℕ) → Sought (Occurs object h n)
unfolding ℕ_discrete queue_occurs? cell_occurs? of_kinds? lowest_passing lowest_pair lowest_cons false_empty_of
lowest_occurrence Queue h n = go (ℕ_discrete n 6)
  where
    six : Sought (Occurs Queue h 6)
    six = lowest_cons (λ o. elim o [ ]) (lowest_pair (λ e chain. Occurs Queue h 6 (e ∷ chain)) (false_empty_of h) h.count (λ e chain o. (occurs_known o).0))

    go : Dec (n ≡ 6) → Sought (Occurs Queue h n)
    go (yes e) = rw e six
    go (no other) = lowest_passing (OfKinds h) (of_kinds? h) h.count (λ t o p. p.0) (kinds_of n) (Occurs Queue h n) (queue_occurs? h n other) (λ listed. occurs_of_kinds other)
lowest_occurrence Cell h n =
    lowest_passing (OfKinds h) (of_kinds? h) h.count (λ t o p. p.0) (kinds_of n) (Occurs Cell h n) (cell_occurs? h n)
    (λ listed o. occurs_of_kinds (λ e. omega (arith, occurs_numbered o)) o)

-- the first violation of a history is found, or no pattern occurs
pub first_violation : (object : Object) (h : History) → SomeViolation object h ⊎ NoViolation object h
unfolding lowest_pair lowest_occurrence
first_violation object h =
    go (lowest_pair (Occurs object h) (lowest_occurrence object h) (highest_number object + 1) (λ n listed o. omega (arith, occurs_numbered o)))
  where
    go : LowestPair (Occurs object h) ⊎ NoViolation object h → SomeViolation object h ⊎ NoViolation object h
    go (inl s) = inl (s.number, s.lists.list, record { occurs = s.lists.holds; lowest_number = s.none_lower; lowest_list = s.lists.none_lower })
    go (inr none) = inr none

-- whether a pattern occurs
unfoldable pub violated? : (object : Object) (h : History) → Dec (SomeViolation object h)
unfolding first_violation
violated? object h = go (first_violation object h)
  where
    go : SomeViolation object h ⊎ NoViolation object h → Dec (SomeViolation object h)
    go (inl some) = yes some
    go (inr none) = no (λ (n, listed, first). none n listed first.occurs)

-- a history has only one first violation
pub first_violation_one : {object : Object} {h : History} {m n : ℕ} {xs ys : List ℕ} → FirstViolation object h m xs → FirstViolation object h n ys
    → (m ≡ n) × (xs ≡ ys)
first_violation_one {object} {h} {m} {n} {xs} {ys} f k = (same, lists (lower_total xs ys))
  where
    no_lower : {m n : ℕ} {xs ys : List ℕ} → FirstViolation object h m xs → FirstViolation object h n ys → m < n → ⊥
    no_lower {m} {n} {xs} f k l = k.lowest_number m xs l f.occurs

    same : m ≡ n
    same = let not_lower : m < n → ⊥ = no_lower f k in let not_higher : n < m → ⊥ = no_lower k f in omega arith

    lists : Compared xs ys → xs ≡ ys
    lists (inl lower) = absurd (k.lowest_list xs (rw same at f.occurs) lower)
    lists (inr (inl e)) = e
    lists (inr (inr higher)) = absurd (f.lowest_list ys (rw (← same) at k.occurs) higher)

-- whether a pattern with its operations is the first violation: the first one is found and compared
unfoldable pub first_violation? : (object : Object) (h : History) (n : ℕ) (listed : List ℕ) → Dec (FirstViolation object h n listed)
unfolding first_violation equivalent? Dec.and ℕ_discrete same?
first_violation? object h n listed = go (first_violation object h)
  where
    go : SomeViolation object h ⊎ NoViolation object h → Dec (FirstViolation object h n listed)
    go (inl f) = equivalent? (λ e. rw (← e.0, ← e.1) f.2) (first_violation_one f.2) (Dec.and (ℕ_discrete f.0 n) (same? f.1 listed))
    go (inr none) = no (λ f. none n listed f.occurs)

-- whether a list is an order as the judge lists it
unfoldable pub judged_linearization? : (object : Object) (h : History) (order : List ℕ) → Dec (JudgedLinearization object h order)
unfolding equivalent? Dec.and linearization? all_below? implies? Dec.not dec_lt ℕ_discrete listed? removed?
judged_linearization? object h order =
    equivalent? {P = _ × (_ × _)}
    (λ p. record { legal = p.0; pending = λ a is. p.1.1 a is.known is.kinds; complete = p.1.0 })
    (λ o. (o.legal, (o.complete, λ a l e. o.pending a (record { known = l; kinds = e }))))
    (Dec.and (linearization? _ _ _) (Dec.and (all_below? (λ i. dec_le _ _) (length order))
    (all_below? (λ a. implies? (ℕ_discrete (h.kind a) add)
    (implies? (Dec.not (dec_lt _ _)) (Dec.and (implies? (listed? _ _) (removed? _ _)) (implies? (removed? _ _) (listed? _ _))))) h.count)))
