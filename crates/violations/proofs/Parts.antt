-- What a part keeps of the patterns of a history: patterns other than 6 occur in both on kept operations, and the chain of pattern
-- 6, if it is kept, covers all gaps in the part. So a part that keeps what the first pattern lists has the same verdict byte.
use Prim.Native.Nat.{ℕ, ◌≤◌, ◌<◌}
use native.Mathlib.Omega.{arith}
use native.Mathlib.Decide.{dec_lt}
use mathlib.Core.Path.{◌≡◌, refl, ap, ◌∙◌}
use mathlib.Core.Logic.{◌↔◌}
use mathlib.Core.List.{List, [], ◌∷◌}
use Rattle.history.specs.Object.{Object, Queue, Cell}
use Rattle.history.specs.History.{History, Lawful, add, Precedes}
use Rattle.history.specs.Each.{Each}
use Rattle.violations.specs.Violations.{Is, Reaches, removed, never, Covered, AllCovered, Chain, all, link, FalseEmpty, Occurs, unknown, twice, early, stuck, overtaken, false_empty, unwritten, premature, crossed, stale}
use Rattle.violations.specs.Verdict.{FirstViolation, CompleteVerdict}
use Rattle.violations.specs.Parts.{KeptAs, Part, Kept}
use Rattle.violations.proofs.Lists.{each_map}
use Rattle.violations.proofs.Operations.{precedes_unless_after, is_valued}
use Rattle.violations.proofs.Occurrences.{occurs_numbered, occurs_known}
use Rattle.violations.proofs.Chains.{false_empty_lem}
use Rattle.violations.proofs.CompleteVerdicts.{judged_excluded}
use Rattle.violations.proofs.Corresponding.{Correspondence, part_down, part_up, corresponding_is, corresponding_removes, corresponding_removed, corresponding_unknown, corresponding_twice, corresponding_early, corresponding_stuck, corresponding_overtaken}
use Rattle.violations.proofs.CellCorresponding.{corresponding_unwritten, corresponding_premature, corresponding_crossed, corresponding_stale}

-- Where a return of h is not behind a call, it is before it in the part too.
part_before : {h part : History} (p : Part h part) → Lawful h → (o q : ℕ) → o < part.count → q < part.count → h.ret (p.to o) ≤ h.call (p.to q) → Precedes part o q
part_before p laws o q known known' before = (p.precedes o q known known').0 (precedes_unless_after laws (p.known o known) (p.known q known') before)

-- The value of a kept add covers a gap of the part behind the add's return, unless its remove is called before the gap. Then
-- something else has to cover the gap.
value_covers : {h part : History} (p : Part h part) → {a b reach : ℕ} → KeptAs part p.to a b → Is h add a → Reaches h a reach → (g : ℕ) → part.ret b ≤ g → g < part.end
    → ((s : ℕ) → s < part.count → h.call (p.to s) ≡ reach → part.call s ≤ g → Covered part g) → Covered part g
value_covers {h} {part} p {b} same added (removed r x here) g from until later =
    let (s, same-remove) = (part_up p).whole same (is_valued added (omega arith) (omega arith)) r (is_valued x.removes (omega arith) (omega arith)) x.same in
    go s same-remove (dec_lt g (part.call s))
  where
    go : (s : ℕ) → KeptAs part p.to r s → Dec (g < part.call s) → Covered part g
    go s same-remove (yes l) =
        let there : Is part add b = (corresponding_is (part_down p) same).0 added in
        (b, part.call s, record { adds = there; reaches = removed s ((corresponding_removes (part_down p) same same-remove there).0 x) refl; from = from; until = l })
    go s same-remove (no l) = later s same-remove.known (ap h.call same-remove.is ∙ here) (omega arith)
value_covers {part} p {b} same added (never n end) g from until later =
    let there : Is part add b = (corresponding_is (part_down p) same).0 added in
    (b, part.end, record { adds = there; reaches = never (λ x. n (corresponding_removed (part_down p) same there x)) refl; from = from; until = until })

-- If all of a chain is kept, it covers in the part all gaps from a call up to the return that it leads to. Its first value
-- was added before the call; if that is removed before the gap, the rest of the chain goes on from the call of its remove.
kept_chain_covers : {h part : History} (p : Part h part) → Lawful h → Lawful part → (e : ℕ) → e < part.count
    → {at : ℕ} {chain : List ℕ} → Chain h (h.ret (p.to e)) at chain → Each (Kept p) chain
    → (q : ℕ) → q < part.count → h.call (p.to q) ≡ at → (g : ℕ) → part.call q ≤ g → g < part.ret e → Covered part g
kept_chain_covers p laws part-laws e known (all end) keep q known' here g from until =
    absurd (omega (arith, part_before p laws e q known known' (omega arith)))
kept_chain_covers {h} {part} p laws part-laws e known (link inside most rest) keep q known' here g from until =
    let (b, same) = keep.0 in
    value_covers p same most.covers.adds most.covers.reaches g
    (omega (arith, part_before p laws b q same.known known' (omega (arith, ap h.ret same.is, most.covers.from))))
    (omega (arith, part-laws.ends e known))
    (λ s there call from-there. kept_chain_covers p laws part-laws e known rest keep.1 s there call g from-there until)

-- The chain of a false empty remove, if all of it is kept, covers all gaps of the empty remove in the part.
pub part_covered : {h part : History} (p : Part h part) → Lawful h → Lawful part → {o e : ℕ} {chain : List ℕ} → KeptAs part p.to o e → Each (Kept p) chain → FalseEmpty h o chain → AllCovered part e
part_covered p laws part-laws {e = e} same keep x g gap =
    kept_chain_covers p laws part-laws e same.known (rw (← same.is) at x.chained) keep e same.known refl g gap.from gap.until

-- Patterns of h other than 6 occur in k if all that they list corresponds to operations of k; all that they list there then
-- corresponds to operations of h.
corresponding_occurs : {object : Object} {h k : History} {Same : ℕ → ℕ → Type 0} → Correspondence h k Same → {n : ℕ} {listed : List ℕ} → (n ≡ 6 → ⊥)
    → Occurs object h n listed
    → Each (λ o. (q : ℕ) × Same o q) listed → (listed' : List ℕ) × Occurs object k n listed' × Each (λ q. (o : ℕ) × Same o q) listed'
corresponding_occurs m other (unknown {r = r} x) ((q, s), rest) = (q ∷ [], unknown (corresponding_unknown m s x), ((r, s), tt))
corresponding_occurs m other (twice x) ((q, s), ((q', s'), rest)) = corresponding_twice m s s' x
corresponding_occurs m other (early {r = r} {a = a} x) ((q, s), ((q', s'), rest)) = (q ∷ q' ∷ [], early (corresponding_early m s s' x), ((r, s), ((a, s'), tt)))
corresponding_occurs m other (stuck {a = a} {b = b} {r = r} x) ((a', s), ((b', t), ((r', u), rest))) =
    (a' ∷ b' ∷ r' ∷ [], stuck (corresponding_stuck m s t u x), ((a, s), ((b, t), ((r, u), tt))))
corresponding_occurs m other (overtaken {a = a} {b = b} {r = r} {s = l} x) ((a', s), ((b', t), ((r', u), ((l', v), rest)))) =
    (a' ∷ b' ∷ r' ∷ l' ∷ [], overtaken (corresponding_overtaken m s t u v x), ((a, s), ((b, t), ((r, u), ((l, v), tt)))))
corresponding_occurs m other (false_empty x) match = absurd (other refl)
corresponding_occurs m other (unwritten {r = r} x) ((q, s), rest) = (q ∷ [], unwritten (corresponding_unwritten m s x), ((r, s), tt))
corresponding_occurs m other (premature {r = r} {w = w} x) ((q, s), ((q', s'), rest)) =
    (q ∷ q' ∷ [], premature (corresponding_premature m s s' x), ((r, s), ((w, s'), tt)))
corresponding_occurs m other (crossed {o = o} {p = p} {q = q} {r = r} x) ((o', s), ((p', t), ((q', u), ((r', v), rest)))) =
    (o' ∷ p' ∷ q' ∷ r' ∷ [], crossed (corresponding_crossed m s t u v x), ((o, s), ((p, t), ((q, u), ((r, v), tt)))))
corresponding_occurs m other (stale {o = o} {i = i} x) ((q, s), ((q', s'), rest)) = (q ∷ q' ∷ [], stale (corresponding_stale m s s' x), ((o, s), ((i, s'), tt)))

-- A pattern other than 6 occurs in a part exactly if it occurs in the history with a list of kept operations only.
pub part_violations : {object : Object} {h part : History} (p : Part h part) (n : ℕ) → (n ≡ 6 → ⊥)
    → ((listed : List ℕ) × Occurs object part n listed) ↔ ((listed : List ℕ) × Occurs object h n listed × Each (Kept p) listed)
part_violations p n other = (
  λ x. corresponding_occurs (part_up p) other x.1 (each_map (λ q l. (p.to q, record { known = l; is = refl })) x.0 (occurs_known x.1)),
  λ x. let (listed, occurs, rest) = corresponding_occurs (part_down p) other x.1 x.2 in (listed, occurs),
)

-- So each of the patterns that lists kept operations only occurs in the part.
pub part_keeps : {object : Object} {h part : History} (p : Part h part) → Lawful h → Lawful part → {n : ℕ} {listed : List ℕ}
    → Occurs object h n listed → Each (Kept p) listed
    → (listed' : List ℕ) × Occurs object part n listed'
part_keeps p laws part-laws (false_empty x) ((e, same), keep) =
    let (chain, f) = false_empty_lem ((corresponding_is (part_down p) same).0 x.empties) (part_covered p laws part-laws same keep x) in
    (e ∷ chain, false_empty f)
part_keeps p laws part-laws (unknown x) keep = (part_violations p 1 (λ e. omega arith)).1 (_, unknown x, keep)
part_keeps p laws part-laws (twice x) keep = (part_violations p 2 (λ e. omega arith)).1 (_, twice x, keep)
part_keeps p laws part-laws (early x) keep = (part_violations p 3 (λ e. omega arith)).1 (_, early x, keep)
part_keeps p laws part-laws (stuck x) keep = (part_violations p 4 (λ e. omega arith)).1 (_, stuck x, keep)
part_keeps p laws part-laws (overtaken x) keep = (part_violations p 5 (λ e. omega arith)).1 (_, overtaken x, keep)
part_keeps p laws part-laws (unwritten x) keep = (part_violations p 7 (λ e. omega arith)).1 (_, unwritten x, keep)
part_keeps p laws part-laws (premature x) keep = (part_violations p 8 (λ e. omega arith)).1 (_, premature x, keep)
part_keeps p laws part-laws (crossed x) keep = (part_violations p 9 (λ e. omega arith)).1 (_, crossed x, keep)
part_keeps p laws part-laws (stale x) keep = (part_violations p 10 (λ e. omega arith)).1 (_, stale x, keep)

-- A part that keeps all that the first pattern of the history lists has the same verdict byte: that pattern occurs in it, and no
-- lower one does, since it would occur in the history. (It would not be 6: of a queue that is the highest.)
pub part_verdict : {object : Object} {h part : History} (p : Part h part) → Lawful h → Lawful part
    → {m n : ℕ} {xs ys : List ℕ} → FirstViolation object h m xs → Each (Kept p) xs → CompleteVerdict object part n ys → m ≡ n
part_verdict {object} p laws part-laws x keep (CompleteVerdict.linearization y) =
    absurd (judged_excluded object part-laws y (part_keeps p laws part-laws x.occurs keep).1)
part_verdict {object} {h} {part} p laws part-laws {m} {n} {ys = ys} x keep (CompleteVerdict.violation y) =
    let there = part_keeps p laws part-laws x.occurs keep in
    let not_lower : m < n → ⊥ = λ l. y.lowest_number m there.0 l there.1 in
    omega (arith, not_higher)
  where
    not_six : (object : Object) {m n : ℕ} {xs ys : List ℕ} → n < m → Occurs object h m xs → Occurs object part n ys → n ≡ 6 → ⊥
    not_six Queue l o q e = omega (arith, occurs_numbered o)
    not_six Cell l o q e = omega (arith, occurs_numbered q)

    not_higher : n < m → ⊥
    not_higher l =
        let there = (part_violations p n (not_six object l x.occurs y.occurs)).0 (ys, y.occurs) in
        x.lowest_number n there.0 l there.1
