-- How many operations a verdict lists: at most 682, if there are at most 1,024 records. Of the two halves of each position, an
-- operation that is listed has three that no other has: both of its call, and one of its return or of the return of its
-- value's remove; a remove that has not returned and has taken the value of an add has one of the return of that add.
use Prim.Native.Nat.{ℕ, zero, suc, ◌+◌, ◌*◌, ◌/◌, ◌%◌, ◌≤◌, ◌<◌}
use native.Mathlib.Omega.{arith}
use native.Mathlib.Decide.{dec_lt, ℕ_discrete}
use mathlib.Core.Path.{◌≡◌, refl, ap}
use mathlib.Core.Logic.{◌⊎◌, inl, inr}
use mathlib.Core.List.{List, ◌∷◌}
use lib.ListN.{length}
use Rattle.history.specs.Object.{Object, Queue}
use Rattle.history.specs.History.{History, add, remove, Returned, Lawful, LoneIn}
use Rattle.history.specs.Linearization.{placed}
use Rattle.history.proofs.Counting.{partners_are_few}
use Rattle.violations.specs.Violations.{Is, RemoveOf, Removed, FalseEmpty, Occurs, unknown, twice, early, stuck, overtaken, false_empty, unwritten, premature, crossed, stale}
use Rattle.violations.specs.Verdict.{JudgedLinearization, CompleteVerdict, Verdict}
use Rattle.violations.specs.Fates.{left_out, took}
use Rattle.violations.specs.Greedy.{Due}
use Rattle.violations.proofs.Judged.{judged_complete, judged_due}
use Rattle.violations.proofs.Operations.{is_returned, same_adder}
use Rattle.violations.proofs.Fates.{ComesBack, taking_back, taking_takes, comes_back_lawful, remove_here, takes_one}
use Rattle.violations.proofs.Candidate.{taken_returned}
use Rattle.violations.proofs.Chains.{chain_linked, chain_once}

-- Two operations that have returned and return at one position are one (`returns_apart` of the crate history).
abbrev pub ReturnsApart : History → Type 0
ReturnsApart h = (o p : ℕ) → o < h.count → p < h.count → Returned h o → h.ret o ≡ h.ret p → o ≡ p

-- All calls and returns are at positions below a bound.
pub record Positions (h : History) (bound : ℕ) : Type 0 where
  pub calls : (o : ℕ) → o < h.count → h.call o < bound
  pub returns : (o : ℕ) → o < h.count → Returned h o → h.ret o < bound

-- what a verdict lists where `taker` has taken the value of an add: what is to be listed, and the taker
data Counted (h : History) (taker o : ℕ) : Type 0 where
  is_due : Due h o → Counted h taker o
  is_taker : {a : ℕ} → o ≡ taker → o < h.count → Is h add a → Returned h a → Counted h taker o

-- The halves of positions that an operation has, by their numbers 0 to 2. Position x has the halves 2 * x and 2 * x + 1.
data Half (h : History) (taker o number half : ℕ) : Type 0 where
  of_call : number < 2 → 2 * h.call o + number ≡ half → Half h taker o number half
  of_return : number ≡ 2 → Returned h o → 2 * h.ret o ≡ half → Half h taker o number half
  of_remove : (r : ℕ) → number ≡ 2 → Is h add o → RemoveOf h o r → 2 * h.ret r + 1 ≡ half → Half h taker o number half
  of_taken : (a : ℕ) → number ≡ 2 → o ≡ taker → Is h add a → Returned h a → 2 * h.ret a + 1 ≡ half → Half h taker o number half

module _ {h : History} (lawful : Lawful h) (returns : ReturnsApart h) {bound : ℕ} (positions : Positions h bound) (taker : ℕ) where
  -- two operations that are called at one position are one
  calls_apart : {o p : ℕ} → o < h.count → p < h.count → h.call o ≡ h.call p → o ≡ p
  calls_apart {o} {p} known known' e = go (dec_lt o p) (dec_lt p o)
    where
      go : Dec (o < p) → Dec (p < o) → o ≡ p
      go (yes l) d = absurd (omega (arith, lawful.numbered o p l known'))
      go (no l) (yes m) = absurd (omega (arith, lawful.numbered p o m known))
      go (no l) (no m) = omega arith

  -- a half of a call is none of a return
  halves_apart : {o p i j half : ℕ} → o < h.count → p < h.count → i < 2 → j < 2 → 2 * h.call o + i ≡ half → 2 * h.ret p + j ≡ half → ⊥
  halves_apart {o} {p} known known' l m e f = lawful.apart p o known' known (omega arith)

  -- a remove and an add do not return at one position
  remove_no_add : {a r : ℕ} → Is h remove r → Is h add a → Returned h a → h.ret a ≡ h.ret r → ⊥
  remove_no_add {a} {r} is adds back e = omega (arith, ap h.kind (returns a r adds.known is.known back e), adds.kinds, is.kinds)

  -- no half is had twice
  half_once : {o p i j half : ℕ} → o < h.count → p < h.count → Half h taker o i half → Half h taker p j half → (o ≡ p) × (i ≡ j)
  half_once known known' (of_call l e) (of_call m f) = (calls_apart known known' (omega arith), omega arith)
  half_once known known' (of_call l e) (of_return m back f) = absurd (halves_apart {j = 0} known known' l (omega arith) e (omega arith))
  half_once known known' (of_call l e) (of_remove r m is out f) = absurd (halves_apart known out.removes.known l (omega arith) e f)
  half_once known known' (of_call l e) (of_taken a m t is back f) = absurd (halves_apart known is.known l (omega arith) e f)
  half_once known known' (of_return l back e) (of_call m f) = absurd (halves_apart {j = 0} known' known m (omega arith) f (omega arith))
  half_once {o} {p} known known' (of_return l back e) (of_return m back' f) = (returns o p known known' back (omega arith), omega arith)
  half_once known known' (of_return l back e) (of_remove r m is out f) = absurd (omega arith)
  half_once known known' (of_return l back e) (of_taken a m t is back' f) = absurd (omega arith)
  half_once known known' (of_remove r l is out e) (of_call m f) = absurd (halves_apart known' out.removes.known m (omega arith) f e)
  half_once known known' (of_remove r l is out e) (of_return m back f) = absurd (omega arith)
  half_once known known' (of_remove r l is out e) (of_remove s m is' out' f) =
      let same : r ≡ s = returns r s out.removes.known out'.removes.known (is_returned lawful out.removes (omega arith)) (omega arith) in
      (same_adder lawful is is' out (rw same out'), omega arith)
  half_once known known' (of_remove r l is out e) (of_taken a m t is' back f) = absurd (remove_no_add out.removes is' back (omega arith))
  half_once known known' (of_taken a l t is back e) (of_call m f) = absurd (halves_apart known' is.known m (omega arith) f e)
  half_once known known' (of_taken a l t is back e) (of_return m back' f) = absurd (omega arith)
  half_once known known' (of_taken a l t is back e) (of_remove r m is' out f) = absurd (remove_no_add out.removes is back (omega arith))
  half_once known known' (of_taken a l t is back e) (of_taken b m t' is' back' f) = (omega arith, omega arith)

  -- what is listed has all three, below the bound
  half_of : {o : ℕ} → Counted h taker o → (number : ℕ) → number < 3 → (half : ℕ) × (half < 2 * bound) × Half h taker o number half
  half_of {o} counted number l = by counted (dec_lt number 2)
    where
      by : Counted h taker o → Dec (number < 2) → (half : ℕ) × (half < 2 * bound) × Half h taker o number half
      by (is_due due) (yes m) = (2 * h.call o + number, omega (arith, positions.calls o due.known), of_call m refl)
      by (is_taker t known is back) (yes m) = (2 * h.call o + number, omega (arith, positions.calls o known), of_call m refl)
      by (is_taker {a} t known is back) (no m) = (2 * h.ret a + 1, omega (arith, positions.returns a is.known back), of_taken a (omega arith) t is back refl)
      by (is_due due) (no m) = go due.listed (ℕ_discrete (h.kind o) add)
        where
          go : Returned h o ⊎ Removed h o → Dec (h.kind o ≡ add) → (half : ℕ) × (half < 2 * bound) × Half h taker o number half
          go (inl back) k = (2 * h.ret o, omega (arith, positions.returns o due.known back), of_return (omega arith) back refl)
          go (inr (r, out)) (yes k) =
              let back : Returned h r = is_returned lawful out.removes (omega arith) in
              let adds : Is h add o = record { known = due.known; kinds = k } in
              (2 * h.ret r + 1, omega (arith, positions.returns r out.removes.known back), of_remove r (omega arith) adds out refl)
          go (inr out) (no k) =
              let back = lawful.returned o due.known (omega (arith, due.kinded)) in
              (2 * h.ret o, omega (arith, positions.returns o due.known back), of_return (omega arith) back refl)

  counted_known : {o : ℕ} → Counted h taker o → o < h.count
  counted_known (is_due due) = due.known
  counted_known (is_taker t known is back) = known

  -- so different operations that are listed are few
  counted_few : (listed : List ℕ) → ((i : ℕ) → i < length listed → Counted h taker (placed listed i))
      → ((i j : ℕ) → i < j → j < length listed → placed listed i ≡ placed listed j → ⊥)
      → 3 * length listed ≤ 2 * bound
  counted_few listed counted once = partners_are_few Has (3 * length listed) (2 * bound) (λ i l. half_of (counted (i / 3) (omega arith)) (i % 3) (omega arith)) apart
    where
      Has : ℕ → ℕ → Type 0
      Has i half = Half h taker (placed listed (i / 3)) (i % 3) half

      apart : (i j half : ℕ) → i < j → j < 3 * length listed → Has i half → Has j half → ⊥
      apart i j half l m x y =
          let (same, number) = half_once (counted_known (counted (i / 3) (omega arith))) (counted_known (counted (j / 3) (omega arith))) x y in
          once (i / 3) (j / 3) (omega arith) (omega arith) same

  -- a false empty remove and the adds of its chain are to be listed, and they are different
  false_empty_few : {e : ℕ} {chain : List ℕ} → FalseEmpty h e chain → 3 * length (e ∷ chain) ≤ 2 * bound
  false_empty_few {e} {chain} y = counted_few (e ∷ chain) (λ i l. is_due (due i l)) once
    where
      due : (i : ℕ) → i < length (e ∷ chain) → Due h (placed (e ∷ chain) i)
      due zero l = record { known = y.empties.known; kinded = omega (arith, y.empties.kinds); listed = inl (is_returned lawful y.empties (omega arith)) }
      due (suc i) l =
          let linked = chain_linked y.chained i (omega arith) in
          record {
            known = linked.adds.known;
            kinded = omega (arith, linked.adds.kinds);
            listed = inl (omega (arith, linked.before, lawful.ends e y.empties.known));
          }

      once : (i j : ℕ) → i < j → j < length (e ∷ chain) → placed (e ∷ chain) i ≡ placed (e ∷ chain) j → ⊥
      once i zero l m same = omega arith
      once zero (suc j) l m same = omega (arith, ap h.kind same, y.empties.kinds, (chain_linked y.chained j (omega arith)).adds.kinds)
      once (suc i) (suc j) l m same = chain_once y.chained i j (omega arith) (omega arith) same

  occurs_few : bound ≤ 1024 → {object : Object} {n : ℕ} {listed : List ℕ} → Occurs object h n listed → length listed ≤ 682
  occurs_few few (unknown y) = omega arith
  occurs_few few (twice y) = omega arith
  occurs_few few (early y) = omega arith
  occurs_few few (stuck y) = omega arith
  occurs_few few (overtaken y) = omega arith
  occurs_few few (false_empty y) = omega (arith, false_empty_few y)
  occurs_few few (unwritten y) = omega arith
  occurs_few few (premature y) = omega arith
  occurs_few few (crossed y) = omega arith
  occurs_few few (stale y) = omega arith

-- what is to be listed where the remove that has not returned has taken the value of add a
taken_counted : {h k : History} {o a : ℕ} → Lawful h → ComesBack h k o → Is h add a → Returned h a → RemoveOf k a o → {p : ℕ} → Due k p → Counted h o p
taken_counted {h} {k} {o} {a} lawful c adds back takes {p} due = go (ℕ_discrete p o)
  where
    known : p < h.count
    known = omega (arith, due.known, c.count)

    other : (p ≡ o → ⊥) → Dec (h.kind p ≡ add) → Returned k p ⊎ Removed k p → Due h p
    other n (no m) d =
        let kinded : add ≤ h.kind p = omega (arith, due.kinded, c.kind p n) in
        record { known = known; kinded = kinded; listed = inl (lawful.returned p known (omega arith)) }
    other n (yes e) (inl r) = record { known = known; kinded = omega arith; listed = inl (omega (arith, c.ret p n, c.end)) }
    other n (yes e) (inr (r, out)) = by (ℕ_discrete r o)
      where
        by : Dec (r ≡ o) → Due h p
        by (yes same) =
            let p-is : p ≡ a = takes_one lawful c (record { known = known; kinds = e }) adds (rw same at out) takes in
            record { known = known; kinded = omega arith; listed = inl (omega (arith, ap h.ret p-is)) }
        by (no m) = record { known = known; kinded = omega arith; listed = inr (r, remove_here c (record { known = known; kinds = e }) out m) }

    go : Dec (p ≡ o) → Counted h o p
    go (yes e) = is_taker e known adds back
    go (no n) = is_due (other n (ℕ_discrete (h.kind p) add) due.listed)

module _ {h : History} (lawful : Lawful h) (returns : ReturnsApart h) {bound : ℕ} (positions : Positions h bound) (few : bound ≤ 1024) where
  judged_few : {object : Object} {listed : List ℕ} → JudgedLinearization object h listed → length listed ≤ 682
  judged_few {listed = listed} x = omega (arith, counted_few lawful returns positions 0 listed (λ i l. is_due (judged_due lawful x i l)) x.legal.ordering.once)

  -- A verdict lists few operations, with what has no kind left out,
  pub complete_at_most : {object : Object} {byte : ℕ} {listed : List ℕ} → CompleteVerdict object h byte listed → length listed ≤ 682
  complete_at_most (CompleteVerdict.linearization x) = judged_few x
  complete_at_most (CompleteVerdict.violation x) = occurs_few lawful returns positions 0 few x.occurs

  -- and with a remove that has taken a value, which is that of an add that has returned.
  pub listed_at_most : (object : Object) → LoneIn object h → {byte : ℕ} {listed : List ℕ} → Verdict object h byte listed → length listed ≤ 682
  listed_at_most object lone (Verdict.linearization left_out x) = judged_few x
  listed_at_most object lone (Verdict.violation x none) = occurs_few lawful returns positions 0 few x.occurs
  listed_at_most Queue lone (Verdict.linearization {listed = listed} (took {o = o} {a = a} is free fails lower) x) =
      let back = taking_back lone is a in
      let returned = taken_returned lawful lone is fails free (listed, judged_complete x) in
      let takes = taking_takes is free.adds in
      let due = judged_due (comes_back_lawful lawful back) x in
      let counted : (i : ℕ) → i < length listed → Counted h o (placed listed i) = λ i l. taken_counted lawful back free.adds returned takes (due i l) in
      omega (arith, counted_few lawful returns positions o listed counted x.legal.ordering.once)
