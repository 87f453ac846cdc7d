-- Operations of two histories that correspond, as those of a history and of its part do, and patterns 1 to 5 on them.
use Prim.Native.Nat.{ℕ, ◌<◌}
use native.Mathlib.Omega.{arith}
use native.Mathlib.Decide.{dec_lt}
use mathlib.Core.Path.{◌≡◌, refl, sym, ap, ◌∙◌}
use mathlib.Core.Logic.Iff
use mathlib.Core.Logic.{◌↔◌}
use mathlib.Core.List.{List, [], ◌∷◌}
use Rattle.history.specs.Object.{Queue}
use Rattle.history.specs.History.{History, add, remove, Precedes}
use Rattle.history.specs.Each.{Each}
use Rattle.violations.specs.Violations.{Is, RemoveOf, Removed, Unknown, Twice, Early, Stuck, Overtaken, Occurs, twice}
use Rattle.violations.specs.Parts.{HasValue, KeptAs, Part}
use Rattle.violations.proofs.Operations.{is_valued}

-- `Same o q` says that operation o of h is operation q of k. This is what such a relation has to have so that patterns of h,
-- other than 6, occur in k. A history and its part have it in both directions.
pub record Correspondence (h k : History) (Same : ℕ → ℕ → Type 0) : Type 0 where
  pub known : {o q : ℕ} → Same o q → (o < h.count) × (q < k.count)
  pub one : {o o' q : ℕ} → Same o q → Same o' q → o ≡ o'
  pub kind : {o q : ℕ} → Same o q → h.kind o ≡ k.kind q
  pub precedes : {o o' q q' : ℕ} → Same o q → Same o' q' → Precedes h o o' → Precedes k q q'
  pub value : {o o' q q' : ℕ} → Same o q → Same o' q' → HasValue k q → HasValue k q' → (h.value o ≡ h.value o') ↔ (k.value q ≡ k.value q')
  -- an operation of k with the value of one that is an operation of h is one of h too, and the other way round
  pub whole : {o q : ℕ} → Same o q → HasValue k q → (q' : ℕ) → HasValue k q' → k.value q' ≡ k.value q → (o' : ℕ) × Same o' q'
  pub stays : {o q : ℕ} → Same o q → HasValue h o → (o' : ℕ) → HasValue h o' → h.value o' ≡ h.value o → (q' : ℕ) × Same o' q'

-- An operation of a history is the one of its part that it is kept as.
pub part_down : {h part : History} (p : Part h part) → Correspondence h part (KeptAs part p.to)
part_down {h} p = record {
  known = λ {o} {q} s. (rw (← s.is) (p.known q s.known), s.known);
  one = λ s t. sym s.is ∙ t.is;
  kind = λ {o} {q} s. rw (← s.is) (p.kind q s.known);
  precedes = λ {o} {o'} {q} {q'} s t before. (p.precedes q q' s.known t.known).0 (rw (s.is, t.is) before);
  value = λ {o} {o'} {q} {q'} s t x y. rw (← s.is, ← t.is) (p.value q q' x y);
  whole = λ s x q' y e. (p.to q', record { known = y.known; is = refl });
  stays = λ {o} {q} s x o' y e.
      p.whole o' q y (record { known = s.known; valued = omega (arith, x.valued, ap h.kind s.is, p.kind q s.known) })
      (e ∙ ap h.value (sym s.is));
}

-- An operation of a part is one of the history.
pub part_up : {h part : History} (p : Part h part) → Correspondence part h (λ q o. KeptAs part p.to o q)
part_up {h} {part} p = record {
  known = λ s. (s.known, ((part_down p).known s).0);
  one = λ {o} {o'} s t. p.one o o' s.known t.known (s.is ∙ sym t.is);
  kind = λ s. sym ((part_down p).kind s);
  precedes = λ {o} {o'} s t before. rw (← s.is, ← t.is) ((p.precedes o o' s.known t.known).1 before);
  value = λ s t x y. Iff.symm ((part_down p).value s t (has s x) (has t y));
  whole = (part_down p).stays;
  stays = (part_down p).whole;
}
  where
    has : {o q : ℕ} → KeptAs part p.to o q → HasValue h o → HasValue part q
    has s x = record { known = s.known; valued = rw ((part_down p).kind s) at x.valued }

-- Corresponding operations are of the same kind.
pub corresponding_is : {h k : History} {Same : ℕ → ℕ → Type 0} → Correspondence h k Same → {kind o q : ℕ} → Same o q → Is h kind o ↔ Is k kind q
corresponding_is m s = (
  λ i. record { known = (m.known s).1; kinds = sym (m.kind s) ∙ i.kinds },
  λ i. record { known = (m.known s).0; kinds = m.kind s ∙ i.kinds },
)

-- Whether a remove is one of an add's value is the same for corresponding operations.
pub corresponding_removes : {h k : History} {Same : ℕ → ℕ → Type 0} → Correspondence h k Same → {a b r s : ℕ} → Same a b → Same r s → Is k add b → RemoveOf h a r ↔ RemoveOf k b s
corresponding_removes {h} {k} m {a} {b} {r} {s} same_add same-remove added = (
  λ x. let there = (corresponding_is m same-remove).0 x.removes in record { removes = there; same = (equal there).0 x.same },
  λ x. record { removes = (corresponding_is m same-remove).1 x.removes; same = (equal x.removes).1 x.same },
)
  where
    equal : Is k remove s → (h.value r ≡ h.value a) ↔ (k.value s ≡ k.value b)
    equal there = m.value same-remove same_add (is_valued there (omega arith) (omega arith)) (is_valued added (omega arith) (omega arith))

-- If the value of an add is removed in k, then that of the corresponding add is removed in h.
pub corresponding_removed : {h k : History} {Same : ℕ → ℕ → Type 0} → Correspondence h k Same → {a b : ℕ} → Same a b → Is k add b → Removed k b → Removed h a
corresponding_removed m same_add added (s, x) =
    let found = m.whole same_add (is_valued added (omega arith) (omega arith)) s (is_valued x.removes (omega arith) (omega arith)) x.same in
    (found.0, (corresponding_removes m same_add found.1 added).1 x)

-- Pattern 1 goes over: an add of k that names the value of the remove corresponds to one of h that does.
pub corresponding_unknown : {h k : History} {Same : ℕ → ℕ → Type 0} → Correspondence h k Same → {r s : ℕ} → Same r s → Unknown h r → Unknown k s
corresponding_unknown {k} m {s} same-remove u = record {
  removes = there;
  unnamed = λ b added x.
      let found = m.whole same-remove (is_valued there (omega arith) (omega arith)) b (is_valued added (omega arith) (omega arith)) (sym x.same) in
      u.unnamed found.0 ((corresponding_is m found.1).1 added) ((corresponding_removes m found.1 same-remove added).1 x);
}
  where
    there : Is k remove s
    there = (corresponding_is m same-remove).0 u.removes

-- Pattern 2 goes over. The two removes may trade places, since nothing is known of the order of the numbers.
pub corresponding_twice : {h k : History} {Same : ℕ → ℕ → Type 0} → Correspondence h k Same → {r s q t : ℕ} → Same r q → Same s t → Twice h r s
    → (listed : List ℕ) × Occurs Queue k 2 listed × Each (λ q. (o : ℕ) × Same o q) listed
corresponding_twice {k} {Same} m {r} {s} {q} {t} first second x = go (dec_lt q t) (dec_lt t q)
  where
    is_first : Is k remove q
    is_first = (corresponding_is m first).0 x.first

    is_second : Is k remove t
    is_second = (corresponding_is m second).0 x.second

    equal : k.value q ≡ k.value t
    equal = (m.value first second (is_valued is_first (omega arith) (omega arith)) (is_valued is_second (omega arith) (omega arith))).0 x.same

    go : Dec (q < t) → Dec (t < q) → (listed : List ℕ) × Occurs Queue k 2 listed × Each (λ q. (o : ℕ) × Same o q) listed
    go (yes l) d = (q ∷ t ∷ [], twice (record { first = is_first; second = is_second; lower = l; same = equal }), ((r, first), ((s, second), tt)))
    go (no n) (yes l) = (t ∷ q ∷ [], twice (record { first = is_second; second = is_first; lower = l; same = sym equal }), ((s, second), ((r, first), tt)))
    go (no n) (no n') = let e : q ≡ t = omega arith in let same : r ≡ s = m.one (rw e at first) second in absurd (omega (arith, x.lower))

-- Pattern 3 goes over, field by field.
pub corresponding_early : {h k : History} {Same : ℕ → ℕ → Type 0} → Correspondence h k Same → {r a q b : ℕ} → Same r q → Same a b → Early h r a → Early k q b
corresponding_early m same-remove same_add x =
    let added = (corresponding_is m same_add).0 x.adds in
    record { adds = added; removes = (corresponding_removes m same_add same-remove added).0 x.removes; before = m.precedes same-remove same_add x.before }

-- Pattern 4 goes over: the first add is not removed in k, since it is not in h.
pub corresponding_stuck : {h k : History} {Same : ℕ → ℕ → Type 0} → Correspondence h k Same → {a b r a' b' r' : ℕ} → Same a a' → Same b b'
    → Same r r' → Stuck h a b r → Stuck k a' b' r'
corresponding_stuck m same_first same_second same-remove x =
    let first = (corresponding_is m same_first).0 x.first in
    let second = (corresponding_is m same_second).0 x.second in
    record {
      first = first;
      second = second;
      before = m.precedes same_first same_second x.before;
      removes = (corresponding_removes m same_second same-remove second).0 x.removes;
      never = λ there. x.never (corresponding_removed m same_first first there);
    }

-- Pattern 5 goes over, field by field.
pub corresponding_overtaken : {h k : History} {Same : ℕ → ℕ → Type 0} → Correspondence h k Same → {a b r s a' b' r' s' : ℕ} → Same a a' → Same b b'
    → Same r r' → Same s s'
    → Overtaken h a b r s → Overtaken k a' b' r' s'
corresponding_overtaken m same_first same_second same-remove same-late x =
    let first = (corresponding_is m same_first).0 x.first in
    let second = (corresponding_is m same_second).0 x.second in
    record {
      first = first;
      second = second;
      added_before = m.precedes same_first same_second x.added_before;
      removes = (corresponding_removes m same_second same-remove second).0 x.removes;
      removes_late = (corresponding_removes m same_first same-late first).0 x.removes_late;
      overtakes = m.precedes same-remove same-late x.overtakes;
    }
