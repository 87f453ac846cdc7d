-- A legal order of a queue's history that leaves a pending remove out rules every pattern out.
use Prim.Native.Nat.{ℕ, ◌+◌, ◌≤◌, ◌<◌}
use native.Mathlib.Omega.{arith}
use mathlib.Core.Path.{◌≡◌, refl, sym, ap, ◌∙◌}
use mathlib.Core.List.{List}
use lib.ListN.{length}
use Rattle.history.specs.Object.{Queue}
use Rattle.history.specs.History.{History, add, remove, empty_remove, Precedes, Lawful}
use Rattle.history.specs.Linearization.{placed, Listed, CompleteLinearization}
use Rattle.violations.specs.Violations.{Is, RemoveOf, Unknown, Twice, Early, Stuck, Overtaken, Gap, Reaches, removed, never, Covers, Covered, FalseEmpty, Occurs, unknown, twice, early, stuck, overtaken, false_empty}
use Rattle.violations.proofs.Choosing.{Best, best_of, greater}
use Rattle.violations.proofs.Pairing.{rank, rank_passed, Source, source, Taken, taken, taken_before_empty}
use Rattle.violations.proofs.Operations.{precedes_unless_after, is_returned, same_adder}
use Rattle.violations.proofs.Orderings.{same_place, in_order}

-- The witness gap of an empty remove: it lies behind the latest call among the empty remove and what is listed before it.
-- Whatever was added up to there is listed before, and so was removed: no value covers the gap.
pub record Witness (h : History) (order : List ℕ) (e : ℕ) : Type 0 where
  pub listed : Listed order e
  pub gap : ℕ
  -- the gap is behind the call of one of the operations up to the empty remove, and none of them is called later
  pub at : ℕ
  pub among : at ≤ listed.at
  pub here : h.call (placed order at) ≡ gap
  pub latest : (i : ℕ) → i ≤ listed.at → h.call (placed order i) ≤ gap
  pub lies : Gap h e gap
  pub uncovered : Covered h gap → ⊥

module _ {h : History} (lawful : Lawful h) {order : List ℕ} (legal : CompleteLinearization h order) where
  -- a remove, with the add whose value it takes: both are listed, and the one has the rank of the other
  pub record Served (r : ℕ) : Type 0 where
    pub adder : ℕ
    pub adds : Is h add adder
    pub removes : RemoveOf h adder r
    pub adding : Listed order adder
    pub removing : Listed order r
    pub before : adding.at < removing.at
    pub ranks : rank h order add adding.at ≡ rank h order remove removing.at

  pub served : {r : ℕ} → Is h remove r → Served r
  served {r} removes = record {
    adder = placed order s.at;
    adds = record { known = legal.ordering.known s.at below; kinds = s.adds_here };
    removes = record { removes = removes; same = sym (s.same ∙ ap h.value l.here) };
    adding = record { at = s.at; below = below; here = refl };
    removing = l;
    before = s.below;
    ranks = s.ranks;
  }
    where
      l : Listed order r
      l = legal.ordering.every r removes.known (is_returned lawful removes (omega arith))

      s : Source h order l.at
      s = source h order legal.runs l.at l.below (ap h.kind l.here ∙ removes.kinds)

      below : s.at < length order
      below = omega (arith, s.below, l.below)

  -- it is the only add of the value, and the remove is the only one
  pub adder_is : {a r : ℕ} → Is h add a → RemoveOf h a r → (s : Served r) → s.adder ≡ a
  adder_is adds removes s = same_adder lawful s.adds adds s.removes removes

  pub single : {r s : ℕ} → Is h remove r → Is h remove s → h.value r ≡ h.value s → r ≡ s
  single {r} {s} first second e =
      let not_before : x.removing.at < y.removing.at → ⊥ = λ b. omega (arith, later first x.removing y.removing b, same) in
      let not_behind : y.removing.at < x.removing.at → ⊥ = λ b. omega (arith, later second y.removing x.removing b, same) in
      let here : x.removing.at ≡ y.removing.at = omega arith in
      sym x.removing.here ∙ ap (placed order) here ∙ y.removing.here
    where
      x : Served r
      x = served first

      y : Served s
      y = served second

      adders : x.adder ≡ y.adder
      adders = sym (adder_is x.adds (record { removes = second; same = sym e ∙ x.removes.same }) y)

      places : x.adding.at ≡ y.adding.at
      places =
          same_place legal.ordering x.adding.at y.adding.at x.adding.below y.adding.below
          (x.adding.here ∙ adders ∙ sym y.adding.here)

      same : rank h order remove x.removing.at ≡ rank h order remove y.removing.at
      same = sym x.ranks ∙ ap (rank h order add) places ∙ y.ranks

      later : {r s : ℕ} → Is h remove r → (l : Listed order r) (m : Listed order s) → l.at < m.at → rank h order remove l.at < rank h order remove m.at
      later removes l m b = rank_passed h order remove l.at m.at b (ap h.kind l.here ∙ removes.kinds)

  -- the remove that has taken the value of an add
  pub taken_out : {a k : ℕ} (l : Listed order a) (t : Taken h order l.at k) → k ≤ length order → RemoveOf h a (placed order t.at)
  taken_out l t b = record {
    removes = record { known = legal.ordering.known t.at (omega (arith, t.below)); kinds = t.removes_here };
    same = t.same ∙ ap h.value l.here;
  }

  -- of two adds, one preceding the other, the first is removed, and its remove is not preceded by that of the second
  record Earlier (a r : ℕ) : Type 0 where
    remover : ℕ
    removes : RemoveOf h a remover
    kept : Precedes h r remover → ⊥

  earlier : {a b r : ℕ} → Is h add a → Is h add b → Precedes h a b → RemoveOf h b r → Earlier a r
  earlier {a} {b} {r} first second before removes = record {
    remover = placed order t.at;
    removes = taken_out l t (omega (arith, s.removing.below));
    kept = λ precedes. legal.ordering.keeps t.at s.removing.at t.below s.removing.below (rw s.removing.here precedes);
  }
    where
      s : Served r
      s = served removes.removes

      l : Listed order a
      l = legal.ordering.every a first.known (omega (arith, lawful.spans b second.known, lawful.ends b second.known))

      ahead : l.at < s.adding.at
      ahead = in_order legal.ordering lawful before l (rw (adder_is second removes s) at s.adding)

      t : Taken h order l.at s.removing.at
      t = taken h order legal.runs l.at s.removing.at (omega (arith, ahead, s.before)) (omega (arith, s.removing.below)) (ap h.kind l.here ∙ first.kinds)
          (omega (arith, rank_passed h order add l.at s.adding.at ahead (ap h.kind l.here ∙ first.kinds), s.ranks))

  -- so none of the patterns 1 to 5 occurs
  excludes_unknown : {r : ℕ} → Unknown h r → ⊥
  excludes_unknown u = let s = served u.removes in u.unnamed s.adder s.adds s.removes

  excludes_twice : {r s : ℕ} → Twice h r s → ⊥
  excludes_twice t = omega (arith, t.lower, single t.first t.second t.same)

  excludes_early : {r a : ℕ} → Early h r a → ⊥
  excludes_early {r} {a} e =
      let s : Served r = served e.removes.removes in
      let here : s.adder ≡ a = adder_is e.adds e.removes s in
      omega (arith, s.before, in_order legal.ordering lawful (rw here e.before) s.removing s.adding)

  excludes_stuck : {a b r : ℕ} → Stuck h a b r → ⊥
  excludes_stuck s = let e = earlier s.first s.second s.before s.removes in s.never (e.remover, e.removes)

  excludes_overtaken : {a b r s : ℕ} → Overtaken h a b r s → ⊥
  excludes_overtaken {a} {b} {r} {s} o =
      let e : Earlier a r = earlier o.first o.second o.added_before o.removes in
      e.kept (rw (single e.removes.removes o.removes_late.removes (e.removes.same ∙ sym o.removes_late.same)) o.overtakes)

  -- the latest call among the operations up to a place
  abbrev NoEarlier : ℕ → ℕ → Type 0
  NoEarlier i j = h.call (placed order j) ≤ h.call (placed order i)

  latest : (k : ℕ) → Best (λ i. Unit {0}) NoEarlier (k + 1)
  latest k = best_of (greater (λ i. h.call (placed order i))) (λ i. yes tt) {m = k} (omega arith) tt

  pub witness_gap : {e : ℕ} → Is h empty_remove e → Witness h order e
  witness_gap {e} empties = record {
    listed = l;
    gap = g;
    at = s.at;
    among = omega (arith, s.below);
    here = refl;
    latest = λ i b. s.best i (omega arith) tt;
    lies = record { from = rw l.here at (s.best l.at (omega arith) tt); until = until };
    uncovered = λ covered. uncovered covered.2;
  }
    where
      l : Listed order e
      l = legal.ordering.every e empties.known (is_returned lawful empties (omega arith))

      s : Best (λ i. Unit {0}) NoEarlier (l.at + 1)
      s = latest l.at

      g : ℕ
      g = h.call (placed order s.at)

      -- what returns before the latest call is listed before the empty remove
      before : {o : ℕ} → o < h.count → h.ret o ≤ h.call (placed order s.at) → (m : Listed order o) → m.at < l.at
      before known returns m =
          let there : s.at < length order = omega (arith, s.below, l.below) in
          let precedes = precedes_unless_after lawful known (legal.ordering.known s.at there) returns in
          omega (arith, s.below, in_order legal.ordering lawful precedes m (record { at = s.at; below = there; here = refl }))

      until : g < h.ret e
      until = let not_before : h.ret e ≤ h.call (placed order s.at) → ⊥ = λ b. omega (arith, before empties.known b l) in omega arith

      uncovered : {a reach : ℕ} → Covers h a reach g → ⊥
      uncovered {a} {reach} c = go c.reaches
        where
          m : Listed order a
          m = legal.ordering.every a c.adds.known (omega (arith, c.from, until, lawful.ends e empties.known))

          t : Taken h order m.at l.at
          t = taken_before_empty h order legal.runs m.at l.at (before c.adds.known c.from m) l.below (ap h.kind m.here ∙ c.adds.kinds) (ap h.kind l.here ∙ empties.kinds)

          out : RemoveOf h a (placed order t.at)
          out = taken_out m t (omega (arith, l.below))

          go : Reaches h a reach → ⊥
          go (removed r removes at) = omega (arith, at, c.until, s.best t.at (omega (arith, t.below)) tt, ap h.call (single out.removes removes.removes (out.same ∙ sym removes.same)))
          go (never n at) = n (placed order t.at, out)

  excludes_false_empty : {e : ℕ} {chain : List ℕ} → FalseEmpty h e chain → ⊥
  excludes_false_empty f = let w = witness_gap f.empties in w.uncovered (f.covered w.gap w.lies)

-- the theorem: no pattern occurs where there is a legal order
pub excluded : {h : History} → Lawful h → {order : List ℕ} → CompleteLinearization h order → {n : ℕ} {listed : List ℕ} → Occurs Queue h n listed → ⊥
excluded lawful legal (unknown u) = excludes_unknown lawful legal u
excluded lawful legal (twice t) = excludes_twice lawful legal t
excluded lawful legal (early e) = excludes_early lawful legal e
excluded lawful legal (stuck s) = excludes_stuck lawful legal s
excluded lawful legal (overtaken o) = excludes_overtaken lawful legal o
excluded lawful legal (false_empty f) = excludes_false_empty lawful legal f
