-- A legal order of a cell's history rules every pattern out.
use Prim.Native.Nat.{ℕ, suc, ◌≤◌, ◌<◌}
use native.Mathlib.Omega.{arith}
use native.Mathlib.Decide.{dec_lt}
use mathlib.Core.Path.{◌≡◌, refl, sym, ap, ◌∙◌}
use mathlib.Core.Logic.{◌⊎◌, inl, inr}
use mathlib.Core.List.{List}
use lib.ListN.{length}
use Rattle.history.specs.Object.{Cell}
use Rattle.history.specs.History.{History, write, read, Returned, Lawful}
use Rattle.history.specs.Register.{initial}
use Rattle.history.specs.Linearization.{placed, Listed, Linearization}
use Rattle.violations.specs.Cells.{On, Unwritten, Premature, Crossed, Stale}
use Rattle.violations.specs.Violations.{Occurs, unwritten, premature, crossed, stale}
use Rattle.violations.proofs.Operations.{is_returned}
use Rattle.violations.proofs.Orderings.{same_place, in_order, listed_before}
use Rattle.violations.proofs.CellRuns.{NoWrite, Source, written, held, source, initial_apart, initial_first}
use Rattle.violations.proofs.CellOperations.{read_on}

-- The write of value v stands at a place up to j, and no other write after it up to j. So the listed operations on a value stand
-- from its write on and before the next write.
pub record Begins (h : History) (order : List ℕ) (v j : ℕ) : Type 0 where
  pub at : ℕ
  pub up_to : at ≤ j
  pub kinds : h.kind (placed order at) ≡ write
  pub value : h.value (placed order at) ≡ v
  pub alone : NoWrite h order (suc at) (suc j)

-- where the operation at j is a write itself, that is the place
pub begins_here : {h : History} {order : List ℕ} {v j : ℕ} → (b : Begins h order v j) → h.kind (placed order j) ≡ write → b.at ≡ j
begins_here {j = j} b k = go (dec_lt b.at j)
  where
    go : Dec (b.at < j) → b.at ≡ j
    go (yes l) = absurd (b.alone.none j (omega arith) (omega arith) k)
    go (no l) = omega (arith, b.up_to)

-- if the write of one value stands before that of another, so does each operation on it
begins_apart : {h : History} {order : List ℕ} {a b i j : ℕ} → (x : Begins h order a i) (y : Begins h order b j) → x.at < y.at → i < j
begins_apart {i = i} {j} x y less = go (dec_lt i y.at)
  where
    go : Dec (i < y.at) → i < j
    go (yes l) = omega (arith, y.up_to)
    go (no l) = absurd (x.alone.none y.at (omega arith) (omega arith) y.kinds)

module _ {h : History} (lawful : Lawful h) {order : List ℕ} (legal : Linearization Cell h order) where
  pub begins : {v o : ℕ} → On h v o → (l : Listed order o) → Begins h order v l.at
  begins {v} {o} on l = go on.kinds
    where
      reading : h.kind o ≡ read → Source h order initial l.at → Begins h order v l.at
      reading k (held q n) = absurd (initial_apart q)
      reading k (written i b w same n) = record {
        at = i;
        up_to = omega arith;
        kinds = w;
        value = same ∙ ap h.value l.here ∙ on.is;
        alone = record { none = λ x a b w. none x a b w (dec_lt x l.at) };
      }
        where
          none : (x : ℕ) → suc i ≤ x → x < suc l.at → h.kind (placed order x) ≡ write → Dec (x < l.at) → ⊥
          none x a b w (yes y) = n.none x a y w
          none x a b w (no y) = let e : x ≡ l.at = omega arith in omega (arith, ap (λ z. h.kind (placed order z)) e, ap h.kind l.here)

      go : (h.kind o ≡ write) ⊎ (h.kind o ≡ read) → Begins h order v l.at
      go (inl k) = record {
        at = l.at;
        up_to = omega arith;
        kinds = ap h.kind l.here ∙ k;
        value = ap h.value l.here ∙ on.is;
        alone = record { none = λ x a b. absurd (omega arith) };
      }
      go (inr k) = reading k (source legal.runs l.at l.below (ap h.kind l.here ∙ k))

  -- a value has one write
  pub begins_one : {v i j : ℕ} → i < length order → j < length order → (b : Begins h order v i) (c : Begins h order v j) → b.at ≡ c.at
  begins_one {v} {i} {j} l m b c =
      let below : b.at < length order = omega (arith, b.up_to) in
      let below' : c.at < length order = omega (arith, c.up_to) in
      let one : placed order b.at ≡ placed order c.at =
      lawful.once (placed order b.at) (placed order c.at) (legal.ordering.known b.at below) (legal.ordering.known c.at below')
      b.kinds c.kinds (b.value ∙ sym c.value) in
      same_place legal.ordering b.at c.at below below' one

  -- if one operation on a value is listed, all are
  listed_with : {v o p : ℕ} → On h v o → Listed order o → On h v p → Listed order p
  listed_with {v} {o} {p} on l on' = go (dec_lt (h.ret p) h.end) on'.kinds
    where
      b : Begins h order v l.at
      b = begins on l

      below : b.at < length order
      below = omega (arith, b.up_to, l.below)

      go : Dec (Returned h p) → (h.kind p ≡ write) ⊎ (h.kind p ≡ read) → Listed order p
      go (yes r) k = legal.ordering.every p on'.known r
      go (no n) (inl k) = record {
        at = b.at;
        below = below;
        here = lawful.once (placed order b.at) p (legal.ordering.known b.at below) on'.known b.kinds k (b.value ∙ sym on'.is);
      }
      go (no n) (inr k) = absurd (n (lawful.returned p on'.known (omega arith)))

  not_unwritten : {r : ℕ} → Unwritten h r → ⊥
  not_unwritten {r} u =
      let l = legal.ordering.every r u.reads.known (is_returned lawful u.reads (omega arith)) in
      let b = begins (read_on u.reads refl) l in
      u.never (record {
        by = placed order b.at;
        writes = record { known = legal.ordering.known b.at (omega (arith, b.up_to, l.below)); kinds = b.kinds };
        is = b.value;
      })

  not_premature : {r w : ℕ} → Premature h r w → ⊥
  not_premature {r} {w} t =
      let l = legal.ordering.every r t.reads.known (is_returned lawful t.reads (omega arith)) in
      let on = read_on t.reads refl in
      let on' : On h (h.value r) w = record { known = t.writes.known; kinds = inl t.writes.kinds; is = sym t.same } in
      let m = listed_with on l on' in
      let b = begins on' m in
      let here : b.at ≡ m.at = begins_here b (ap h.kind m.here ∙ t.writes.kinds) in
      omega (arith, begins_one l.below m.below (begins on l) b, (begins on l).up_to, in_order legal.ordering lawful t.before l m)

  not_crossed : {o p q r : ℕ} → Crossed h o p q r → ⊥
  not_crossed {o} {p} {q} {r} t = go (dec_lt x.at y.at) (dec_lt y.at x.at)
    where
      lo : Listed order o
      lo = listed_before legal.ordering lawful t.first.known t.second.known t.forth

      lq : Listed order q
      lq = listed_before legal.ordering lawful t.third.known t.fourth.known t.back

      lp : Listed order p
      lp = listed_with t.third lq t.second

      lr : Listed order r
      lr = listed_with t.first lo t.fourth

      x : Begins h order t.a lo.at
      x = begins t.first lo

      y : Begins h order t.b lq.at
      y = begins t.third lq

      x' : Begins h order t.a lr.at
      x' = begins t.fourth lr

      y' : Begins h order t.b lp.at
      y' = begins t.second lp

      go : Dec (x.at < y.at) → Dec (y.at < x.at) → ⊥
      go (yes l) d = omega (arith, in_order legal.ordering lawful t.back lq lr, begins_apart x' y (omega (arith, begins_one lo.below lr.below x x')))
      go (no n) (yes l) =
          omega (arith, in_order legal.ordering lawful t.forth lo lp, begins_apart y' x (omega (arith, begins_one lq.below lp.below y y')))
      go (no n) (no m) = let e : x.at ≡ y.at = omega arith in t.different (sym x.value ∙ ap (λ i. h.value (placed order i)) e ∙ y.value)

  not_stale : {o i : ℕ} → Stale h o i → ⊥
  not_stale {o} {i} t =
      let lo = listed_before legal.ordering lawful t.on.known t.reads.known t.before in
      let li = legal.ordering.every i t.reads.known (is_returned lawful t.reads (omega arith)) in
      let b = begins t.on lo in
      let first = initial_first legal.runs li.at li.below (ap h.kind li.here ∙ t.reads.kinds) in
      first.none b.at (omega arith) (omega (arith, b.up_to, in_order legal.ordering lawful t.before lo li)) b.kinds

  -- A legal order rules every pattern out.
  pub cell_excluded : {n : ℕ} {listed : List ℕ} → Occurs Cell h n listed → ⊥
  cell_excluded (unwritten t) = not_unwritten t
  cell_excluded (premature t) = not_premature t
  cell_excluded (crossed t) = not_crossed t
  cell_excluded (stale t) = not_stale t
