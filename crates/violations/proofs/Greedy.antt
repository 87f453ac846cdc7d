-- The search of specs/Greedy.antt, whatever is benched: what is placed stays the beginning of an order, the search ends, and it
-- finds one order only.
use Prim.Native.Nat.{ℕ, zero, suc, ◌+◌, ◌≤◌, ◌<◌}
use native.Mathlib.Omega.{arith}
use native.Mathlib.Decide.{dec_le, dec_lt}
use mathlib.Core.Path.{◌≡◌, refl}
use mathlib.Core.Logic.Dec
use mathlib.Core.Logic.{◌⊎◌, inl, inr}
use mathlib.Core.List.{List, [], ◌∷◌, ◌++◌, append-nil}
use lib.ListN.{length, length-append}
use lib.Seq.{append_snoc}
use Rattle.reader.specs.Search.{None}
use Rattle.reader.proofs.Search.{Lowest, lowest}
use Rattle.history.specs.Object.{Object}
use Rattle.history.specs.History.{History, Returned, Precedes, Lawful}
use Rattle.history.specs.Linearization.{Runnable, placed, Listed}
use Rattle.history.proofs.Counting.{different_are_few}
use Rattle.history.proofs.Deciding.{all_below?, implies?, equivalent?, either?, listed?}
use Rattle.violations.specs.Violations.{Removed}
use Rattle.violations.specs.Verdict.{JudgedLinearization}
use Rattle.violations.specs.Greedy.{Due, Left, Enabled, Placeable, Continues, ends, places, Begun}
use Rattle.violations.proofs.Lists.{snoc, listed_old, listed_new, listed_either, each_snoc, pairs_snoc}
use Rattle.violations.proofs.Operations.{removed?}
use Rattle.violations.proofs.Choosing.{best_of, lesser}
use Rattle.violations.proofs.Judged.{returned_due}

-- whether an operation is to be listed, is left, is enabled
due? : (h : History) (o : ℕ) → Dec (Due h o)
due? h o =
    equivalent? {P = _ × (_ × _)} (λ p. record { known = p.0; kinded = p.1.0; listed = p.1.1 }) (λ d. (d.known, (d.kinded, d.listed)))
    (Dec.and (dec_lt _ _) (Dec.and (dec_le _ _) (either? (dec_lt _ _) (removed? h o))))

pub left? : (h : History) (order : List ℕ) (o : ℕ) → Dec (Left h order o)
left? h order o =
    equivalent? {P = _ × (_ → ⊥)} (λ p. record { due = p.0; unplaced = p.1 }) (λ l. (l.due, l.unplaced))
    (Dec.and (due? h o) (Dec.not (listed? order o)))

pub enabled? : (h : History) (order : List ℕ) (o : ℕ) → Dec (Enabled h order o)
enabled? h order o =
    equivalent? {P = _ × _} (λ p. record { left = p.0; first = λ q l. p.1 q l.due.known l }) (λ e. (e.left, λ q l. e.first q))
    (Dec.and (left? h order o) (all_below? (λ q. implies? (left? h order q) (dec_lt _ _)) h.count))

-- What is left when one more operation is placed.
module _ {h : History} (order : List ℕ) (o : ℕ) where
  pub left_before : {p : ℕ} → Left h (snoc order o) p → Left h order p
  left_before l = record { due = l.due; unplaced = λ m. l.unplaced (listed_old order o m) }

  pub left_other : {p : ℕ} → Left h (snoc order o) p → o ≡ p → ⊥
  left_other l e = l.unplaced (rw (← e) (listed_new order o))

  pub left_still : {p : ℕ} → Left h order p → (o ≡ p → ⊥) → Left h (snoc order o) p
  left_still {p} l n = record { due = l.due; unplaced = λ m. go (listed_either order o m) }
    where
      go : Listed order p ⊎ (o ≡ p) → ⊥
      go (inl m) = l.unplaced m
      go (inr e) = n e

-- Of what is left one operation returns first, and all that is called before that is enabled.
pub record Earliest (h : History) (order : List ℕ) (p : ℕ) : Type 0 where
  pub left : Left h order p
  pub first : (q : ℕ) → Left h order q → h.ret p ≤ h.ret q

pub earliest : {h : History} {order : List ℕ} {o : ℕ} → Left h order o → (p : ℕ) × Earliest h order p
earliest {h} {order} l =
    let p = best_of (lesser h.ret) (left? h order) l.due.known l in
    (p.at, record { left = p.holds; first = λ q m. p.best q m.due.known m })

pub called_enabled : {h : History} {order : List ℕ} {p o : ℕ} → Earliest h order p → Left h order o → h.call o < h.ret p → Enabled h order o
called_enabled e l before = record { left = l; first = λ q m. omega (arith, e.first q m) }

pub earliest_enabled : {h : History} {order : List ℕ} {p : ℕ} → Lawful h → Earliest h order p → Enabled h order p
earliest_enabled {p = p} lawful e = called_enabled e e.left (lawful.spans p e.left.due.known)

-- What is placed is the beginning of an order: at the start, and when one more operation is placed.
pub begun_none : {h : History} → Begun h []
begun_none = record {
  due = λ i l. absurd (omega arith);
  once = λ i j l m. absurd (omega arith);
  keeps = λ i j l m. absurd (omega arith);
  ahead = λ i p l. absurd (omega arith);
}

pub begun_more : {h : History} {order : List ℕ} {o : ℕ} → Begun h order → Enabled h order o → Begun h (snoc order o)
begun_more {h} {order} {o} b e = record {
  due = each_snoc order o (λ x. Due h x) b.due e.left.due;
  once = pairs_snoc order o (λ x y. x ≡ y → ⊥) b.once (λ i l same. e.left.unplaced (record { at = i; below = l; here = same }));
  keeps = pairs_snoc order o (λ x y. Precedes h y x → ⊥) b.keeps (λ i l. b.ahead i o l e.left);
  ahead = λ i q l m.
      each_snoc order o (λ x. Precedes h q x → ⊥) (λ j n. b.ahead j q n (left_before order o m))
      (λ precedes. omega (arith, e.first q (left_before order o m))) i l;
}

-- no more is placed than there is
pub begun_few : {h : History} {order : List ℕ} → Begun h order → length order ≤ h.count
begun_few {h} {order} b = different_are_few (placed order) (length order) h.count (λ i l. (b.due i l).known) b.once

-- Where nothing is left, what is placed and can be run is an order as the judge lists it.
pub begun_judged : (object : Object) {h : History} → Lawful h → {order : List ℕ} → Begun h order → Runnable object h order → ((o : ℕ) → Left h order o → ⊥)
    → JudgedLinearization object h order
begun_judged object {h} lawful {order} b runs none = record {
  legal = record {
    ordering = record { known = λ i l. (b.due i l).known; every = λ o l returned. listed (returned_due lawful o l returned); once = b.once; keeps = b.keeps };
    runs = runs;
  };
  pending = λ a is unreturned. (
    λ m. removed unreturned (rw m.here at (b.due m.at m.below)).listed,
    λ r. listed (record { known = is.known; kinded = omega (arith, is.kinds); listed = inr r }),
  );
  complete = λ i l. (b.due i l).kinded;
}
  where
    listed : {o : ℕ} → Due h o → Listed order o
    listed {o} due = go (listed? order o)
      where
        go : Dec (Listed order o) → Listed order o
        go (yes l) = l
        go (no n) = absurd (none o (record { due = due; unplaced = n }))

    removed : {a : ℕ} → (Returned h a → ⊥) → Returned h a ⊎ Removed h a → Removed h a
    removed unreturned (inl r) = absurd (unreturned r)
    removed unreturned (inr r) = r

-- Something is placeable.
abbrev pub Next : {S : Type 0} (h : History) (Serves : List ℕ → ℕ → S → S → Type 0) → List ℕ → S → Type 0
Next {S} h Serves order s = (o : ℕ) × (s' : S) × Placeable h Serves order s o s'

-- What a search needs so that it finds an order: `Searched` holds while operations are placed, it goes on while something is
-- left, and what may be placed is decided.
pub record Search {S : Type 0} (h : History) (Serves : List ℕ → ℕ → S → S → Type 0) (Searched : List ℕ → S → Type 0) : Type 0 where
  pub begun : (order : List ℕ) (s : S) → Searched order s → Begun h order
  pub places_more : (order : List ℕ) (s s' : S) (o : ℕ) → Searched order s → Placeable h Serves order s o s' → Searched (snoc order o) s'
  pub goes_on : (order : List ℕ) (s : S) (o : ℕ) → Searched order s → Left h order o → Next h Serves order s
  pub serves? : (order : List ℕ) (o : ℕ) (s : S) → Dec ((s' : S) × Serves order o s s')

-- What it finds after an order: what it goes on with until nothing is left.
pub record Finds {S : Type 0} (h : History) (Serves : List ℕ → ℕ → S → S → Type 0) (Searched : List ℕ → S → Type 0) (order : List ℕ) (s : S) : Type 0 where
  pub more : List ℕ
  pub continues : Continues h Serves order s more
  pub state : S
  pub searched : Searched (order ++ more) state
  pub none_left : (o : ℕ) → Left h (order ++ more) o → ⊥

-- The search places the lowest operation that may be placed, until nothing is left.
module _ {S : Type 0} {h : History} {Serves : List ℕ → ℕ → S → S → Type 0} {Searched : List ℕ → S → Type 0} (search : Search h Serves Searched) where
  finds_within : (fuel : ℕ) (order : List ℕ) (s : S) → Searched order s → h.count < length order + fuel → Finds h Serves Searched order s
  finds_within zero order s st enough = absurd (omega (arith, begun_few (search.begun order s st)))
  finds_within (suc fuel) order s st enough = go (lowest (Left h order) (left? h order) h.count) (finds_within fuel)
    where
      Places : ℕ → Type 0
      Places o = (s' : S) × Placeable h Serves order s o s'

      places? : (o : ℕ) → Dec (Places o)
      places? o =
          equivalent? {P = _ × _} (λ p. (p.1.0, record { enabled = p.0; serves = p.1.1 })) (λ p. (p.1.enabled, (p.0, p.1.serves)))
          (Dec.and (enabled? h order o) (search.serves? order o s))

      chosen : Next h Serves order s → Lowest Places h.count ⊎ None Places h.count → Lowest Places h.count
      chosen next (inl l) = l
      chosen (o, s', p) (inr none) = absurd (none o p.enabled.left.due.known (s', p))

      after : (l : Lowest Places h.count) → Finds h Serves Searched (snoc order l.at) l.holds.0 → Finds h Serves Searched order s
      after l f = record {
        more = l.at ∷ f.more;
        continues = places l.holds.1 (λ p other b q. l.none_lower p b (other, q)) f.continues;
        state = f.state;
        searched = rw (append_snoc order l.at f.more) at f.searched;
        none_left = rw (append_snoc order l.at f.more) at f.none_left;
      }

      go : Lowest (Left h order) h.count ⊎ None (Left h order) h.count
          → ((order : List ℕ) (s : S) → Searched order s → h.count < length order + fuel → Finds h Serves Searched order s) → Finds h Serves Searched order s
      go (inr none) further =
          let over : (o : ℕ) → Left h order o → ⊥ = λ o l. none o l.due.known l in
          record { more = []; continues = ends over; state = s; searched = rw (append-nil order) st; none_left = rw (append-nil order) over }
      go (inl some) further =
          let l = chosen (search.goes_on order s some.at st some.holds) (lowest Places places? h.count) in
          let more = search.places_more order s l.holds.0 l.at st l.holds.1 in
          after l (further (snoc order l.at) l.holds.0 more (omega (arith, length-append order (l.at ∷ []))))

  pub search_finds : (s : S) → Searched [] s → Finds h Serves Searched [] s
  search_finds s st = finds_within (suc h.count) [] s st (omega arith)

-- It goes on in one way only, if an operation makes only one thing of a state.
pub continues_one : {S : Type 0} {h : History} {Serves : List ℕ → ℕ → S → S → Type 0}
    → ((order : List ℕ) (o : ℕ) (s left right : S) → Serves order o s left → Serves order o s right → left ≡ right)
    → {order xs ys : List ℕ} {s : S} → Continues h Serves order s xs → Continues h Serves order s ys → xs ≡ ys
continues_one one (ends none) (ends none') = refl
continues_one one (ends none) (places p low rest) = absurd (none _ p.enabled.left)
continues_one one (places p low rest) (ends none) = absurd (none _ p.enabled.left)
continues_one one {order} {s = s} (places {s' = left} {o = o} p low rest) (places {s' = right} {o = o'} p' low' rest') =
    let not_lower : o < o' → ⊥ = λ l. low' o left l p in
    let not_higher : o' < o → ⊥ = λ l. low o' right l p' in
    let same : o' ≡ o = omega arith in
    let states : left ≡ right = one order o s left right p.serves (rw same at p'.serves) in
    cc (same, continues_one one rest (rw (same, ← states) at rest'))
