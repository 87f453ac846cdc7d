-- A legal order of a history, filtered, is a legal order of its part.
use Prim.Native.Nat.{ℕ, zero, suc, ◌<◌}
use native.Mathlib.Omega.{arith}
use native.Mathlib.Decide.{dec_lt, ℕ_discrete}
use mathlib.Core.Path.{◌≡◌, refl, sym, ap, ◌∙◌}
use mathlib.Core.Logic.Dec
use mathlib.Core.List.{List, [], ◌∷◌, ◌++◌, append-nil}
use lib.ListN.{length}
use Rattle.history.specs.History.{History}
use Rattle.history.specs.RunFrom.{done, then}
use Rattle.history.specs.Linearization.{Makes, puts, takes, meets, Fifo, placed, Listed, Ordering, CompleteLinearization}
use Rattle.history.proofs.Deciding.{equivalent?, some?}
use Rattle.violations.specs.Parts.{HasValue, KeptAs, Part, Kept, Filtered, none, kept, dropped}
use Rattle.violations.proofs.Lists.{listed_behind}
use Rattle.violations.proofs.Operations.{has_value}

-- Whether an operation is kept is decided by a search among the operations of the part.
kept? : {h part : History} (p : Part h part) (o : ℕ) → Dec (Kept p o)
kept? {part} p o = some? (KeptAs part p.to o) same? part.count (λ q s. s.known)
  where
    same? : (q : ℕ) → Dec (KeptAs part p.to o q)
    same? q = equivalent? {P = _ × _} (λ s. record { known = s.0; is = s.1 }) (λ s. (s.known, s.is)) (Dec.and (dec_lt q part.count) (ℕ_discrete (p.to q) o))

-- Every list can be filtered.
pub filter : {h part : History} (p : Part h part) (order : List ℕ) → (filtered : List ℕ) × Filtered p order filtered
filter p [] = ([], none)
filter p (o ∷ order) = go (kept? p o) (filter p order)
  where
    go : Dec (Kept p o) → (filtered : List ℕ) × Filtered p order filtered → (filtered : List ℕ) × Filtered p (o ∷ order) filtered
    go (yes k) rest = (k.0 ∷ rest.0, kept k.1 rest.1)
    go (no n) rest = (rest.0, dropped n rest.1)

-- This is where an operation that a filter leaves stood before.
place : {h part : History} {p : Part h part} {order filtered : List ℕ} → Filtered p order filtered → ℕ → ℕ
place none i = i
place (kept s rest) zero = 0
place (kept s rest) (suc i) = suc (place rest i)
place (dropped n rest) i = suc (place rest i)

-- A filter changes no order.
place_rises : {h part : History} {p : Part h part} {order filtered : List ℕ} (f : Filtered p order filtered) (i j : ℕ) → i < j → place f i < place f j
unfolding place
place_rises none i j l = l
place_rises (kept s rest) zero zero l = absurd (omega arith)
place_rises (kept s rest) zero (suc j) l = omega arith
place_rises (kept s rest) (suc i) zero l = absurd (omega arith)
place_rises (kept s rest) (suc i) (suc j) l = omega (arith, place_rises rest i j (omega arith))
place_rises (dropped n rest) i j l = omega (arith, place_rises rest i j l)

-- The operation at that place is the one that is left.
place_is : {h part : History} {p : Part h part} {order filtered : List ℕ} (f : Filtered p order filtered) (i : ℕ) → i < length filtered
    → (place f i < length order) × (placed order (place f i) ≡ p.to (placed filtered i))
unfolding place
place_is none i l = absurd (omega arith)
place_is (kept s rest) zero l = (omega arith, sym s.is)
place_is (kept s rest) (suc i) l = (omega (arith, (place_is rest i (omega arith)).0), (place_is rest i (omega arith)).1)
place_is (dropped n rest) i l = (omega (arith, (place_is rest i l).0), (place_is rest i l).1)

-- What is left is an operation of the part.
filtered_known : {h part : History} {p : Part h part} {order filtered : List ℕ} → Filtered p order filtered → (i : ℕ) → i < length filtered → placed filtered i < part.count
filtered_known none i l = absurd (omega arith)
filtered_known (kept s rest) zero l = s.known
filtered_known (kept s rest) (suc i) l = filtered_known rest i (omega arith)
filtered_known (dropped n rest) i l = filtered_known rest i l

-- A kept operation that was listed is left.
filtered_listed : {h part : History} {p : Part h part} {order filtered : List ℕ} → Filtered p order filtered → (q : ℕ) → q < part.count
    → (i : ℕ) → i < length order → placed order i ≡ p.to q → Listed filtered q
filtered_listed none q known i l e = absurd (omega arith)
filtered_listed {p} (kept {q = r} s rest) q known zero l here = record { at = 0; below = omega arith; here = p.one r q s.known known (s.is ∙ here) }
filtered_listed (kept s rest) q known (suc i) l here = listed_behind _ _ (filtered_listed rest q known i (omega arith) here)
filtered_listed (dropped n rest) q known zero l here = absurd (n (q, record { known = known; is = sym here }))
filtered_listed (dropped n rest) q known (suc i) l here = filtered_listed rest q known i (omega arith) here

-- The queue of a history beside that of its part at the same time: a value in the first is that of a kept operation, and
-- then the second holds what it is in the part, or it is the value of no kept operation.
data Thinned {h part : History} (p : Part h part) : List ℕ → List ℕ → Type 0 where
  nothing : Thinned p [] []
  stays : {q v w : ℕ} {queue thin : List ℕ} → HasValue part q → h.value (p.to q) ≡ v → part.value q ≡ w → Thinned p queue thin → Thinned p (v ∷ queue) (w ∷ thin)
  goes : {v : ℕ} {queue thin : List ℕ} → ((q : ℕ) → HasValue part q → h.value (p.to q) ≡ v → ⊥) → Thinned p queue thin → Thinned p (v ∷ queue) thin

-- Queues that stand beside each other still do so with more behind them.
thinned_append : {h part : History} {p : Part h part} {queue thin more thin-more : List ℕ} → Thinned p queue thin → Thinned p more thin-more → Thinned p (queue ++ more) (thin ++ thin-more)
thinned_append nothing t = t
thinned_append (stays x e f rest) t = stays x e f (thinned_append rest t)
thinned_append (goes n rest) t = goes n (thinned_append rest t)

-- What a kept operation makes of the queue, its counterpart makes of the part's queue.
kept_makes : {h part : History} {p : Part h part} {q : ℕ} {queue queue' thin : List ℕ} → q < part.count → Makes h (p.to q) queue queue' → Thinned p queue thin
    → (thin' : List ℕ) × Makes part q thin thin' × Thinned p queue' thin'
kept_makes {part} {p} {q} {thin} l (puts a) t = (
  thin ++ (part.value q ∷ []),
  puts (sym (p.kind q l) ∙ a),
  thinned_append t (stays (has_value l (omega (arith, p.kind q l)) (omega (arith, p.kind q l))) refl refl nothing),
)
kept_makes {p} {q} l (takes r v) (stays {q = s} {thin = thin} x e f rest) =
    (thin, takes (sym (p.kind q l) ∙ r) ((p.value q s (has_value l (omega (arith, p.kind q l)) (omega (arith, p.kind q l))) x).0 (v ∙ sym e) ∙ f), rest)
kept_makes {p} {q} l (takes r v) (goes n rest) = absurd (n q (has_value l (omega (arith, p.kind q l)) (omega (arith, p.kind q l))) v)
kept_makes {p} {q} l (meets e) nothing = ([], meets (sym (p.kind q l) ∙ e), nothing)

-- An operation that is not kept makes nothing of the part's queue, since its value is that of no kept operation.
dropped_makes : {h part : History} {p : Part h part} {o : ℕ} {queue queue' thin : List ℕ} → o < h.count → (Kept p o → ⊥) → Makes h o queue queue' → Thinned p queue thin
    → Thinned p queue' thin
dropped_makes {p} {o} l n (puts a) t =
    rw append-nil at (thinned_append t (goes (λ q x e. n (p.whole o q (has_value l (omega arith) (omega arith)) x (sym e))) nothing))
dropped_makes {p} {o} l n (takes r v) (stays {q = q} x e f rest) = absurd (n (p.whole o q (has_value l (omega arith) (omega arith)) x (v ∙ sym e)))
dropped_makes l n (takes r v) (goes m rest) = rest
dropped_makes l n (meets e) nothing = nothing

-- What is left of operations that can be run can be run in the part.
filtered_runs : {h part : History} {p : Part h part} {order filtered queue thin : List ℕ} → ((i : ℕ) → i < length order → placed order i < h.count)
    → Filtered p order filtered → Fifo h order queue → Thinned p queue thin → Fifo part filtered thin
filtered_runs known none done t = done
filtered_runs {p} known (kept {q = q} s rest) (then made run) t =
    let next = kept_makes {p = p} {q = q} s.known (rw (← s.is) at made) t in
    then next.1 (filtered_runs (λ i k. known (suc i) (omega arith)) rest run next.2)
filtered_runs known (dropped n rest) (then made run) t =
    filtered_runs (λ i k. known (suc i) (omega arith)) rest run (dropped_makes (known 0 (omega arith)) n made t)

-- What is left keeps the order.
filtered_ordering : {h part : History} (p : Part h part) {order filtered : List ℕ} → Filtered p order filtered → Ordering h order → Ordering part filtered
filtered_ordering p {order} {filtered} f o = record {
  known = filtered_known f;
  every = λ q known returned.
      let there : Listed order (p.to q) = o.every (p.to q) (p.known q known) ((p.returned q known).1 returned) in
      filtered_listed f q known there.at there.below there.here;
  once = λ i j before below same.
      o.once (place f i) (place f j) (place_rises f i j before) (place_is f j below).0
      ((place_is f i (omega arith)).1 ∙ ap p.to same ∙ sym (place_is f j below).1);
  keeps = λ i j before below precedes.
      o.keeps (place f i) (place f j) (place_rises f i j before) (place_is f j below).0
      (rw ((place_is f i (omega arith)).1, (place_is f j below).1)
      ((p.precedes (placed filtered j) (placed filtered i) (filtered_known f j below) (filtered_known f i (omega arith))).1 precedes));
}

-- A legal order, filtered, is a legal order of the part.
pub part_linearization : {h part : History} (p : Part h part) {order filtered : List ℕ} → Filtered p order filtered → CompleteLinearization h order
    → CompleteLinearization part filtered
part_linearization p f legal = record {
  ordering = filtered_ordering p f legal.ordering;
  runs = filtered_runs legal.ordering.known f legal.runs nothing;
}
