-- The search for an order of a queue's history, step by step: it starts, it may place any operation that is placeable, and where
-- nothing is left it has listed a legal order. For this only pattern 2 has to be ruled out.
use Prim.Native.Nat.{ℕ, suc, ◌≤◌, ◌<◌}
use native.Mathlib.Omega.{arith}
use native.Mathlib.Decide.{ℕ_discrete}
use mathlib.Core.Path.{◌≡◌, sym, ap, ◌∙◌}
use mathlib.Core.Logic.{◌⊎◌, inl, inr, ◌↔◌}
use mathlib.Core.List.{List, [], ◌∷◌, map, append-nil, map-append}
use lib.Seq.{append_snoc}
use Rattle.history.specs.Object.{Queue}
use Rattle.history.specs.History.{History, add, empty_remove, Lawful}
use Rattle.history.specs.RunFrom.{done, then}
use Rattle.history.specs.Linearization.{Makes, puts, takes, meets, Listed}
use Rattle.history.proofs.Queues.{fifo_runs}
use Rattle.violations.specs.Violations.{Is, RemoveOf}
use Rattle.violations.specs.Verdict.{JudgedLinearization}
use Rattle.violations.specs.Search.{Single, Queued, Searched}
use Rattle.violations.specs.Greedy.{Due, Left, Placeable}
use Rattle.violations.specs.Found.{Safe, Serves, enqueues, dequeues, meets_empty}
use Rattle.violations.proofs.Lists.{snoc, listed_none, listed_old, listed_new, listed_either, each_snoc, pairs_snoc, listed_behind, listed_first, listed_here}
use Rattle.violations.proofs.Operations.{is_returned, same_adder}
use Rattle.violations.proofs.Greedy.{left_before, left_other, left_still, begun_none, begun_more, begun_judged}

-- an operation of one kind is none of another
another : {h : History} {o p kind : ℕ} → Is h kind p → (h.kind o ≡ kind → ⊥) → o ≡ p → ⊥
another {h} is n e = n (ap h.kind e ∙ is.kinds)

-- nothing is in an empty queue
pub left_alone : {h : History} {order : List ℕ} {a : ℕ} → Left h order a ⊎ Listed [] a → Left h order a
left_alone (inl l) = l
left_alone (inr l) = absurd (listed_none l)

-- an empty queue: a remove is left exactly if its add is
empty_queue : {h : History} {reach gap : ℕ → ℕ} {order : List ℕ} → ((a r : ℕ) → Is h add a → RemoveOf h a r → Left h order r ↔ Left h order a) → Queued h reach gap order []
empty_queue both = record {
  added = λ a l. absurd (listed_none l);
  apart = λ i j l m. absurd (omega arith);
  served = λ a r is out. (λ l. inl ((both a r is out).0 l), λ l. (both a r is out).1 (left_alone l));
  before_adds = λ i b r l. absurd (omega arith);
  before_queued = λ i j r l m. absurd (omega arith);
  before_empties = λ i e l. absurd (omega arith);
}

-- an add that is placed is the last in the queue
queue_add : {h : History} {reach gap : ℕ → ℕ} {order queue : List ℕ} {o : ℕ} → Left h order o → Queued h reach gap order queue → h.kind o ≡ add → Safe h reach gap order o → Queued h reach gap (snoc order o) (snoc queue o)
queue_add {h} {reach} {gap} {order} {queue} {o} left s k safe = record {
  added = λ a l. added (listed_either queue o l);
  apart = pairs_snoc queue o (λ x y. x ≡ y → ⊥) s.apart (λ i l e. left.unplaced (s.added o (record { at = i; below = l; here = e })).1);
  served = λ a r is out. (λ l. behind (ℕ_discrete o a) ((s.served a r is out).0 (left_before order o l)), λ l. left_still order o ((s.served a r is out).1 (before l)) (another out.removes (λ e. omega arith)));
  before_adds = λ i b r l is m out. each_snoc queue o (λ q. reach q < h.ret r) (λ j n. s.before_adds j b r n is (left_before order o m) out) (safe.removes b r is (left_before order o m) out) i l;
  before_queued = λ i j r. pairs_snoc queue o (λ x y. RemoveOf h y r → reach x < h.ret r) (λ x y. s.before_queued x y r) (λ x l. s.before_adds x o r l adding left) i j;
  before_empties = λ i e l is m. each_snoc queue o (λ q. reach q ≤ gap e) (λ j n. s.before_empties j e n is (left_before order o m)) (safe.empties e is (left_before order o m)) i l;
}
  where
    adding : Is h add o
    adding = record { known = left.due.known; kinds = k }

    added : {a : ℕ} → Listed queue a ⊎ (o ≡ a) → Is h add a × Listed (snoc order o) a
    added {a} (inl l) = ((s.added a l).0, listed_old order o (s.added a l).1)
    added (inr e) = rw (← e) (adding, listed_new order o)

    behind : {a : ℕ} → Dec (o ≡ a) → Left h order a ⊎ Listed queue a → Left h (snoc order o) a ⊎ Listed (snoc queue o) a
    behind (yes e) d = inr (rw (← e) (listed_new queue o))
    behind (no n) (inl l) = inl (left_still order o l n)
    behind (no n) (inr l) = inr (listed_old queue o l)

    before : {a : ℕ} → Left h (snoc order o) a ⊎ Listed (snoc queue o) a → Left h order a ⊎ Listed queue a
    before (inl l) = inl (left_before order o l)
    before {a} (inr l) = go (listed_either queue o l)
      where
        go : Listed queue a ⊎ (o ≡ a) → Left h order a ⊎ Listed queue a
        go (inl m) = inr m
        go (inr e) = inl (rw (← e) left)

-- a remove that is placed takes the first from the queue
queue_remove : {h : History} {reach gap : ℕ → ℕ} {order queue : List ℕ} {a o : ℕ} → Lawful h → Single h → Queued h reach gap order (a ∷ queue) → RemoveOf h a o → Queued h reach gap (snoc order o) queue
queue_remove {h} {order = order} {queue} {a} {o} lawful single s out = record {
  added = λ b l. ((s.added b (listed_behind a queue l)).0, listed_old order o (s.added b (listed_behind a queue l)).1);
  apart = λ i j l m. s.apart (suc i) (suc j) (omega arith) (omega arith);
  served = λ b r is off. (λ l. behind is off l ((s.served b r is off).0 (left_before order o l)), λ l. left_still order o ((s.served b r is off).1 (before l)) (λ e. gone is (rw (← e) at off) l));
  before_adds = λ i b r l is m. s.before_adds (suc i) b r (omega arith) is (left_before order o m);
  before_queued = λ i j r l m. s.before_queued (suc i) (suc j) r (omega arith) (omega arith);
  before_empties = λ i e l is m. s.before_empties (suc i) e (omega arith) is (left_before order o m);
}
  where
    front : Is h add a × Listed order a
    front = s.added a (listed_here a queue)

    -- another remove that is left is of another value
    behind : {b r : ℕ} → Is h add b → RemoveOf h b r → Left h (snoc order o) r → Left h order b ⊎ Listed (a ∷ queue) b → Left h (snoc order o) b ⊎ Listed queue b
    behind is off l (inl m) = inl (left_still order o m (another is (λ e. omega (arith, out.removes.kinds))))
    behind {b} {r} is off l (inr m) = go (listed_first a queue m)
      where
        go : (a ≡ b) ⊎ Listed queue b → Left h (snoc order o) b ⊎ Listed queue b
        go (inl e) = absurd (left_other order o l (single o r out.removes off.removes (out.same ∙ ap h.value e ∙ sym off.same)))
        go (inr n) = inr n

    before : {b : ℕ} → Left h (snoc order o) b ⊎ Listed queue b → Left h order b ⊎ Listed (a ∷ queue) b
    before (inl l) = inl (left_before order o l)
    before (inr l) = inr (listed_behind a queue l)

    -- the add at the front is neither left nor in the queue again
    gone : {b : ℕ} → Is h add b → RemoveOf h b o → Left h (snoc order o) b ⊎ Listed queue b → ⊥
    gone {b} is off l = go l
      where
        same : a ≡ b
        same = same_adder lawful front.0 is out off

        go : Left h (snoc order o) b ⊎ Listed queue b → ⊥
        go (inl m) = (left_before order o m).unplaced (rw (← same) front.1)
        go (inr m) = s.apart 0 (suc m.at) (omega arith) (omega (arith, m.below)) (same ∙ sym m.here)

-- an empty remove leaves the queue empty
queue_empty : {h : History} {reach gap : ℕ → ℕ} {order : List ℕ} (o : ℕ) → Queued h reach gap order [] → h.kind o ≡ empty_remove → Queued h reach gap (snoc order o) []
queue_empty {order = order} o s k = empty_queue (λ a r is out. (
  λ l. left_still order o (left_alone ((s.served a r is out).0 (left_before order o l))) (another is (λ e. omega arith)),
  λ l. left_still order o ((s.served a r is out).1 (inl (left_before order o l))) (another out.removes (λ e. omega arith)),
))

-- an operation that is placed makes of the values in the queue what it makes of the queue
pub serves_makes : {h : History} {reach gap : ℕ → ℕ} {order queue queue' : List ℕ} {o : ℕ} → Serves h reach gap order o queue queue'
    → Makes h o (map h.value queue) (map h.value queue')
serves_makes {h} {o = o} (enqueues {queue = queue} e safe) = rw (map-append h.value queue (o ∷ [])) (puts e)
serves_makes (dequeues out) = takes out.removes.kinds out.same
serves_makes (meets_empty e) = meets e

module _ {h : History} (lawful : Lawful h) where
  -- the search starts with nothing placed
  pub search_starts : (reach gap : ℕ → ℕ) → Searched h reach gap [] []
  search_starts reach gap = record {
    begun = begun_none;
    runs = λ more run. run;
    queued = empty_queue (λ a r is out. (
      λ l. record {
        due = record { known = is.known; kinded = omega (arith, is.kinds); listed = inr (r, out) };
        unplaced = listed_none;
      },
      λ l. record { due = remove_due out; unplaced = listed_none },
    ));
  }
    where
      remove_due : {a r : ℕ} → RemoveOf h a r → Due h r
      remove_due out = record {
        known = out.removes.known;
        kinded = omega (arith, out.removes.kinds);
        listed = inl (is_returned lawful out.removes (omega arith));
      }

  module _ {reach gap : ℕ → ℕ} {order queue : List ℕ} (s : Searched h reach gap order queue) where
    -- any placeable operation may be placed
    pub search_places : Single h → {queue' : List ℕ} {o : ℕ} → Placeable h (Serves h reach gap) order queue o queue'
        → Searched h reach gap (snoc order o) queue'
    search_places single {queue'} {o} p = record {
      begun = begun_more s.begun p.enabled;
      runs = λ more run. rw (append_snoc order o more) (s.runs (o ∷ more) (then (serves_makes p.serves) run));
      queued = go s.queued p.serves;
    }
      where
        go : {queue queue' : List ℕ} → Queued h reach gap order queue → Serves h reach gap order o queue queue' → Queued h reach gap (snoc order o) queue'
        go q (enqueues k safe) = queue_add p.enabled.left q k safe
        go q (dequeues out) = queue_remove lawful single q out
        go q (meets_empty k) = queue_empty o q k

-- where nothing is left, a legal order is listed, with a pending add exactly if its value was removed
pub search_ends : {h : History} → Lawful h → {reach gap : ℕ → ℕ} {order queue : List ℕ} → Searched h reach gap order queue
    → ((o : ℕ) → Left h order o → ⊥) → JudgedLinearization Queue h order
search_ends lawful {order = order} s none = begun_judged Queue lawful s.begun (fifo_runs (rw (append-nil order) at (s.runs [] done))) none
