-- Which operations may be placed, as the code tests it, and as the theory of the search says.
use Prim.Native.Nat.{ℕ, ◌+◌, ◌-◌, ◌≤◌, ◌<◌}
use native.Mathlib.Omega.{arith}
use native.Mathlib.Decide.{dec_lt, ℕ_discrete}
use mathlib.Core.Path.{◌≡◌, refl, sym, ap, ◌∙◌}
use mathlib.Core.Logic.{◌⊎◌, inl, inr}
use mathlib.Core.List.{List, [], ◌∷◌, ◌++◌}
use lib.Dec.{ltb}
use lib.ListN.{length, get_or}
use lib.Seq.{slice-cons, length-slice}
use Rattle.std.proofs.lemmas.List.{nil_from_length}
use Rattle.reader.specs.Log.{max_records}
use Rattle.history.specs.Answers.{Decides}
use Rattle.history.specs.History.{History, add, remove, empty_remove, no_kind, Returned}
use Rattle.history.specs.Linearization.{Listed}
use Rattle.violations.specs.Violations.{Is, Removed, Reaches, removed, never}
use Rattle.violations.specs.Greedy.{Due, Left, Enabled, Placeable}
use Rattle.violations.specs.Found.{Safe, Serves, enqueues, dequeues, meets_empty}
use Rattle.violations.proofs.Operations.{removed?}
use Rattle.violations.proofs.Greedy.{left?}
use Rattle.matching.specs.Held.{Held}
use Rattle.matching.specs.Reaches.{reach_at, Reaching}
use Rattle.matching.proofs.Reaching.{reach_within}
use Rattle.matching.proofs.Tests.{decided_less}
use Rattle.search.specs.Bounds.{limit_at, Least, BoundTable}
use Rattle.search.specs.Searching.{gap_at, HaveGaps, Limits, Stands, LeastOf, order_in, waiting_in, queue_in, Cap, Fit, adds, removes, empties}
use Rattle.search.specs.declared.search.Stand.{Stand}

-- whether an operation of a lawful history is an add, a remove or an empty remove
pub data Kinds (h : History) (o : ℕ) : Type 0 where
  is_add : Is h add o → Kinds h o
  is_remove : Is h remove o → Kinds h o
  is_empty : Is h empty_remove o → Kinds h o
  is_none : Is h no_kind o → Kinds h o

pub kinds : {h : History} → Held h → (o : ℕ) → o < h.count → Kinds h o
kinds {h} held o known = go (ℕ_discrete (h.kind o) add) (ℕ_discrete (h.kind o) remove) (ℕ_discrete (h.kind o) empty_remove)
  where
    go : Dec (h.kind o ≡ add) → Dec (h.kind o ≡ remove) → Dec (h.kind o ≡ empty_remove) → Kinds h o
    go (yes e) d f = is_add (record { known = known; kinds = e })
    go (no n) (yes e) f = is_remove (record { known = known; kinds = e })
    go (no n) (no m) (yes e) = is_empty (record { known = known; kinds = e })
    go (no n) (no m) (no k) = is_none (record { known = known; kinds = omega (arith, held.lawful.kinds o known) })

-- an operation that sets a limit is to be listed
limit_due : {h : History} {limit : List ℕ} → Held h → Limits h limit → (o : ℕ) → o < h.count → (Due h o → ⊥) → limit_at limit o ≡ h.end + 1
limit_due held limits o known idle =
    limits.others o known
    (λ e. idle (record { known = known; kinded = omega arith; listed = inl (held.lawful.returned o known (omega arith)) }))
    (λ is out. idle (record { known = known; kinded = omega (arith, is.kinds); listed = inr out }))

-- an operation that has not returned is to be listed if its value reaches less far than the end
pub due_tested : {h : History} {reach : List ℕ} → Held h → Reaching h reach → (o : ℕ) → o < h.count → h.end ≤ h.ret o → Decides (Due h o) (ltb (reach_at reach o) h.end)
due_tested {h} {reach} held reaching o known pending = decided_less (reach_at reach o) h.end (λ l. due l (kinds held o known)) (λ d. short d d.listed (kinds held o known))
  where
    no_remove : add < h.kind o → ⊥
    no_remove k = let back : Returned h o = held.lawful.returned o known k in omega arith

    due : reach_at reach o < h.end → Kinds h o → Due h o
    due l (is_add is) = by (reaching.reaches o is)
      where
        by : Reaches h o (reach_at reach o) → Due h o
        by (removed r out e) = record { known = known; kinded = omega (arith, is.kinds); listed = inr (r, out) }
        by (never n e) = absurd (omega arith)
    due l (is_remove is) = absurd (no_remove (omega (arith, is.kinds)))
    due l (is_empty is) = absurd (no_remove (omega (arith, is.kinds)))
    due l (is_none is) = absurd (omega (arith, reaching.idle o is))

    short : Due h o → Returned h o ⊎ Removed h o → Kinds h o → reach_at reach o < h.end
    short d (inl back) k = absurd (omega arith)
    short d (inr out) (is_add is) = by (reaching.reaches o is)
      where
        by : Reaches h o (reach_at reach o) → reach_at reach o < h.end
        by (removed r out' e) = let there : r < h.count = out'.removes.known in omega (arith, held.lawful.spans r there, held.lawful.ends r there)
        by (never n e) = absurd (n out)
    short d (inr out) (is_remove is) = absurd (no_remove (omega (arith, is.kinds)))
    short d (inr out) (is_empty is) = absurd (no_remove (omega (arith, is.kinds)))
    short d (inr out) (is_none is) = absurd (omega (arith, d.kinded, is.kinds))

-- The least limit of those that wait and of those that are not enabled yet is the least of all that is left.
pub cap_is : {h : History} {reach limit bound : List ℕ} {s : Stand} {waiting queue list : List ℕ} {x : ℕ} → Held h → Limits h limit → BoundTable h.count h.end limit 0 bound
    → Stands h reach limit s waiting queue list → LeastOf (limit_at limit) (get_or bound s.next 0) (waiting_in s waiting) x → Cap h limit (order_in s list) x
cap_is {h} {reach} {limit} {bound} {s} {waiting} {queue} {list} {x} held limits bounds stands least = record { below = λ o left. under o left (dec_lt o s.next); met = met least.met }
  where
    rest : Least h.count h.end limit s.next (get_or bound s.next 0)
    rest = bounds.least s.next (omega arith) stands.next_within

    under : (o : ℕ) → Left h (order_in s list) o → Dec (o < s.next) → x ≤ limit_at limit o
    under o left (yes l) = least.below o (stands.waits.all o l left)
    under o left (no l) = omega (arith, least.within, rest.below o (omega arith) left.due.known)

    behind : (o : ℕ) → s.next ≤ o → o < h.count → limit_at limit o ≡ x → Dec (Left h (order_in s list) o) → (x ≡ h.end + 1) ⊎ ((p : ℕ) × Left h (order_in s list) p × (limit_at limit p ≡ x))
    behind o l known e (yes left) = inr (o, left, e)
    behind o l known e (no n) = inl (sym e ∙ limit_due held limits o known (λ due. n (record { due = due; unplaced = λ at. omega (arith, stands.placed_below o at) })))

    last : x ≡ get_or bound s.next 0 → (get_or bound s.next 0 ≡ h.end + 1) ⊎ ((o : ℕ) × (s.next ≤ o) × (o < h.count) × (limit_at limit o ≡ get_or bound s.next 0))
        → (x ≡ h.end + 1) ⊎ ((p : ℕ) × Left h (order_in s list) p × (limit_at limit p ≡ x))
    last e (inl b) = inl (e ∙ b)
    last e (inr (o, l, known, b)) = behind o l known (b ∙ sym e) (left? h (order_in s list) o)

    met : (x ≡ get_or bound s.next 0) ⊎ ((o : ℕ) × Listed (waiting_in s waiting) o × (limit_at limit o ≡ x)) → (x ≡ h.end + 1) ⊎ ((p : ℕ) × Left h (order_in s list) p × (limit_at limit p ≡ x))
    met (inl e) = last e rest.met
    met (inr (o, at, e)) = inr (o, (stands.waits.are o at).1, e)

-- The queue lies inside its table and holds operations.
pub record QueueRoom (h : History) (s : Stand) (queue : List ℕ) : Type 0 where
  pub sized : length queue ≡ max_records
  pub head_within : s.head ≤ s.tail
  pub tail_within : s.tail ≤ max_records
  pub known : (o : ℕ) → Listed (queue_in s queue) o → o < h.count

module _ {h : History} {s : Stand} {queue : List ℕ} (room : QueueRoom h s queue) where
  -- the front of a queue that is not empty
  front : s.head < s.tail → get_or (queue_in s queue) 0 0 ≡ get_or queue s.head 0
  front l = ap (λ l. get_or l 0 0) (slice-cons s.head s.tail queue 0 l (omega (arith, room.sized, room.tail_within)))

  pub queue_long : length (queue_in s queue) ≡ s.tail - s.head
  queue_long = length-slice s.head s.tail queue (omega (arith, room.sized, room.tail_within))

-- what the test asks of a remove
pub fit_remove : {h : History} {reach queue : List ℕ} {cap o : ℕ} → Fit h reach queue cap o → h.kind o ≡ remove → 0 < length queue
fit_remove (adds e l) k = absurd (omega arith)
fit_remove (removes e l f) k = l
fit_remove (empties e f) k = absurd (omega arith)

module _ {h : History} (reach limit order : List ℕ) (cap : ℕ) (limits : Limits h limit) (capped : Cap h limit order cap) where
  -- an add that reaches less far than all limits is safe
  below_safe : {a : ℕ} → reach_at reach a < cap → Safe h (reach_at reach) (gap_at limit) order a
  below_safe l = record {
    removes = λ b r is left out. omega (arith, capped.below b left, limits.removed_adds b r is out);
    empties = λ e is left. omega (arith, capped.below e left);
  }

  -- and a safe one does so, if each empty remove has a gap
  safe_below : Held h → Reaching h reach → HaveGaps h limit → {a : ℕ} → Is h add a → Safe h (reach_at reach) (gap_at limit) order a → reach_at reach a < cap
  safe_below held reaching gaps {a} is safe = go capped.met
    where
      within : reach_at reach a ≤ h.end
      within = reach_within held reaching is

      by_add : (o : ℕ) → Is h add o → Left h order o → limit_at limit o ≡ cap → Dec (Removed h o) → reach_at reach a < cap
      by_add o other left e (yes (r, out)) = omega (arith, within, safe.removes o r other left out, limits.removed_adds o r other out)
      by_add o other left e (no n) = omega (arith, within, limits.others o other.known (λ f. omega (arith, other.kinds)) (λ i out. n out))

      by_kind : (o : ℕ) → Left h order o → limit_at limit o ≡ cap → Kinds h o → reach_at reach a < cap
      by_kind o left e (is_add other) = by_add o other left e (removed? h o)
      by_kind o left e (is_remove other) = omega (arith, within, limits.others o other.known (λ f. omega (arith, other.kinds)) (λ i out. omega (arith, other.kinds, i.kinds)))
      by_kind o left e (is_none other) = absurd (omega (arith, other.kinds, left.due.kinded))
      by_kind o left e (is_empty other) = omega (arith, safe.empties o other left, gaps o other)

      go : (cap ≡ h.end + 1) ⊎ ((o : ℕ) × Left h order o × (limit_at limit o ≡ cap)) → reach_at reach a < cap
      go (inl e) = omega (arith, within)
      go (inr (o, left, e)) = by_kind o left e (kinds held o left.due.known)

  -- what the placeable operation makes of the queue, by what the code tests of it
  pub fit_places : {s : Stand} {queue : List ℕ} → QueueRoom h s queue → {o : ℕ} → Enabled h order o → Fit h reach (queue_in s queue) cap o → (queue' : List ℕ)
      → (h.kind o ≡ add → queue' ≡ queue_in s queue ++ (o ∷ []))
      → (h.kind o ≡ remove → s.head < s.tail → queue_in s queue ≡ get_or queue s.head 0 ∷ queue') → (h.kind o ≡ empty_remove → queue' ≡ queue_in s queue)
      → Placeable h (Serves h (reach_at reach) (gap_at limit)) order (queue_in s queue) o queue'
  fit_places room enabled (adds k l) queue' added removed' empty = record { enabled = enabled; serves = rw (added k) (enqueues k (below_safe l)) }
  fit_places {s} {queue} room enabled (removes k l e) queue' added removed' empty =
      let some : s.head < s.tail = omega (arith, queue_long room) in
      record {
        enabled = enabled;
        serves = rw (removed' k some) (dequeues (record { removes = record { known = enabled.left.due.known; kinds = k }; same = sym e ∙ ap h.value (front room some) }));
      }
  fit_places {s} {queue} room enabled (empties k e) queue' added removed' empty =
      let none : queue_in s queue ≡ [] = nil_from_length (queue_in s queue) e in
      record { enabled = enabled; serves = rw (empty k, none) (meets_empty k) }

  -- a placeable operation passes the code's test
  pub placeable_fits : Held h → Reaching h reach → HaveGaps h limit → {o : ℕ} {queue queue' : List ℕ}
      → Placeable h (Serves h (reach_at reach) (gap_at limit)) order queue o queue' → Fit h reach queue cap o
  placeable_fits held reaching gaps {o} {queue} {queue'} p = go p.serves
    where
      go : {q q' : List ℕ} → Serves h (reach_at reach) (gap_at limit) order o q q' → Fit h reach q cap o
      go (enqueues k safe) = adds k (safe_below held reaching gaps (record { known = p.enabled.left.due.known; kinds = k }) safe)
      go (dequeues out) = removes out.removes.kinds (omega arith) (sym out.same)
      go (meets_empty k) = empties k refl
