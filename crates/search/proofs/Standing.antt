-- How the search stands: when an operation is placed, and when it ends.
use Prim.Native.Nat.{ℕ, ◌+◌, ◌-◌, ◌≤◌, ◌<◌}
use native.Mathlib.Omega.{arith}
use mathlib.Core.Path.{◌≡◌, sym, ap, ◌∙◌}
use mathlib.Core.Logic.{◌⊎◌, inl, inr}
use mathlib.Core.List.{List, [], ◌∷◌, ◌++◌, append-nil}
use lib.ListN.{length, get_or, take, drop, length-append}
use Rattle.std.proofs.lemmas.List.{drop-take}
use lib.Seq.{length-take-le, get_or-take, append_snoc}
use Rattle.reader.specs.Log.{max_records}
use Rattle.table.specs.Table.{without, Pushed}
use Rattle.history.specs.Object.{Queue}
use Rattle.history.specs.History.{History}
use Rattle.history.specs.Linearization.{placed, Listed}
use Rattle.history.proofs.Counting.{different_are_few}
use Rattle.violations.specs.Verdict.{JudgedLinearization}
use Rattle.violations.specs.Search.{Single, Sound, Searched}
use Rattle.violations.specs.Greedy.{Left, Placeable, Continues, ends, places}
use Rattle.violations.specs.Found.{Serves}
use Rattle.violations.proofs.Laws.{search_places, search_ends, search_goes_on}
use Rattle.violations.proofs.Greedy.{begun_few}
use Rattle.violations.proofs.Lists.{snoc, listed_old, listed_new, listed_either, each_snoc, pairs_snoc}
use Rattle.matching.specs.Held.{Held}
use Rattle.matching.specs.Reaches.{reach_at, Reaching}
use Rattle.matching.specs.Answers.{First}
use Rattle.search.specs.Searching.{gap_at, HaveGaps, Limits, Waits, order_in, waiting_in, queue_in, Stands, Room, Ready, Cap, Fit, Queues}
use Rattle.search.specs.declared.search.Stand.{Stand}
use Rattle.search.proofs.Waiting.{waits_enabled, enabled_waits, none_waits}
use Rattle.search.proofs.Removing.{without_was, without_keeps, without_rises}
use Rattle.search.proofs.Fitting.{QueueRoom, queue_long, fit_remove, fit_places, placeable_fits}

-- an index of a table below n is one of its first n entries
pub entry : (table : List ℕ) (n i : ℕ) → n ≤ length table → i < n → Listed (take n table) (get_or table i 0)
entry table n i within l = record { at = i; below = omega (arith, length-take-le n table within); here = get_or-take n table i 0 l }

-- what waits fits its table, and is operations
module _ {h : History} {next n : ℕ} {waiting : List ℕ} (held : Held h) (room : Room h next n waiting) where
  pub room_fits : n ≤ length waiting
  room_fits = omega (arith, room.within, room.next_within, room.sized, held.few)

  pub room_known : {i : ℕ} → i < n → get_or waiting i 0 < h.count
  room_known {i} l = room.known _ (entry waiting n i room_fits l)

module _ {h : History} {reach limit : List ℕ} {s : Stand} {waiting queue list : List ℕ} (held : Held h) (stands : Stands h reach limit s waiting queue list) where
  pub stands_room : Room h s.next s.waiting waiting
  stands_room = record { sized = stands.waiting_sized; next_within = stands.next_within; within = stands.waiting_within; known = λ o at. omega (arith, (stands.waits.are o at).0, stands.next_within) }

  pub stands_queue : QueueRoom h s queue
  stands_queue = record {
    sized = stands.queue_sized;
    head_within = stands.head_within;
    tail_within = omega (arith, stands.tail_within, stands.placed_within, held.few);
    known = λ o at. (stands.searched.queued.added o at).0.known;
  }

  -- the queue as the code cuts it out of its table
  pub queue_cut : take (s.tail - s.head) (drop s.head queue) ≡ queue_in s queue
  queue_cut =
      let e : s.head + (s.tail - s.head) ≡ s.tail = omega (arith, stands.head_within) in
      sym (rw e at (drop-take s.head (s.tail - s.head) queue))

  pub waiting_long : length (waiting_in s waiting) ≡ s.waiting
  waiting_long = length-take-le s.waiting waiting (omega (arith, stands.waiting_sized, stands.waiting_within, stands.next_within, held.few))

  order_long : length (order_in s list) ≡ s.placed
  order_long = length-take-le s.placed list (omega (arith, stands.list_sized, stands.placed_within, held.few))

module _ {h : History} {reach limit : List ℕ} {s : Stand} {waiting queue list : List ℕ} (held : Held h) (ready : Ready h reach limit s waiting queue list) where
  abbrev stands : Stands h reach limit s waiting queue list
  stands = ready.stands

  abbrev order : List ℕ
  order = order_in s list

  abbrev waiters : List ℕ
  waiters = waiting_in s waiting

  -- where nothing waits, nothing is left: the order is whole, and found as the search goes
  ready_ends : s.waiting ≡ 0 → (o : ℕ) → Left h order o → ⊥
  ready_ends none = none_waits held.lawful stands.waits ready.enabling (waiting_long held stands ∙ none)

  pub ready_whole : s.waiting ≡ 0 → JudgedLinearization Queue h order
  ready_whole none = search_ends held.lawful stands.searched (ready_ends none)

  pub ready_found : s.waiting ≡ 0 → HaveGaps h limit → Continues h (Serves h (reach_at reach) (gap_at limit)) [] [] order
  ready_found none gaps = rw (append-nil order) at (stands.built gaps [] (ends (ready_ends none)))

  -- where something waits, there is room in the order
  pub ready_room : 0 < s.waiting → s.placed < h.count
  ready_room some =
      let first : Listed waiters (get_or waiting 0 0) = entry waiting s.waiting 0 (omega (arith, stands.waiting_sized, stands.waiting_within, stands.next_within, held.few)) some in
      let left = (stands.waits.are (get_or waiting 0 0) first).1 in
      let fresh : (i : ℕ) → i < length order → placed order i ≡ get_or waiting 0 0 → ⊥ = λ i l e. left.unplaced (record { at = i; below = l; here = e }) in
      let few = different_are_few (placed (snoc order (get_or waiting 0 0))) (length (snoc order (get_or waiting 0 0))) h.count
      (each_snoc order (get_or waiting 0 0) (λ o. o < h.count) (λ i l. (stands.searched.begun.due i l).known) left.due.known)
      (pairs_snoc order (get_or waiting 0 0) (λ o p. o ≡ p → ⊥) stands.searched.begun.once fresh) in
      omega (arith, few, length-append order (get_or waiting 0 0 ∷ []), order_long held stands)

  module _ {cap : ℕ} (reaching : Reaching h reach) (limits : Limits h limit) (capped : Cap h limit order cap) where
    -- what is placeable waits, and fits
    record Waiter (p : ℕ) : Type 0 where
      index : ℕ
      inside : index < length waiters
      here : placed waiters index ≡ p
      fit : Fit h reach (queue_in s queue) cap (placed waiters index)

    waiter : HaveGaps h limit → {p : ℕ} {queue' : List ℕ} → Placeable h (Serves h (reach_at reach) (gap_at limit)) order (queue_in s queue) p queue' → Waiter p
    waiter gaps {p} placeable =
        let there = enabled_waits held.lawful stands.waits ready.enabling placeable.enabled in
        record { index = there.at; inside = there.below; here = there.here; fit = rw (there.here) (placeable_fits reach limit order cap limits capped held reaching gaps placeable) }

    -- where none of those that wait fits, the tables do not serve
    pub ready_short : 0 < s.waiting → ((i : ℕ) → i < length waiters → Fit h reach (queue_in s queue) cap (placed waiters i) → ⊥) → Sound h (reach_at reach) (gap_at limit) → HaveGaps h limit → ⊥
    ready_short some none sound gaps =
        let first : Listed waiters (get_or waiting 0 0) = entry waiting s.waiting 0 (omega (arith, stands.waiting_sized, stands.waiting_within, stands.next_within, held.few)) some in
        let (o, queue', placeable) = search_goes_on held.lawful sound stands.searched (stands.waits.are (get_or waiting 0 0) first).1 in
        let w = waiter gaps placeable in
        none w.index w.inside w.fit

    -- The first of those that wait that fits is placed.
    module _ (single : Single h) {i : ℕ} (inside : i < s.waiting) (first : First (λ j. Fit h reach (queue_in s queue) cap (placed waiters j)) (length waiters) i) where
      abbrev o : ℕ
      o = get_or waiting i 0

      at_i : placed waiters i ≡ o
      at_i = get_or-take s.waiting waiting i 0 inside

      in_waiters : i < length waiters
      in_waiters = omega (arith, waiting_long held stands)

      fit : Fit h reach (queue_in s queue) cap o
      fit = rw at_i at (first.holds in_waiters)

      -- it is the lowest that is placeable
      lowest : HaveGaps h limit → (p : ℕ) (other : List ℕ) → p < o → Placeable h (Serves h (reach_at reach) (gap_at limit)) order (queue_in s queue) p other → ⊥
      lowest gaps p queue' less placeable =
          let w = waiter gaps placeable in
          let not-here : w.index ≡ i → ⊥ = λ e. omega (arith, ap (placed waiters) e, w.here, at_i) in
          let not_behind : i < w.index → ⊥ = λ l. omega (arith, stands.waits.rise i w.index l w.inside, w.here, at_i) in
          first.none_lower w.index (omega arith) w.fit

      o_waits : Listed waiters o
      o_waits = record { at = i; below = in_waiters; here = at_i }

      -- an operation that waits at another index is another one
      other : (j : ℕ) → j < length waiters → (j ≡ i → ⊥) → o ≡ placed waiters j → ⊥
      other j l n e =
          let low : j < i → ⊥ = λ m. omega (arith, stands.waits.rise j i m in_waiters, at_i) in
          let high : i < j → ⊥ = λ m. omega (arith, stands.waits.rise i j m l, at_i) in
          n (omega arith)

      placed_waits : Waits h (snoc order o) s.next (without i waiters)
      placed_waits = record {
        are = are;
        all = all;
        rise = without_rises waiters i in_waiters stands.waits.rise;
        overlap = λ p q a b. stands.waits.overlap p q (was a) (was b);
      }
        where
          was : {p : ℕ} → Listed (without i waiters) p → Listed waiters p
          was at = let (j, l, n, e) = without_was waiters i in_waiters at in record { at = j; below = l; here = e }

          are : (p : ℕ) → Listed (without i waiters) p → (p < s.next) × Left h (snoc order o) p
          are p at =
              let (j, l, n, e) = without_was waiters i in_waiters at in
              let (below, left) = stands.waits.are p (was at) in
              (below, record { due = left.due; unplaced = λ there. unplaced left (λ same. other j l n (same ∙ sym e)) (listed_either order o there) })
            where
              unplaced : Left h order p → (o ≡ p → ⊥) → Listed order p ⊎ (o ≡ p) → ⊥
              unplaced left n (inl there) = left.unplaced there
              unplaced left n (inr same) = n same

          all : (p : ℕ) → p < s.next → Left h (snoc order o) p → Listed (without i waiters) p
          all p l left =
              let there = stands.waits.all p l (record { due = left.due; unplaced = λ at. left.unplaced (listed_old order o at) }) in
              rw there.here at (without_keeps waiters i in_waiters there.at there.below
              (λ e. let same : p ≡ o = sym there.here ∙ ap (placed waiters) e ∙ at_i in left.unplaced (rw same (listed_new order o))))

      placed_low : (p : ℕ) → Listed order p ⊎ (o ≡ p) → p < s.next
      placed_low p (inl at) = stands.placed_below p at
      placed_low p (inr e) = omega (arith, (stands.waits.are o o_waits).0)

      -- how the search goes on behind it is how it goes on from where it stands
      placed_built : {queue' : List ℕ} → Placeable h (Serves h (reach_at reach) (gap_at limit)) order (queue_in s queue) o queue' → HaveGaps h limit
          → (more : List ℕ)
          → Continues h (Serves h (reach_at reach) (gap_at limit)) (snoc order o) queue' more
          → Continues h (Serves h (reach_at reach) (gap_at limit)) [] [] (snoc order o ++ more)
      placed_built placeable gaps more rest = rw (append_snoc order o more) (stands.built gaps (o ∷ more) (places placeable (lowest gaps) rest))

      pub ready_places : {t : Stand} {waiting' queue' list' : List ℕ} → length waiting' ≡ max_records → take (s.waiting - 1) waiting' ≡ without i waiters → Pushed s.placed o list list' → Queues (h.kind o) o s queue t queue'
          → Stands h reach limit t waiting' queue' list'
      ready_places {t} {waiting'} {queue'} {list'} sized left pushed queues =
          let grown : order_in t list' ≡ snoc order o = rw queues.placed_is pushed.holds in
          let fewer : waiting_in t waiting' ≡ without i waiters = rw queues.waiting_is left in
          let placeable : Placeable h (Serves h (reach_at reach) (gap_at limit)) order (queue_in s queue) o (queue_in t queue') =
          fit_places reach limit order cap limits capped (stands_queue held stands) (waits_enabled held.lawful stands.waits ready.enabling o_waits) fit (queue_in t queue') queues.added queues.removed queues.empty in
          let more : Searched h (reach_at reach) (gap_at limit) (snoc order o) (queue_in t queue') = search_places held.lawful stands.searched single placeable in
          record {
            waiting_sized = sized;
            queue_sized = queues.sized;
            list_sized = pushed.sized;
            next_within = omega (arith, queues.next_is, stands.next_within);
            waiting_within = omega (arith, queues.waiting_is, queues.next_is, stands.waiting_within);
            head_within = queues.head_within (λ k. omega (arith, fit_remove fit k, queue_long (stands_queue held stands)));
            tail_within = omega (arith, queues.tail_within, queues.placed_is, stands.tail_within);
            placed_within = omega (arith, begun_few more.begun, length-append order (o ∷ []), order_long held stands, queues.placed_is);
            searched = rw grown more;
            waits = rw (grown, fewer, queues.next_is) placed_waits;
            placed_below = rw (grown, queues.next_is) (λ p at. placed_low p (listed_either order o at));
            built = rw grown (placed_built placeable);
          }
