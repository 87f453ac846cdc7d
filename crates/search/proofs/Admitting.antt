-- Operations are admitted one after the other, as long as they are enabled.
use Prim.Native.Nat.{ℕ, ◌+◌, ◌≤◌, ◌<◌}
use native.Mathlib.Omega.{arith}
use mathlib.Core.Path.{◌≡◌, refl}
use mathlib.Core.Logic.{◌⊎◌, inl, inr}
use mathlib.Core.List.{List}
use lib.ListN.{length, take}
use Rattle.table.specs.Table.{Pushed}
use Rattle.history.specs.History.{History}
use Rattle.history.specs.Linearization.{Listed}
use Rattle.violations.specs.Greedy.{Due}
use Rattle.violations.proofs.Lists.{listed_either}
use Rattle.matching.specs.Held.{Held}
use Rattle.search.specs.Searching.{Waits, order_in, LeastReturn, Room, AdmittedOne, Admitted}
use Rattle.search.specs.declared.search.Stand.{Stand}
use Rattle.search.specs.declared.search.Admission.{Admission}
use Rattle.search.proofs.Least.{least_more, least_of}
use Rattle.search.proofs.Waiting.{waits_skip, waits_more, waits_enabling}

module _ {h : History} (held : Held h) (a : Admission) (known : a.next < h.count) where
  -- an operation that the judge does not list does not wait
  pub admitted_skip : (waiting : List ℕ) → (Due h a.next → ⊥) → AdmittedOne h a waiting (record { next = a.next + 1; waiting = a.waiting; least = a.least }) waiting
  admitted_skip waiting idle = record {
    more = refl;
    room = λ room. record { sized = room.sized; next_within = omega arith; within = omega (arith, room.within); known = room.known };
    least = λ least. least;
    waits = λ order below least waits. waits_skip held.lawful waits idle;
  }

  -- any other does
  pub admitted_more : {waiting waiting' : List ℕ} {least : ℕ} → Due h a.next → h.call a.next < a.least → Pushed a.waiting a.next waiting waiting'
      → (least ≤ a.least) × (least ≤ h.ret a.next) × ((least ≡ a.least) ⊎ (least ≡ h.ret a.next))
      → AdmittedOne h a waiting (record { next = a.next + 1; waiting = a.waiting + 1; least = least }) waiting'
  admitted_more {waiting} {waiting'} due enabled pushed one = record {
    more = refl;
    room = λ room. record { sized = pushed.sized; next_within = omega arith; within = omega (arith, room.within); known = rw pushed.holds (λ o at. there room o (listed_either (take a.waiting waiting) a.next at)) };
    least = λ least. rw pushed.holds (least_more (take a.waiting waiting) least one);
    waits = λ order below least waits. rw pushed.holds (waits_more held.lawful waits known least enabled due below);
  }
    where
      there : Room h a.next a.waiting waiting → (o : ℕ) → Listed (take a.waiting waiting) o ⊎ (a.next ≡ o) → o < h.count
      there room o (inl at) = room.known o at
      there room o (inr e) = omega arith

-- All that goes on while operations are admitted: the first `next` of them are told, and those that wait have a least return.
pub record Admitting (h : History) (s : Stand) (before : List ℕ) (a : Admission) (waiting : List ℕ) : Type 0 where
  pub room : Room h a.next a.waiting waiting
  pub least : LeastReturn h (take a.waiting waiting) a.least
  pub onward : s.next ≤ a.next
  pub waits : (order : List ℕ) → ((o : ℕ) → Listed order o → o < s.next) → Waits h order s.next (take s.waiting before) → Waits h order a.next (take a.waiting waiting)

pub admitting_starts : {h : History} {s : Stand} {waiting : List ℕ} {least : ℕ} → Room h s.next s.waiting waiting → LeastReturn h (take s.waiting waiting) least
    → Admitting h s waiting (record { next = s.next; waiting = s.waiting; least = least }) waiting
admitting_starts room least = record { room = room; least = least; onward = omega arith; waits = λ order below waits. waits }

pub admitting_next : {h : History} {s : Stand} {before : List ℕ} {a b : Admission} {waiting waiting' : List ℕ} → Admitting h s before a waiting → AdmittedOne h a waiting b waiting' → Admitting h s before b waiting'
admitting_next m one = record {
  room = one.room m.room;
  least = one.least m.least;
  onward = omega (arith, m.onward, one.more);
  waits = λ order below waits. one.waits order (λ o at. omega (arith, below o at, m.onward)) m.least (m.waits order below waits);
}

-- when no more is enabled, the search is ready to place
pub admitting_ends : {h : History} {s : Stand} {before : List ℕ} {a : Admission} {waiting : List ℕ} → Held h → Admitting h s before a waiting → ((a.next < h.count) × (h.call a.next < a.least) → ⊥)
    → Admitted h s before (record { next = a.next; waiting = a.waiting; head = s.head; tail = s.tail; placed = s.placed }) waiting
admitting_ends {h} {s} {before} {a} {waiting} held m closed = record {
  placed_is = refl;
  ready = λ reach limit queue list stands.
      let waits = m.waits (order_in s list) stands.placed_below stands.waits in
      record {
        stands = record {
          waiting_sized = m.room.sized;
          queue_sized = stands.queue_sized;
          list_sized = stands.list_sized;
          next_within = m.room.next_within;
          waiting_within = m.room.within;
          head_within = stands.head_within;
          tail_within = stands.tail_within;
          placed_within = stands.placed_within;
          searched = stands.searched;
          waits = waits;
          placed_below = λ o at. omega (arith, stands.placed_below o at, m.onward);
          built = stands.built;
        };
        enabling = waits_enabling held.lawful waits m.room.next_within m.least closed;
      };
}

-- once all operations have been enabled, none is left to be admitted
pub admitted_all : {h : History} {s : Stand} {waiting : List ℕ} → Held h → Room h s.next s.waiting waiting → h.count ≤ s.next → Admitted h s waiting s waiting
admitted_all {h} {s} {waiting} held room all =
    let fits : s.waiting ≤ length waiting = omega (arith, room.within, room.next_within, room.sized, held.few) in
    admitting_ends held (admitting_starts room (least_of h.ret h.end waiting s.waiting fits).1) (λ next. omega (arith, next.0))
