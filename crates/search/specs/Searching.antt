-- What the code keeps while it searches for an order: the operations that wait to be placed, the queue, and the order so far. The theory of the
-- search is in the crate violations, specs/Search.antt. What the judge answers can be understood without this file.
use Rattle.std.specs.Prelude.{ℕ, ◌+◌, ◌-◌, ◌≤◌, ◌<◌, ◌≡◌, ◌⊎◌, List, [], ◌∷◌, ◌++◌, length, get_or, take, Option, Some, None}
use Rattle.std.proofs.Math.Seq.{slice}
use Rattle.reader.specs.Log.{max_records}
use Rattle.history.specs.Object.{Queue}
use Rattle.history.specs.History.{History, add, remove, empty_remove}
use Rattle.history.specs.Linearization.{placed, Listed}
use Rattle.violations.specs.Violations.{Is, RemoveOf, Removed}
use Rattle.violations.specs.Verdict.{JudgedLinearization}
use Rattle.violations.specs.Search.{Single, Sound, Searched}
use Rattle.violations.specs.Greedy.{Left, Continues}
use Rattle.violations.specs.Found.{Serves}
use Rattle.matching.specs.Answers.{First}
use Rattle.matching.specs.Reaches.{reach_at, Reaching}
use Rattle.search.specs.Bounds.{limit_at}
use Rattle.search.specs.declared.search.Stand.{Stand}
use Rattle.search.specs.declared.search.Admission.{Admission}

-- the gap of an empty remove, as the table of limits has it
abbrev pub gap_at : List ℕ → ℕ → ℕ
gap_at limit e = limit_at limit e - 1

-- It has one for each of them.
abbrev pub HaveGaps : History → List ℕ → Type 0
HaveGaps h limit = (e : ℕ) → Is h empty_remove e → 0 < limit_at limit e

-- The tables that the search goes by are right: how far values reach, and the limits that operations set.
pub record Limits (h : History) (limit : List ℕ) : Type 0 where
  pub sized : length limit ≡ max_records
  pub removed_adds : (a r : ℕ) → Is h add a → RemoveOf h a r → limit_at limit a ≡ h.ret r
  pub others : (o : ℕ) → o < h.count → (h.kind o ≡ empty_remove → ⊥) → (Is h add o → Removed h o → ⊥) → limit_at limit o ≡ h.end + 1

-- The operations in a list that wait: those below `next` that are left, in their order. None precedes another.
pub record Waits (h : History) (order : List ℕ) (next : ℕ) (waiting : List ℕ) : Type 0 where
  pub are : (o : ℕ) → Listed waiting o → (o < next) × Left h order o
  pub all : (o : ℕ) → o < next → Left h order o → Listed waiting o
  pub rise : (i j : ℕ) → i < j → j < length waiting → placed waiting i < placed waiting j
  pub overlap : (o p : ℕ) → Listed waiting o → Listed waiting p → h.call o < h.ret p

-- the operations placed so far, those that wait, and the queue of adds
abbrev pub order_in : Stand → List ℕ → List ℕ
order_in s list = take s.placed list

abbrev pub waiting_in : Stand → List ℕ → List ℕ
waiting_in s waiting = take s.waiting waiting

abbrev pub queue_in : Stand → List ℕ → List ℕ
queue_in s queue = slice s.head s.tail queue

-- How the search stands.
pub record Stands (h : History) (reach limit : List ℕ) (s : Stand) (waiting queue list : List ℕ) : Type 0 where
  pub waiting_sized : length waiting ≡ max_records
  pub queue_sized : length queue ≡ max_records
  pub list_sized : length list ≡ max_records
  pub next_within : s.next ≤ h.count
  pub waiting_within : s.waiting ≤ s.next
  pub head_within : s.head ≤ s.tail
  pub tail_within : s.tail ≤ s.placed
  pub placed_within : s.placed ≤ h.count
  pub searched : Searched h (reach_at reach) (gap_at limit) (order_in s list) (queue_in s queue)
  pub waits : Waits h (order_in s list) s.next (waiting_in s waiting)
  pub placed_below : (o : ℕ) → Listed (order_in s list) o → o < s.next
  -- always the lowest operation was placed that may be placed: if the search goes on so, it has gone so from its start
  pub built : HaveGaps h limit → (more : List ℕ)
      → Continues h (Serves h (reach_at reach) (gap_at limit)) (order_in s list) (queue_in s queue) more
      → Continues h (Serves h (reach_at reach) (gap_at limit)) [] [] (order_in s list ++ more)

-- x is the least of `base` and what f makes of the numbers in a list
pub record LeastOf (f : ℕ → ℕ) (base : ℕ) (numbers : List ℕ) (x : ℕ) : Type 0 where
  pub within : x ≤ base
  pub below : (o : ℕ) → Listed numbers o → x ≤ f o
  pub met : (x ≡ base) ⊎ ((o : ℕ) × Listed numbers o × (f o ≡ x))

-- the least return of the operations in a list, the end if there is none
abbrev pub LeastReturn : History → List ℕ → ℕ → Type 0
LeastReturn h waiting x = LeastOf h.ret h.end waiting x

-- The first n entries of a table are operations, in number at most those below `next`.
pub record Room (h : History) (next n : ℕ) (waiting : List ℕ) : Type 0 where
  pub sized : length waiting ≡ max_records
  pub next_within : next ≤ h.count
  pub within : n ≤ next
  pub known : (o : ℕ) → Listed (take n waiting) o → o < h.count

-- One operation more has been enabled, of those that wait in a table with the least return that goes with them.
pub record AdmittedOne (h : History) (a : Admission) (waiting : List ℕ) (b : Admission) (waiting' : List ℕ) : Type 0 where
  pub more : b.next ≡ a.next + 1
  pub room : Room h a.next a.waiting waiting → Room h b.next b.waiting waiting'
  pub least : LeastReturn h (take a.waiting waiting) a.least → LeastReturn h (take b.waiting waiting') b.least
  pub waits : (order : List ℕ) → ((o : ℕ) → Listed order o → o < a.next) → LeastReturn h (take a.waiting waiting) a.least → Waits h order a.next (take a.waiting waiting)
      → Waits h order b.next (take b.waiting waiting')

-- All that is enabled waits, and all that waits is enabled: it is called before the least return of what is left.
pub record Enabling (h : History) (next : ℕ) (waiting : List ℕ) : Type 0 where
  pub least : ℕ
  pub is_least : LeastReturn h waiting least
  pub before : (o : ℕ) → Listed waiting o → h.call o < least
  pub behind : (o : ℕ) → next ≤ o → o < h.count → least ≤ h.call o

pub record Ready (h : History) (reach limit : List ℕ) (s : Stand) (waiting queue list : List ℕ) : Type 0 where
  pub stands : Stands h reach limit s waiting queue list
  pub enabling : Enabling h s.next (waiting_in s waiting)

-- All operations that are enabled have been admitted.
pub record Admitted (h : History) (s : Stand) (waiting : List ℕ) (t : Stand) (waiting' : List ℕ) : Type 0 where
  pub placed_is : t.placed ≡ s.placed
  pub ready : (reach limit queue list : List ℕ) → Stands h reach limit s waiting queue list → Ready h reach limit t waiting' queue list

-- x is the least limit of the operations that are left
pub record Cap (h : History) (limit order : List ℕ) (x : ℕ) : Type 0 where
  pub below : (o : ℕ) → Left h order o → x ≤ limit_at limit o
  pub met : (x ≡ h.end + 1) ⊎ ((o : ℕ) × Left h order o × (limit_at limit o ≡ x))

-- An operation may be placed next: an add that reaches less far than the limits of what is left allow, a remove of the value at the front of the
-- queue, an empty remove if the queue is empty.
pub data Fit (h : History) (reach queue : List ℕ) (cap o : ℕ) : Type 0 where
  adds : h.kind o ≡ add → reach_at reach o < cap → Fit h reach queue cap o
  removes : h.kind o ≡ remove → 0 < length queue → h.value (get_or queue 0 0) ≡ h.value o → Fit h reach queue cap o
  empties : h.kind o ≡ empty_remove → length queue ≡ 0 → Fit h reach queue cap o

-- What placing operation o of this kind makes of the queue.
pub record Queues (kind o : ℕ) (s : Stand) (queue : List ℕ) (t : Stand) (queue' : List ℕ) : Type 0 where
  pub sized : length queue' ≡ max_records
  pub next_is : t.next ≡ s.next
  pub waiting_is : t.waiting ≡ s.waiting - 1
  pub placed_is : t.placed ≡ s.placed + 1
  pub head_within : (kind ≡ remove → s.head < s.tail) → t.head ≤ t.tail
  pub tail_within : t.tail ≤ s.tail + 1
  pub added : kind ≡ add → queue_in t queue' ≡ queue_in s queue ++ (o ∷ [])
  pub removed : kind ≡ remove → s.head < s.tail → queue_in s queue ≡ get_or queue s.head 0 ∷ queue_in t queue'
  pub empty : kind ≡ empty_remove → queue_in t queue' ≡ queue_in s queue

-- The operation that waits at index i has been placed. It has to be the first of those that wait that fits.
pub record Placed (h : History) (s : Stand) (i : ℕ) (waiting queue list : List ℕ) (t : Stand) (waiting' queue' list' : List ℕ) : Type 0 where
  pub placed_is : t.placed ≡ s.placed + 1
  pub stands : (reach limit : List ℕ) (cap : ℕ) → Reaching h reach → Limits h limit → Single h
      → Cap h limit (order_in s list) cap → Ready h reach limit s waiting queue list
      → First (λ j. Fit h reach (queue_in s queue) cap (get_or (waiting_in s waiting) j 0)) (length (waiting_in s waiting)) i
      → Stands h reach limit t waiting' queue' list'

-- What the search comes to: a legal order as the judge lists it, found as the search goes, or the tables do not serve, since some pattern occurs.
abbrev pub Ends : History → List ℕ → List ℕ → Option ℕ → List ℕ → Type 0
Ends h reach limit (Some k) list =
    (k ≤ max_records) × (length list ≡ max_records) × JudgedLinearization Queue h (take k list)
    × (HaveGaps h limit → Continues h (Serves h (reach_at reach) (gap_at limit)) [] [] (take k list))
Ends h reach limit None list = (length list ≡ max_records) × (Sound h (reach_at reach) (gap_at limit) → HaveGaps h limit → ⊥)
