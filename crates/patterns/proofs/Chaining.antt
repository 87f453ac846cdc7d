-- The chain of an empty remove is listed link by link, and the lowest empty remove that has one is found.
use Prim.Native.Nat.{ℕ, ◌+◌, ◌≤◌, ◌<◌}
use native.Mathlib.Omega.{arith}
use native.Mathlib.Numerals.{add-one}
use mathlib.Core.Path.{◌≡◌, refl, ◌∙◌}
use mathlib.Core.List.{List, [], ◌∷◌, ◌++◌, append-nil}
use lib.ListN.{length, set, take, length-set}
use lib.Seq.{take-suc-set, append_snoc}
use Rattle.reader.specs.Log.{max_records}
use Rattle.history.specs.History.{History, empty_remove}
use Rattle.violations.specs.Violations.{Is, Covered, AllCovered, Furthest, Chain, all, link}
use Rattle.violations.proofs.Chains.{chained_exactly}
use Rattle.matching.specs.Held.{Held}
use Rattle.matching.proofs.Firsts.{Unfound}
use Rattle.patterns.specs.Chains.{Chained, FirstChained}

-- The first numbers of the list are e and the first links of its chain, which goes on at the gap.
pub record Linked (h : History) (e gap listed : ℕ) (list : List ℕ) : Type 0 where
  pub sized : length list ≡ max_records
  pub links : List ℕ
  pub lists : take listed list ≡ e ∷ links
  pub goes_on : (chain : List ℕ) → Chain h (h.ret e) gap chain → Chain h (h.ret e) (h.call e) (links ++ chain)
  pub some : 0 < listed
  -- each link reaches behind the gap that it covers
  pub few : listed + h.call e ≤ gap + 1
  pub within : listed ≤ max_records

-- no link yet
pub linked_starts : {h : History} (e : ℕ) (list : List ℕ) → length list ≡ max_records → Linked h e (h.call e) 1 (set list 0 e)
linked_starts e list sized = record {
  sized = length-set list 0 e ∙ sized;
  links = [];
  lists = take-suc-set list 0 e (omega arith);
  goes_on = λ chain c. c;
  some = omega arith;
  few = omega arith;
  within = omega arith;
}

module _ {h : History} {e gap listed : ℕ} {list : List ℕ} (linked : Linked h e gap listed list) where
  -- all gaps are covered
  pub linked_ends : h.ret e ≤ gap → Chained h e listed list
  linked_ends last = record {
    sized = linked.sized;
    within = linked.within;
    uncovered = λ none. absurd (omega (arith, linked.some));
    chained = λ some. (linked.links, linked.lists, rw append-nil at (linked.goes_on [] (all {g = gap} last)));
  }

  module _ (before : gap < h.ret e) where
    -- an empty remove returns at the position of a record, so it has fewer gaps than the list has places
    pub room_left : Held h → Is h empty_remove e → listed < max_records
    room_left held is = omega (arith, linked.few, held.empties e is.known is.kinds)

    -- the next link is listed
    pub linked_more : {a far : ℕ} → listed < max_records → Furthest h a far gap → Linked h e far (listed + 1) (set list listed a)
    linked_more {a} room furthest = record {
      sized = length-set list listed a ∙ linked.sized;
      links = linked.links ++ (a ∷ []);
      lists = rw (add-one, take-suc-set list listed a (omega (arith, linked.sized)), linked.lists) refl;
      goes_on = λ chain c. rw append_snoc (linked.goes_on (a ∷ chain) (link before furthest c));
      some = omega arith;
      few = omega (arith, linked.few, furthest.covers.until);
      within = omega arith;
    }

    -- no value covers the gap
    pub none_covers : (Covered h gap → ⊥) → Chained h e 0 list
    none_covers uncovered = record {
      sized = linked.sized;
      within = omega arith;
      uncovered = λ none covered. uncovered (covered gap (record { from = omega (arith, linked.few, linked.some); until = before }));
      chained = λ some. absurd (omega arith);
    }

-- an empty remove all gaps of which are covered
abbrev pub CoveredEmpty : History → ℕ → Type 0
CoveredEmpty h e = Is h empty_remove e × AllCovered h e

-- nothing is listed, so e is none
pub not_covered : {h : History} {e : ℕ} {list : List ℕ} → Chained h e 0 list → CoveredEmpty h e → ⊥
not_covered chained covered = chained.uncovered refl covered.1

-- e is the lowest
pub first_chained : {h : History} {e k : ℕ} {list : List ℕ} → Unfound (CoveredEmpty h) h.count e → Is h empty_remove e → Chained h e k list → 0 < k → FirstChained h k list
first_chained {h} {e} searched is chained some =
    let (chain, lists, covers) = chained.chained some in
    record {
      sized = chained.sized;
      within = chained.within;
      none = λ none. absurd (omega arith);
      found = λ some. (e, chain, lists, record { empties = is; covered = (chained_exactly h e).1 (chain, covers); chained = covers }, λ f l is covered. searched.none_lower f l (is, covered));
    }
