-- The value that covers a gap and reaches furthest is that of the highest rank among the adds that have returned by the gap.
use Prim.Native.Nat.{ℕ, ◌+◌, ◌-◌, ◌*◌, ◌/◌, ◌%◌, ◌≤◌, ◌<◌}
use native.Mathlib.Omega.{arith}
use native.Mathlib.Decide.{dec_lt}
use mathlib.Core.Path.{◌≡◌}
use mathlib.Core.Logic.{◌⊎◌, inl, inr}
use mathlib.Core.List.{List}
use lib.ListN.{get_or}
use Rattle.reader.specs.Log.{max_records}
use Rattle.history.specs.History.{History, add}
use Rattle.violations.specs.Violations.{Is, Covers, Covered, Furthest}
use Rattle.matching.specs.Held.{Held}
use Rattle.matching.specs.Returns.{ReturnsNoted}
use Rattle.matching.specs.Reaches.{reach_at}
use Rattle.matching.proofs.Numbers.{Larger}
use Rattle.matching.proofs.Returning.{Highest, highest_starts, highest_more, highest_on}
use Rattle.patterns.specs.Chains.{RanksNoted, NextNoted}

-- The values whose adds return below position `from` were tried for a gap, by which they have returned, and `best` is the highest rank among them.
pub record Tried (h : History) (noted : List ℕ) (gap from best : ℕ) : Type 0 where
  pub returned : from ≤ gap + 1
  pub highest : (rank : List ℕ) → ReturnsNoted h rank h.count noted → Highest h rank from best

-- none yet
pub tried_none : {h : History} {noted : List ℕ} {gap : ℕ} → Tried h noted gap 0 0
tried_none {h} = record { returned = omega arith; highest = λ rank all. highest_starts h rank }

module _ {h : History} {noted : List ℕ} {gap from best : ℕ} (tried : Tried h noted gap from best) where
  -- they have returned by a later gap too
  pub tried_on : {later : ℕ} → gap < later → Tried h noted later from best
  tried_on l = record { returned = omega (arith, tried.returned); highest = tried.highest }

  module _ (inside : gap < h.end) {x : ℕ} (next : NextNoted h.end noted from x) where
    -- the next add to return does so by the gap
    pub tried_more : x ≤ gap → {best' : ℕ} → Larger best (get_or noted x 0) best' → Tried h noted gap (x + 1) best'
    tried_more l larger = record {
      returned = omega arith;
      highest = λ rank all.
          let before = highest_on all (tried.highest rank all) next.from (omega arith) next.none_before in
          highest_more before (all.highest x (omega arith)) larger;
    }

    -- it does not
    pub tried_all : gap < x → {rank : List ℕ} → ReturnsNoted h rank h.count noted → Highest h rank (gap + 1) best
    tried_all l all = highest_on all (tried.highest _ all) tried.returned (omega arith) (λ g b m. next.none_before g b (omega arith))

-- how far a value of this rank reaches, and of which add it is
abbrev pub reach_in : ℕ → ℕ
reach_in rank = rank / max_records

abbrev pub add_in : ℕ → ℕ
add_in rank = max_records - 1 - rank % max_records

module _ {h : History} {noted : List ℕ} (held : Held h) (ranks : RanksNoted h noted) {gap best : ℕ}
    (highest : Highest h ranks.rank (gap + 1) best) where
  -- no value that covers the gap ranks higher than the best
  ranks_below : {a to : ℕ} → Covers h a to gap → to * max_records + (max_records - 1 - a) ≤ best
  ranks_below {a} {to} covers = omega (
    arith,
    highest.over a covers.adds (omega (arith, covers.from)),
    ranks.ranked.ranks a covers.adds.known covers.adds.kinds,
    ranks.reaching.only a to covers.adds covers.reaches,
  )

  pub gap_uncovered : reach_in best ≤ gap → Covered h gap → ⊥
  gap_uncovered near (a, to, covers) = omega (arith, ranks_below covers, covers.until)

  pub furthest_found : gap < reach_in best → Furthest h (add_in best) (reach_in best) gap
  furthest_found beyond =
      let (a, is, returned, e) = highest.met (omega arith) in
      record { covers = covers a is returned e; furthest = λ b to other. ahead other (dec_lt to (reach_in best)) }
    where
      covers : (a : ℕ) → Is h add a → h.ret a < gap + 1 → get_or ranks.rank a 0 ≡ best → Covers h (add_in best) (reach_in best) gap
      covers a is returned e =
          let rank = ranks.ranked.ranks a is.known is.kinds in
          let here : add_in best ≡ a = omega (arith, rank, held.few, is.known) in
          let far : reach_in best ≡ reach_at ranks.reach a = omega (arith, rank, held.few, is.known) in
          rw (here, far) (record { adds = is; reaches = ranks.reaching.reaches a is; from = omega arith; until = omega arith })

      ahead : {b to : ℕ} → Covers h b to gap → Dec (to < reach_in best) → (to < reach_in best) ⊎ ((to ≡ reach_in best) × (add_in best ≤ b))
      ahead other (yes less) = inl less
      ahead other (no more) = inr (omega (arith, ranks_below other), omega (arith, ranks_below other))
