-- Whatever an order of a queue's history goes on with is placeable, so the order that the search finds is the lowest.
use Prim.Native.Nat.{ℕ, ◌≤◌, ◌<◌}
use native.Mathlib.Omega.{arith}
use native.Mathlib.Decide.{ℕ_discrete}
use mathlib.Core.Path.{◌≡◌, ap, ◌∙◌}
use mathlib.Core.List.{List, [], ◌∷◌, ◌++◌, map}
use lib.ListN.{length}
use lib.Seq.{append_snoc}
use Rattle.history.specs.Object.{Queue}
use Rattle.history.specs.History.{History, add, remove, empty_remove, Precedes, Lawful}
use Rattle.history.specs.Linearization.{Makes, Fifo, placed, Listed, CompleteLinearization}
use Rattle.history.proofs.Running.{run_first}
use Rattle.history.proofs.Queues.{makes_one, makes_remove, makes_empty, makes_kind}
use Rattle.violations.specs.Violations.{Is, RemoveOf, Reaches}
use Rattle.violations.specs.Verdict.{JudgedLinearization, LowestLinearization}
use Rattle.violations.specs.Greedy.{Left, Placeable}
use Rattle.violations.specs.Search.{Matched}
use Rattle.violations.specs.Found.{Serves, enqueues, dequeues, meets_empty, LastGap, Found}
use Rattle.violations.proofs.Lists.{snoc}
use Rattle.violations.proofs.Operations.{precedes_unless_after}
use Rattle.violations.proofs.Judged.{judged_complete}
use Rattle.violations.proofs.Pairing.{rank_passed, Taken, taken, taken_before_empty}
use Rattle.violations.proofs.Excluding.{Served, served, adder_is, taken_out, Witness, witness_gap, excluded}
use Rattle.violations.proofs.Constructing.{tables_match}
use Rattle.violations.proofs.Placing.{serves_makes}
use Rattle.violations.proofs.Progress.{reach_is}
use Rattle.violations.proofs.LowestOrders.{goes_on_at, other_behind, goes_on_left, goes_on_enabled, continues_lowest}

-- While operations are placed, what can be run after them can be run on the queue.
Follows : History → List ℕ → List ℕ → Type 0
Follows h order queue = (more : List ℕ) → Fifo h (order ++ more) [] → Fifo h more (map h.value queue)

module _ {h : History} (lawful : Lawful h) {reach gap : ℕ → ℕ} (reaches : (a : ℕ) → Is h add a → Reaches h a (reach a))
    (gaps : (e : ℕ) → Is h empty_remove e → LastGap h e (gap e)) where
  -- An order as the judge lists it goes on, after `order`, with p.
  module _ (order : List ℕ) (p : ℕ) (rest : List ℕ) (judged : JudgedLinearization Queue h (order ++ (p ∷ rest))) where
    abbrev whole : List ℕ
    whole = order ++ (p ∷ rest)

    abbrev legal : CompleteLinearization h whole
    legal = judged_complete judged

    abbrev p_at : Listed whole p
    p_at = goes_on_at order p rest

    known : p < h.count
    known = (goes_on_left lawful order p rest judged).due.known

    matched : Matched h reach
    matched = tables_match reaches (λ n listed l. excluded lawful legal)

    -- An add is safe. Its value is taken before that of an add that is left, and before an empty remove that is left: that
    -- remove is called before the other returns, and no later than the witness gap.
    module _ (adding : Is h add p) where
      add_here : h.kind (placed whole p_at.at) ≡ add
      add_here = ap h.kind p_at.here ∙ adding.kinds

      before_adds : (b r : ℕ) → Is h add b → Left h order b → RemoveOf h b r → reach p < h.ret r
      before_adds b r is left out = go (ℕ_discrete p b)
        where
          s : Served lawful legal r
          s = served lawful legal out.removes

          go : Dec (p ≡ b) → reach p < h.ret r
          go (yes e) = omega (arith, reach_is matched adding (rw (← e) at out), lawful.spans r out.removes.known)
          go (no n) =
              let behind : p_at.at < s.adding.at = other_behind order p rest left n (rw (adder_is lawful legal is out s) at s.adding) in
              let m = s.removing in
              let t : Taken h whole p_at.at m.at =
              taken h whole legal.runs p_at.at m.at (omega (arith, s.before)) (omega (arith, m.below)) add_here
              (omega (arith, rank_passed h whole add p_at.at s.adding.at behind add_here, s.ranks)) in
              let off = taken_out lawful legal p_at t (omega (arith, m.below)) in
              let not_first : Precedes h r (placed whole t.at) → ⊥ = λ x.
              legal.ordering.keeps t.at m.at t.below m.below (omega (arith, x, ap h.ret m.here)) in
              let not_after : h.ret r ≤ h.call (placed whole t.at) → ⊥ = λ b.
              not_first (precedes_unless_after lawful out.removes.known off.removes.known b) in
              omega (arith, reach_is matched adding off)

      before_empties : (e : ℕ) → Is h empty_remove e → Left h order e → reach p ≤ gap e
      before_empties e is left =
          let w : Witness h whole e = witness_gap lawful legal is in
          let other : p ≡ e → ⊥ = λ z. omega (arith, ap h.kind z, adding.kinds, is.kinds) in
          let behind : p_at.at < w.listed.at = other_behind order p rest left other w.listed in
          let empty-here : h.kind (placed whole w.listed.at) ≡ empty_remove = ap h.kind w.listed.here ∙ is.kinds in
          let t = taken_before_empty h whole legal.runs p_at.at w.listed.at behind w.listed.below add_here empty-here in
          let not-later : gap e < w.gap → ⊥ = λ l. w.uncovered ((gaps e is).last w.gap l w.lies) in
          omega (arith, w.latest t.at (omega (arith, t.below)), reach_is matched adding (taken_out lawful legal p_at t (omega (arith, w.listed.below))))

    -- so p may be placed
    p_serves : (queue : List ℕ) {queue' : List ℕ} → Makes h p (map h.value queue) queue' → Dec (h.kind p ≡ add) → Dec (h.kind p ≡ remove)
        → (queue' : List ℕ) × Serves h reach gap order p queue queue'
    p_serves queue made (yes k) d =
        let adding : Is h add p = record { known = known; kinds = k } in
        (snoc queue p, enqueues k (record { removes = before_adds adding; empties = before_empties adding }))
    p_serves [] made (no n) (yes k) = absurd (omega (arith, ap length (makes_remove made k)))
    p_serves (a ∷ queue) made (no n) (yes k) =
        let e = makes_remove made k in
        let same : h.value p ≡ h.value a = cc in
        (queue, dequeues (record { removes = record { known = known; kinds = k }; same = same }))
    p_serves [] made (no n) (no m) = ([], meets_empty (omega (arith, makes_kind made)))
    p_serves (a ∷ queue) made (no n) (no m) = absurd (omega (arith, ap length (makes_empty made (omega (arith, makes_kind made)))))

  follows_more : (order queue queue' : List ℕ) (o : ℕ) → Follows h order queue → Placeable h (Serves h reach gap) order queue o queue'
      → Follows h (snoc order o) queue'
  unfolding Follows
  follows_more order queue queue' o follows p more run =
      let (there, made, after) = run_first (follows (o ∷ more) (rw (append_snoc order o more) at run)) in
      rw (makes_one (serves_makes p.serves) made) after

  next : (order queue : List ℕ) (o : ℕ) (rest : List ℕ) → Follows h order queue → JudgedLinearization Queue h (order ++ (o ∷ rest))
      → (queue' : List ℕ) × Placeable h (Serves h reach gap) order queue o queue'
  unfolding Follows
  next order queue o rest follows judged =
      let (there, made, after) = run_first (follows (o ∷ rest) (judged_complete judged).runs) in
      let (queue', serves) = p_serves order o rest judged queue made (ℕ_discrete (h.kind o) add) (ℕ_discrete (h.kind o) remove) in
      (queue', record { enabled = goes_on_enabled lawful order o rest judged; serves = serves })

-- The order that the search finds is the lowest.
pub found_lowest : {h : History} → Lawful h → {order : List ℕ} → Found h order → JudgedLinearization Queue h order → LowestLinearization Queue h order
unfolding Follows
found_lowest {h} lawful found judged = record {
  judged = judged;
  none_lower =
      continues_lowest lawful (Follows h) (follows_more lawful found.reaches found.gaps)
      (next lawful found.reaches found.gaps) found.continues (λ more run. run);
}
