-- While something is left and no pattern occurs in a queue's history, something is placeable.
use Prim.Native.Nat.{ℕ, suc, ◌≤◌, ◌<◌}
use native.Mathlib.Omega.{arith}
use native.Mathlib.Decide.{dec_lt, ℕ_discrete}
use mathlib.Core.Path.{◌≡◌, sym, ap, ◌∙◌}
use mathlib.Core.Logic.Dec
use mathlib.Core.Logic.{◌⊎◌, inl, inr}
use mathlib.Core.List.{List, [], ◌∷◌}
use Rattle.reader.specs.Search.{None}
use Rattle.reader.proofs.Search.{Lowest, lowest}
use Rattle.history.specs.History.{History, add, remove, empty_remove, Lawful}
use Rattle.history.specs.Linearization.{Listed}
use Rattle.history.proofs.Deciding.{equivalent?}
use Rattle.violations.specs.Violations.{Is, RemoveOf, Reaches, removed, never}
use Rattle.violations.specs.Search.{Matched, Sound, Queued, Searched}
use Rattle.violations.specs.Greedy.{Left}
use Rattle.violations.specs.Found.{Serves, enqueues, dequeues, meets_empty}
use Rattle.violations.proofs.Lists.{listed_first, listed_here}
use Rattle.violations.proofs.Choosing.{Best, best_of, lesser}
use Rattle.violations.proofs.Operations.{precedes_unless_after}
use Rattle.violations.proofs.Greedy.{left?, Earliest, earliest, called_enabled, Next}
use Rattle.violations.proofs.Placing.{left_alone}

-- the value of an add reaches to the call of its remove
pub reach_is : {h : History} {reach : ℕ → ℕ} → Matched h reach → {a r : ℕ} → Is h add a → RemoveOf h a r → reach a ≡ h.call r
reach_is {h} {reach} matched {a} {r} is out = go (matched.reaches a is)
  where
    go : Reaches h a (reach a) → reach a ≡ h.call r
    go (removed s off e) = sym e ∙ ap h.call (matched.single s r off.removes out.removes (off.same ∙ sym out.same))
    go (never n e) = absurd (n (r, out))

module _ {h : History} {reach gap : ℕ → ℕ} (lawful : Lawful h) (sound : Sound h reach gap) {order : List ℕ} where
  -- Of what is left, p is the first to return. What is called before that is enabled.
  module _ {p : ℕ} (soonest : Earliest h order p) where
    abbrev left : Left h order p
    left = soonest.left

    -- the enabled operations of a kind
    record Candidate (kind o : ℕ) : Type 0 where
      kinds : h.kind o ≡ kind
      before : h.call o < h.ret p
      is_left : Left h order o

    candidate? : (kind o : ℕ) → Dec (Candidate kind o)
    candidate? kind o =
        equivalent? {P = _ × (_ × _)} (λ p. record { kinds = p.0; before = p.1.0; is_left = p.1.1 }) (λ c. (c.kinds, (c.before, c.is_left)))
        (Dec.and (ℕ_discrete _ _) (Dec.and (dec_lt _ _) (left? h order o)))

    -- Among the enabled adds the one that reaches least far is safe, if one of them is safe but for the enabled adds.
    place_add : {queue : List ℕ} (w : ℕ) → Candidate add w
        → ((b r : ℕ) → Is h add b → Left h order b → h.ret p ≤ h.call b → RemoveOf h b r → reach w < h.ret r)
        → ((e : ℕ) → Is h empty_remove e → Left h order e → reach w ≤ gap e) → Next h (Serves h reach gap) order queue
    place_add w candidate behind empty = (
      v.at,
      _,
      record {
        enabled = called_enabled soonest v.holds.is_left v.holds.before;
        serves = enqueues v.holds.kinds (record { removes = λ b r is l out. removes b r is l out (dec_lt (h.call b) (h.ret p)); empties = λ e is l. omega (arith, empty e is l, lower) });
      },
    )
      where
        v : Best (Candidate add) (λ a b. reach a ≤ reach b) h.count
        v = best_of (lesser reach) (candidate? add) candidate.is_left.due.known candidate

        lower : reach v.at ≤ reach w
        lower = v.best w candidate.is_left.due.known candidate

        removes : (b r : ℕ) → Is h add b → Left h order b → RemoveOf h b r → Dec (h.call b < h.ret p) → reach v.at < h.ret r
        removes b r is l out (yes before) = omega (arith, v.best b is.known (record { kinds = is.kinds; before = before; is_left = l }), reach_is sound.matched is out, lawful.spans r out.removes.known)
        removes b r is l out (no after) = omega (arith, behind b r is l (omega arith) out, lower)

    -- If p is an add, it is safe but for the enabled adds, unless an empty remove that is left has its gap before p returns.
    place_first_add : {queue : List ℕ} → h.kind p ≡ add → ((e : ℕ) → Is h empty_remove e → Left h order e → h.ret p ≤ gap e)
        → Next h (Serves h reach gap) order queue
    place_first_add k empty = place_add p (record { kinds = k; before = lawful.spans p left.due.known; is_left = left }) behind gaps
      where
        adding : Is h add p
        adding = record { known = left.due.known; kinds = k }

        behind : (b r : ℕ) → Is h add b → Left h order b → h.ret p ≤ h.call b → RemoveOf h b r → reach p < h.ret r
        behind b r is l after = sound.in_turn p b r adding is (precedes_unless_after lawful adding.known is.known after)

        gaps : (e : ℕ) → Is h empty_remove e → Left h order e → reach p ≤ gap e
        gaps e is l =
            let not-below : gap e < reach p → ⊥ = λ b. sound.uncovered e is (p, reach p, record { adds = adding; reaches = sound.matched.reaches p adding; from = empty e is l; until = b }) in
            omega arith

    -- the add of p, if p is a remove: it is left or in the queue
    record Adder (queue : List ℕ) : Type 0 where
      adder : ℕ
      is : Is h add adder
      out : RemoveOf h adder p
      where_is : Left h order adder ⊎ Listed queue adder

    adder : {queue : List ℕ} → Queued h reach gap order queue → h.kind p ≡ remove → Adder queue
    adder s k =
        let (a, is, out) = sound.matched.named p (record { known = left.due.known; kinds = k }) in
        record { adder = a; is = is; out = out; where_is = (s.served a p is out).0 left }

    -- A front of the queue whose remove is called before p returns is removed.
    next_removed : {a : ℕ} {rest : List ℕ} → Queued h reach gap order (a ∷ rest) → reach a < h.ret p → Next h (Serves h reach gap) order (a ∷ rest)
    next_removed {a} {rest} s before = go (sound.matched.reaches a front.0)
      where
        front : Is h add a × Listed order a
        front = s.added a (listed_here a rest)

        go : Reaches h a (reach a) → Next h (Serves h reach gap) order (a ∷ rest)
        go (removed r out e) =
            let r-left = (s.served a r front.0 out).1 (inr (listed_here a rest)) in
            (r, rest, record { enabled = called_enabled soonest r-left (omega arith); serves = dequeues out })
        go (never n e) = absurd (omega (arith, lawful.ends p left.due.known))

    -- Otherwise p is an add: the front blocks no remove and no empty remove.
    next_added : {a : ℕ} {rest : List ℕ} → Queued h reach gap order (a ∷ rest) → h.ret p ≤ reach a → Next h (Serves h reach gap) order (a ∷ rest)
    next_added {a} {rest} s after = go (ℕ_discrete (h.kind p) add) (ℕ_discrete (h.kind p) remove)
      where
        unblocked : Adder (a ∷ rest) → ⊥
        unblocked x = by x.where_is
          where
            by : Left h order x.adder ⊎ Listed (a ∷ rest) x.adder → ⊥
            by (inl l) = omega (arith, s.before_adds 0 x.adder p (omega arith) x.is l x.out)
            by (inr l) = here (listed_first a rest l)
              where
                here : (a ≡ x.adder) ⊎ Listed rest x.adder → ⊥
                here (inl e) = omega (arith, ap reach e, reach_is sound.matched x.is x.out, lawful.spans p left.due.known)
                here (inr m) = omega (arith, s.before_queued 0 (suc m.at) p (omega arith) (omega (arith, m.below)) (rw m.here x.out))

        go : Dec (h.kind p ≡ add) → Dec (h.kind p ≡ remove) → Next h (Serves h reach gap) order (a ∷ rest)
        go (yes k) d = place_first_add k (λ e is l. omega (arith, s.before_empties 0 e (omega arith) is l))
        go (no n) (yes k) = absurd (unblocked (adder s k))
        go (no n) (no m) =
            let is : Is h empty_remove p = record { known = left.due.known; kinds = omega (arith, lawful.kinds p left.due.known, left.due.kinded) } in
            absurd (omega (arith, s.before_empties 0 p (omega arith) is left, (sound.gaps p is).until))

    -- With an empty queue an enabled empty remove is placed; if there is none, p is an add or a remove, and an add is placed.
    next_empty : Queued h reach gap order [] → Next h (Serves h reach gap) order []
    next_empty s = go (lowest (Candidate empty_remove) (candidate? empty_remove) h.count)
      where
        later : None (Candidate empty_remove) h.count → (e : ℕ) → Is h empty_remove e → Left h order e → h.ret p ≤ gap e
        later none e is l =
            let not_before : h.call e < h.ret p → ⊥ = λ b. none e is.known (record { kinds = is.kinds; before = b; is_left = l }) in
            omega (arith, (sound.gaps e is).from)

        -- the add of a remove that returns first
        timely : None (Candidate empty_remove) h.count → Adder [] → Next h (Serves h reach gap) order []
        timely none x =
            let reaches : reach x.adder ≡ h.call p = reach_is sound.matched x.is x.out in
            let spans : h.call p < h.ret p = lawful.spans p left.due.known in
            place_add x.adder (record { kinds = x.is.kinds; before = sound.timely x.adder p x.is x.out; is_left = left_alone x.where_is })
            (λ b r is l after out. omega (arith, soonest.first r ((s.served b r is out).1 (inl l)), reaches, spans))
            (λ e is l. omega (arith, later none e is l, reaches, spans))

        by_kind : None (Candidate empty_remove) h.count → Dec (h.kind p ≡ add) → Dec (h.kind p ≡ remove) → Next h (Serves h reach gap) order []
        by_kind none (yes k) d = place_first_add k (later none)
        by_kind none (no n) (yes k) = timely none (adder s k)
        by_kind none (no n) (no m) = absurd (none p left.due.known (record {
          kinds = omega (arith, lawful.kinds p left.due.known, left.due.kinded);
          before = lawful.spans p left.due.known;
          is_left = left;
        }))

        go : Lowest (Candidate empty_remove) h.count ⊎ None (Candidate empty_remove) h.count → Next h (Serves h reach gap) order []
        go (inl e) = (e.at, [], record { enabled = called_enabled soonest e.holds.is_left e.holds.before; serves = meets_empty e.holds.kinds })
        go (inr none) = by_kind none (ℕ_discrete (h.kind p) add) (ℕ_discrete (h.kind p) remove)

    next : (queue : List ℕ) → Queued h reach gap order queue → Next h (Serves h reach gap) order queue
    next [] s = next_empty s
    next (a ∷ rest) s = go (dec_lt (reach a) (h.ret p))
      where
        go : Dec (reach a < h.ret p) → Next h (Serves h reach gap) order (a ∷ rest)
        go (yes b) = next_removed s b
        go (no b) = next_added s (omega arith)

  -- while something is left, something is placeable
  pub search_goes_on : {queue : List ℕ} → Searched h reach gap order queue → {o : ℕ} → Left h order o → Next h (Serves h reach gap) order queue
  search_goes_on {queue} s l = let (p, e) = earliest l in next e queue s.queued
