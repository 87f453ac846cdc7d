-- What removes show of the patterns 1 to 3, by their partners, is what occurs of them in the history. Where they show neither 1 nor 2, the table
-- of reaches is right.
use Prim.Native.Nat.{ℕ, ◌+◌, ◌-◌, ◌<◌}
use native.Mathlib.Omega.{arith}
use native.Mathlib.Decide.{dec_lt}
use mathlib.Core.Path.{◌≡◌, refl, sym, ap, ◌∙◌}
use mathlib.Core.List.{List, [], ◌∷◌}
use borrow.Author.Tests.{eq-eqb, ne_eqb}
use Rattle.std.specs.Prelude.{Option}
use Rattle.std.specs.Option.{IsSome}
use Rattle.reader.specs.Search.{None}
use Rattle.history.specs.Object.{Queue}
use Rattle.history.specs.History.{History, add, remove}
use Rattle.history.specs.Table.{call_at, tabled}
use Rattle.violations.specs.Violations.{Is, RemoveOf, Unknown, Twice, Early, Reaches, removed, never, Occurs}
use Rattle.violations.specs.Verdict.{Lower, FirstViolation}
use Rattle.violations.specs.Search.{Single}
use Rattle.violations.proofs.Occurrences.{occurs_numbered}
use Rattle.violations.proofs.Lowest.{lower_differs}
use Rattle.violations.proofs.Chains.{reach_of}
use Rattle.violations.proofs.Constructing.{tables_match}
use Rattle.matching.specs.Held.{Held}
use Rattle.matching.specs.Answers.{First, FirstIn}
use Rattle.matching.specs.Matching.{partner_at, Partners}
use Rattle.matching.specs.Reaches.{reach_at, ReachTable, Reaching}
use Rattle.matching.proofs.Firsts.{first_not_above}
use Rattle.matching.proofs.Partnering.{remover_latest, remover_of, remover_is, unpartnered_never, never_unpartnered, adder_of, adder_is}
use Rattle.patterns.specs.Signs.{Shows, Again}
use Rattle.patterns.proofs.Answered.{found_some}
use Rattle.patterns.proofs.Lower.{not_lower}

module _ {count end : ℕ} {table partner : List ℕ} (held : Held (tabled count end table)) (partners : Partners table count partner) where
  abbrev h : History
  h = tabled count end table

  -- what shows a pattern is a remove
  shows_removes : {n r : ℕ} → r < count → Shows table partner n r → Is h remove r
  shows_removes l (Shows.unknown e removes none) = record { known = l; kinds = removes }
  shows_removes l (Shows.twice e removes some other) = record { known = l; kinds = removes }
  shows_removes l (Shows.early e removes some before) = record { known = l; kinds = removes }

  -- Pattern 1: a remove without a partner.
  unknown_shows : {r : ℕ} → Unknown h r → Shows table partner 1 r
  unknown_shows {r} u = go (dec_lt 0 (partner_at partner r))
    where
      go : Dec (0 < partner_at partner r) → Shows table partner 1 r
      go (yes l) = let (adds, out) = adder_of held partners u.removes l in absurd (u.unnamed (partner_at partner r - 1) adds out)
      go (no l) = Shows.unknown refl u.removes.kinds (omega arith)

  shows_unknown : {r : ℕ} → r < count → Shows table partner 1 r → Unknown h r
  shows_unknown l (Shows.unknown e removes none) = record { removes = shows_removes l (Shows.unknown e removes none); unnamed = λ a adds out. omega (arith, adder_is held partners adds out) }
  shows_unknown l (Shows.twice e removes some other) = absurd (omega arith)
  shows_unknown l (Shows.early e removes some before) = absurd (omega arith)

  -- The lowest remove that shows it is the first violation.
  pub unknown_first : {r : ℕ} → First (Shows table partner 1) count r → r < count → FirstViolation Queue h 1 (r ∷ [])
  unknown_first {r} first l = record {
    occurs = Occurs.unknown (shows_unknown l (first.holds l));
    lowest_number = λ n other less there. omega (arith, occurs_numbered there);
    lowest_list = lowest;
  }
    where
      lowest : (other : List ℕ) → Occurs Queue h 1 other → Lower other (r ∷ []) → ⊥
      lowest _ (Occurs.unknown u) = not_lower (first_not_above first (unknown_shows u)) (λ e lower. lower_differs lower refl)

  -- where no remove shows pattern 1, each has a partner
  partnered : None (Shows table partner 1) count → {r : ℕ} → Is h remove r → 0 < partner_at partner r
  partnered known {r} removes =
      let some : partner_at partner r ≡ 0 → ⊥ = λ e. known r removes.known (Shows.unknown refl removes.kinds e) in
      omega arith

  -- Pattern 2: a remove whose partner's partner is another. That one is the latest remove of its value.
  latest_again : {r : ℕ} → r < count → Shows table partner 2 r → (s : ℕ) × (s < count) × Again table partner r s
  latest_again l (Shows.unknown e removes none) = absurd (omega arith)
  latest_again {r} l (Shows.twice e removes some other) =
      let (adds, out) = adder_of held partners (shows_removes l (Shows.twice e removes some other)) some in
      let lower = remover_latest held partners adds out in
      let last = remover_of held partners adds (omega (arith, lower)) in (
        partner_at partner (partner_at partner r - 1) - 1,
        last.removes.known,
        record { above = omega (arith, lower, other); removes = last.removes.kinds; same = adder_is held partners adds last ∙ sym (adder_is held partners adds out) },
      )
  latest_again l (Shows.early e removes some before) = absurd (omega arith)

  -- so it is found
  pub again_found : {r : ℕ} → r < count → Shows table partner 2 r → (found : Option ℕ) → FirstIn (Again table partner r) count found → IsSome found
  again_found {r} l shows found first = let (s, known, there) = latest_again l shows in found_some (Again table partner r) found first known there

  -- removes with the same partner have the same value
  again_twice : {r s : ℕ} → Is h remove r → s < count → 0 < partner_at partner r → Again table partner r s → Twice h r s
  again_twice {r} {s} removes l some again = record { first = removes; second = second; lower = again.above; same = (adder_of held partners removes some).1.same ∙ sym other }
    where
      second : Is h remove s
      second = record { known = l; kinds = again.removes }

      other : h.value s ≡ h.value (partner_at partner r - 1)
      other = rw (← again.same) (adder_of held partners second (omega (arith, again.same))).1.same

  twice_shows : None (Shows table partner 1) count → {r s : ℕ} → Twice h r s → Shows table partner 2 r × Again table partner r s
  twice_shows known {r} {s} t = (
    Shows.twice refl t.first.kinds some (λ e. omega (arith, remover_latest held partners adds again, t.lower)),
    record { above = t.lower; removes = t.second.kinds; same = adder_is held partners adds again ∙ sym (adder_is held partners adds out) },
  )
    where
      some : 0 < partner_at partner r
      some = partnered known t.first

      adds : Is h add (partner_at partner r - 1)
      adds = (adder_of held partners t.first some).0

      out : RemoveOf h (partner_at partner r - 1) r
      out = (adder_of held partners t.first some).1

      again : RemoveOf h (partner_at partner r - 1) s
      again = record { removes = t.second; same = sym t.same ∙ out.same }

  -- Pattern 3: a remove whose partner is called behind its return.
  early_shows : {r a : ℕ} → Early h r a → Shows table partner 3 r × (partner_at partner r - 1 ≡ a)
  early_shows {r} {a} t = (Shows.early refl t.removes.removes.kinds (omega (arith, above)) (rw here t.before), here)
    where
      above : partner_at partner r ≡ a + 1
      above = adder_is held partners t.adds t.removes

      here : partner_at partner r - 1 ≡ a
      here = omega (arith, above)

  shows_early : {r : ℕ} → r < count → Shows table partner 3 r → Early h r (partner_at partner r - 1)
  shows_early l (Shows.unknown e removes none) = absurd (omega arith)
  shows_early l (Shows.twice e removes some other) = absurd (omega arith)
  shows_early l (Shows.early e removes some before) =
      let (adds, out) = adder_of held partners (shows_removes l (Shows.early e removes some before)) some in
      record { adds = adds; removes = out; before = before }

  -- Below k, one of 1 to 4, no pattern occurs if no remove shows one.
  below_ruled_out : (k : ℕ) → k < 5 → (1 < k → None (Shows table partner 1) count) → (2 < k → None (Shows table partner 2) count) → (3 < k → None (Shows table partner 3) count)
      → (n : ℕ) (listed : List ℕ) → n < k → Occurs Queue h n listed → ⊥
  below_ruled_out k small known once timely _ _ l (Occurs.unknown {r = r} u) = known l r u.removes.known (unknown_shows u)
  below_ruled_out k small known once timely _ _ l (Occurs.twice {r = r} t) = once l r t.first.known (twice_shows (known (omega arith)) t).0
  below_ruled_out k small known once timely _ _ l (Occurs.early {r = r} t) = timely l r t.removes.removes.known (early_shows t).0
  below_ruled_out k small known once timely _ _ l (Occurs.stuck t) = omega arith
  below_ruled_out k small known once timely _ _ l (Occurs.overtaken t) = omega arith
  below_ruled_out k small known once timely _ _ l (Occurs.false_empty t) = omega arith

  -- The lowest remove that shows pattern 2, with the lowest above it that has the same partner, is the first violation if pattern 1 is not shown.
  pub twice_first : None (Shows table partner 1) count → {r s : ℕ} → First (Shows table partner 2) count r → r < count → First (Again table partner r) count s
      → (s < count) × FirstViolation Queue h 2 (r ∷ s ∷ [])
  twice_first known {r} {s} first l again = (
    below,
    record {
      occurs = Occurs.twice (again_twice removes below (partnered known removes) (again.holds below));
      lowest_number = below_ruled_out 2 (omega arith) (λ m. known) (λ m. absurd (omega arith)) (λ m. absurd (omega arith));
      lowest_list = lowest;
    },
  )
    where
      removes : Is h remove r
      removes = shows_removes l (first.holds l)

      below : s < count
      below = let (later, known, there) = latest_again l (first.holds l) in omega (arith, first_not_above again there)

      lowest : (other : List ℕ) → Occurs Queue h 2 other → Lower other (r ∷ s ∷ []) → ⊥
      lowest _ (Occurs.twice t) =
          let (shows, there) = twice_shows known t in
          not_lower (first_not_above first shows) (λ e. not_lower (first_not_above again (rw e at there)) (λ e' lower. lower_differs lower refl))

  -- The lowest remove that shows pattern 3, with its partner, is the first violation if 1 and 2 are not shown.
  pub early_first : None (Shows table partner 1) count → None (Shows table partner 2) count → {r : ℕ} → First (Shows table partner 3) count r → r < count
      → FirstViolation Queue h 3 (r ∷ (partner_at partner r - 1) ∷ [])
  early_first known once {r} first l = record {
    occurs = Occurs.early (shows_early l (first.holds l));
    lowest_number = below_ruled_out 3 (omega arith) (λ m. known) (λ m. once) (λ m. absurd (omega arith));
    lowest_list = lowest;
  }
    where
      lowest : (other : List ℕ) → Occurs Queue h 3 other → Lower other (r ∷ (partner_at partner r - 1) ∷ []) → ⊥
      lowest _ (Occurs.early {a = a} t) =
          let (shows, here) = early_shows t in
          not_lower (first_not_above first shows) (λ e. not_lower (omega (arith, ap (λ x. partner_at partner x - 1) e)) (λ e' lower. lower_differs lower refl))

  -- The patterns 1 to 3 do not occur if they are not shown.
  pub three_ruled_out : None (Shows table partner 1) count → None (Shows table partner 2) count → None (Shows table partner 3) count
      → (n : ℕ) (listed : List ℕ) → n < 4 → Occurs Queue h n listed → ⊥
  three_ruled_out known once timely = below_ruled_out 4 (omega arith) (λ m. known) (λ m. once) (λ m. timely)

  -- Where patterns 1 and 2 are not shown, no value is removed twice, and the table of reaches is right.
  single : None (Shows table partner 1) count → None (Shows table partner 2) count → Single h
  single known once = (tables_match (λ a adds. (reach_of h a).reaches) (below_ruled_out 3 (omega arith) (λ m. known) (λ m. once) (λ m. absurd (omega arith)))).single

  pub reaching : None (Shows table partner 1) count → None (Shows table partner 2) count → {reach : List ℕ} → ReachTable count end table partner reach → Reaching h reach
  reaching known once {reach} is = record {
    sized = is.sized;
    reaches = λ a adds. reaches a adds (dec_lt 0 (partner_at partner a));
    only = only;
    idle = λ o none.
        let unmatched = partners.unmatched o (λ e. omega (arith, none.kinds)) (λ e. absurd (omega (arith, none.kinds))) in
        is.reaches o none.known ∙ rw (eq-eqb _ _ unmatched) refl;
  }
    where
      to_end : (a : ℕ) → Is h add a → partner_at partner a ≡ 0 → end ≡ reach_at reach a
      to_end a adds e = sym (is.reaches a adds.known ∙ rw (eq-eqb _ _ e) refl)

      to_call : (a : ℕ) → Is h add a → 0 < partner_at partner a → call_at table (partner_at partner a - 1) ≡ reach_at reach a
      to_call a adds l = sym (is.reaches a adds.known ∙ rw (ne_eqb (partner_at partner a) 0 (λ e. omega arith)) refl)

      reaches : (a : ℕ) → Is h add a → Dec (0 < partner_at partner a) → Reaches h a (reach_at reach a)
      reaches a adds (yes l) = removed (partner_at partner a - 1) (remover_of held partners adds l) (to_call a adds l)
      reaches a adds (no l) = let e : partner_at partner a ≡ 0 = omega arith in never (unpartnered_never held partners adds e) (to_end a adds e)

      only : (a far : ℕ) → Is h add a → Reaches h a far → far ≡ reach_at reach a
      only a far adds (removed r out e) =
          let above = remover_is held partners (single known once) adds out in
          let here : partner_at partner a - 1 ≡ r = omega (arith, above) in
          sym e ∙ ap (call_at table) (sym here) ∙ to_call a adds (omega (arith, above))
      only a far adds (never n e) = sym e ∙ to_end a adds (never_unpartnered held partners adds n)
