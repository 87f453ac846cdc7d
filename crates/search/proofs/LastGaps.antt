-- The limits of the operations: an add's is the return of its remove; an empty remove's is 1 above its last gap that no value covers, if not all
-- are covered; the others set none.
use Prim.Native.Nat.{ℕ, ◌+◌, ◌-◌, ◌≤◌, ◌<◌}
use native.Mathlib.Omega.{arith}
use native.Mathlib.Decide.{dec_lt}
use mathlib.Core.Path.{◌≡◌, refl, ◌∙◌}
use mathlib.Core.Logic.{◌⊎◌, inl, inr}
use mathlib.Core.List.{List}
use lib.ListN.{get_or}
use borrow.Author.Tests.{eq-eqb, ne_eqb}
use Rattle.history.specs.History.{History, add, remove, empty_remove, no_kind}
use Rattle.history.specs.Table.{kind_at, tabled}
use Rattle.violations.specs.Violations.{Is, RemoveOf, Removed, Gap, Covered, AllCovered}
use Rattle.violations.specs.Search.{Single}
use Rattle.violations.specs.Found.{LastGap}
use Rattle.matching.specs.Held.{Held}
use Rattle.matching.specs.Matching.{partner_at, Partners}
use Rattle.matching.specs.Reaches.{reach_at, Reaching}
use Rattle.matching.proofs.Partnering.{remover_is, never_unpartnered}
use Rattle.search.specs.Gaps.{CoversIn, LastUncovered, Uncovered}
use Rattle.search.specs.Bounds.{limit_at, LimitTable}

-- a gap is covered exactly if a value covers it as the table of reaches has it, where that is right
covers_in : {h : History} {reach : List ℕ} → Reaching h reach → {a g : ℕ} → CoversIn h reach a g → Covered h g
covers_in {reach = reach} right {a} c = (a, reach_at reach a, record { adds = c.adds; reaches = right.reaches a c.adds; from = c.from; until = c.until })

covered_in : {h : History} {reach : List ℕ} → Reaching h reach → {g : ℕ} → Covered h g → (a : ℕ) × CoversIn h reach a g
covered_in right (a, far, c) = (a, record { adds = c.adds; from = c.from; until = omega (arith, c.until, right.only a far c.adds c.reaches) })

module _ {count end : ℕ} {table partner gaps limit : List ℕ} (held : Held (tabled count end table)) (partners : Partners table count partner) (limits : LimitTable count end table partner gaps limit) where
  abbrev h : History
  h = tabled count end table

  -- an add that is removed: the return of its remove, which is the only one
  pub limit_add_removed : Single h → {a r : ℕ} → Is h add a → RemoveOf h a r → limit_at limit a ≡ h.ret r
  limit_add_removed single {a} {r} adds out =
      let above = remover_is held partners single adds out in
      let here : partner_at partner a - 1 ≡ r = omega (arith, above) in
      limits.limits a adds.known ∙ rw (eq-eqb (kind_at table a) add adds.kinds, ne_eqb (partner_at partner a) 0 (λ e. omega (arith, above)), here) refl

  -- an empty remove: what the table of gaps has for the last of its gaps
  pub limit_empty : {e : ℕ} → Is h empty_remove e → limit_at limit e ≡ get_or gaps (h.ret e - 1) 0
  limit_empty {e} empties =
      limits.limits e empties.known ∙ rw (ne_eqb (kind_at table e) add (λ k. omega (arith, empties.kinds)), eq-eqb (kind_at table e) empty_remove empties.kinds) refl

  -- a remove, or an add that is never removed: the end and 1, which is above every reach
  pub limit_other : {o : ℕ} → Is h remove o ⊎ (Is h add o × (Removed h o → ⊥)) → limit_at limit o ≡ end + 1
  limit_other {o} (inl removes) =
      limits.limits o removes.known
      ∙ rw (ne_eqb (kind_at table o) add (λ k. omega (arith, removes.kinds)), ne_eqb (kind_at table o) empty_remove (λ k. omega (arith, removes.kinds))) refl
  limit_other {o} (inr (adds, never)) =
      limits.limits o adds.known ∙ rw (eq-eqb (kind_at table o) add adds.kinds, eq-eqb (partner_at partner o) 0 (never_unpartnered held partners adds never)) refl

  pub limit_none : {o : ℕ} → Is h no_kind o → limit_at limit o ≡ end + 1
  limit_none {o} none =
      limits.limits o none.known
      ∙ rw (ne_eqb (kind_at table o) add (λ k. omega (arith, none.kinds)), ne_eqb (kind_at table o) empty_remove (λ k. omega (arith, none.kinds))) refl

  -- where not all gaps of an empty remove are covered, its limit is 1 above the last that is not
  pub last_gap : {reach : List ℕ} → Reaching h reach → Uncovered h reach end gaps → {e : ℕ} → Is h empty_remove e → (AllCovered h e → ⊥)
      → (0 < limit_at limit e) × LastGap h e (limit_at limit e - 1)
  last_gap {reach} right uncovered {e} empties some = go (dec_lt (h.call e) (limit_at limit e))
    where
      last : LastUncovered h reach (h.ret e - 1) (limit_at limit e)
      last = rw (limit_empty empties) (uncovered.lasts (h.ret e - 1) (omega (arith, held.lawful.spans e empties.known, held.lawful.ends e empties.known)))

      -- the gaps from the limit on are covered
      behind : (g : ℕ) → limit_at limit e ≤ g → Gap h e g → Covered h g
      behind g l gap = let (a, covers) = last.covered g l (omega (arith, gap.until)) in covers_in right covers

      go : Dec (h.call e < limit_at limit e) → (0 < limit_at limit e) × LastGap h e (limit_at limit e - 1)
      go (yes l) = (
        omega arith,
        record {
          lies = record { from = omega arith; until = omega (arith, last.within, held.lawful.spans e empties.known) };
          uncovered = λ covered. let (a, covers) = covered_in right covered in last.uncovered (omega arith) a covers;
          last = λ later m. behind later (omega arith);
        },
      )
      go (no l) = absurd (some (λ g gap. behind g (omega (arith, gap.from)) gap))
