-- Adds that block others, as the tables of partners, of reaches and of the soonest returns have them.
use Prim.Native.Nat.{ℕ, ◌≤◌, ◌<◌}
use native.Mathlib.Omega.{arith}
use native.Mathlib.Decide.{ℕ_discrete}
use mathlib.Core.Path.{◌≡◌}
use mathlib.Core.Logic.{◌⊎◌, inl, inr}
use mathlib.Core.List.{List}
use lib.Dec.{ltb}
use borrow.Author.Tests.{eq-eqb, ne_eqb}
use Rattle.history.specs.Answers.{Decides}
use Rattle.history.specs.History.{History, add}
use Rattle.history.specs.Table.{tabled}
use Rattle.violations.specs.Violations.{Is}
use Rattle.matching.specs.Held.{Held}
use Rattle.matching.specs.Matching.{partner_at}
use Rattle.matching.specs.Reaches.{reach_at, Reaching}
use Rattle.matching.proofs.Firsts.{first_not_above}
use Rattle.matching.proofs.Reaching.{reach_within}
use Rattle.matching.proofs.Tests.{decided_less}
use Rattle.patterns.specs.Blocked.{pattern_by, Blocks, Blocking, removal_by, Soonest}
use Rattle.patterns.proofs.Soonest.{called_after}

module _ {count end : ℕ} (table partner : List ℕ) {reach : List ℕ} (held : Held (tabled count end table)) (right : Reaching (tabled count end table) reach)
    {a : ℕ} (is : Is (tabled count end table) add a) where
  abbrev h : History
  h = tabled count end table

  -- an add is blocked exactly if it is called after a has returned, and its remove returns while a's value is still there
  pub blocks_removal : {b : ℕ} → Blocks table partner reach a b → removal_by h partner b < reach_at reach a
  blocks_removal {b} blocks = rw (eq-eqb _ _ blocks.adds, ne_eqb (partner_at partner b) 0 (λ e. omega (arith, blocks.removed))) blocks.early

  pub removal_blocks : {b : ℕ} → h.ret a < h.call b → removal_by h partner b < reach_at reach a → Blocks table partner reach a b
  removal_blocks {b} before early = go (ℕ_discrete (h.kind b) add) (ℕ_discrete (partner_at partner b) 0)
    where
      go : Dec (h.kind b ≡ add) → Dec (partner_at partner b ≡ 0) → Blocks table partner reach a b
      go (no n) d = absurd (omega (arith, rw (ne_eqb _ _ n) at early, reach_within held right is))
      go (yes k) (yes e) = absurd (omega (arith, rw (eq-eqb _ _ k, eq-eqb _ _ e) at early, reach_within held right is))
      go (yes k) (no n) = record { adds = k; removed = omega arith; before = before; early = rw (eq-eqb _ _ k, ne_eqb _ _ n) at early }

  -- one that has returned blocks an add exactly if the soonest return from there on comes while its value is still there
  pub decided_blocking : {pattern x : ℕ} → pattern_by partner a ≡ pattern → Soonest h partner (h.ret a) x
      → Decides (Blocking table count partner reach pattern a) (ltb x (reach_at reach a))
  decided_blocking {pattern} {x} shows soonest = decided_less x (reach_at reach a) (λ l. blocking l soonest.least.met) early
    where
      blocking : x < reach_at reach a → (x ≡ end) ⊎ ((b : ℕ) × (soonest.from ≤ b) × (b < count) × (removal_by h partner b ≡ x))
          → Blocking table count partner reach pattern a
      blocking l (inl e) = absurd (omega (arith, reach_within held right is))
      blocking l (inr (b, after, known, e)) =
          let before : h.ret a < h.call b = omega (arith, called_after held soonest.called after known, held.lawful.apart a b is.known known) in
          record { adds = is.kinds; is = shows; some = (b, known, removal_blocks before (omega arith)) }

      early : Blocking table count partner reach pattern a → x < reach_at reach a
      early blocking =
          let (b, known, there) = blocking.some in
          omega (arith, blocks_removal there, soonest.least.below b (first_not_above soonest.called (omega (arith, there.before))) known)
