-- How far values reach, as the table has it.
use Prim.Native.Nat.{ℕ, ◌≤◌, ◌<◌}
use native.Mathlib.Omega.{arith}
use native.Mathlib.Nat.{ℕ_set}
use mathlib.Core.Path.{◌≡◌, refl}
use mathlib.Core.Logic.{∥∥₁_elim}
use mathlib.Core.List.{List}
use Rattle.history.specs.History.{History, add}
use Rattle.violations.specs.Violations.{Is, Reaches, Removed, removed, never}
use Rattle.violations.proofs.Operations.{removed?}
use Rattle.matching.specs.Held.{Held}
use Rattle.matching.specs.Reaches.{reach_at, Reaching}

-- A value keeps its table of reaches truncated, since an add may reach as far by two removes. What it says is found again: it is decided whether
-- an add is removed, and there is one place only that its value reaches to.
module _ {h : History} {reach : List ℕ} (kept : ∥ Reaching h reach ∥₁) where
  only : (a far : ℕ) → Is h add a → Reaches h a far → far ≡ reach_at reach a
  only a far is reaches = ∥∥₁_elim kept (ℕ_set _ _) (λ r. r.only a far is reaches)

  pub reaching_kept : Reaching h reach
  reaching_kept = record {
    sized = ∥∥₁_elim kept (ℕ_set _ _) (λ r. r.sized);
    reaches = λ a is. by a is (removed? h a);
    only = only;
    idle = λ o is. ∥∥₁_elim kept (ℕ_set _ _) (λ r. r.idle o is);
  }
    where
      by : (a : ℕ) → Is h add a → Dec (Removed h a) → Reaches h a (reach_at reach a)
      by a is (yes (r, out)) = removed r out (only a (h.call r) is (removed r out refl))
      by a is (no n) = never n (only a h.end is (never n refl))

-- No value reaches beyond the end.
pub reach_within : {h : History} {reach : List ℕ} → Held h → Reaching h reach → {a : ℕ} → Is h add a → reach_at reach a ≤ h.end
reach_within {h} {reach} held reaching {a} is = go (reaching.reaches a is)
  where
    go : Reaches h a (reach_at reach a) → reach_at reach a ≤ h.end
    go (removed r out e) = let known : r < h.count = out.removes.known in omega (arith, held.lawful.spans r known, held.lawful.ends r known)
    go (never n e) = omega arith
