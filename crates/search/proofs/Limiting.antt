-- The limits that operations set, and the least of them from each operation on.
use Prim.Native.Nat.{ℕ, ◌+◌, ◌-◌, ◌≤◌, ◌<◌}
use native.Mathlib.Omega.{arith}
use mathlib.Core.Path.{◌≡◌}
use mathlib.Core.List.{List}
use lib.ListN.{get_or, set, length-set}
use Rattle.reader.specs.Log.{max_records}
use Rattle.matching.proofs.Numbers.{Smaller, least_back}
use Rattle.matching.proofs.Storing.{entry_stored, filled_more}
use Rattle.search.specs.Bounds.{limit_by, limit_at, LimitTable, Least, BoundTable}

-- one limit more
pub limits_more : {n end : ℕ} {table partner gaps limit : List ℕ} → LimitTable n end table partner gaps limit → {x : ℕ} → n < max_records → x ≡ limit_by table end partner gaps n
    → LimitTable (n + 1) end table partner gaps (set limit n x)
limits_more {limit = limit} t l e = record { sized = simp length-set t.sized; limits = filled_more limit (omega (arith, t.sized)) t.limits e }

-- one bound more
pub bounds_more : {count end : ℕ} {limit : List ℕ} {n : ℕ} {bound : List ℕ} {x : ℕ} → count ≤ max_records → BoundTable count end limit n bound → 0 < n → n ≤ count
    → Smaller (limit_at limit (n - 1)) (get_or bound n 0) x → BoundTable count end limit (n - 1) (set bound (n - 1) x)
bounds_more {count} {end} {limit} {n} {bound} {x} few t some within smaller = record {
  sized = simp length-set t.sized;
  least = λ o l m. entry_stored (Least count end limit o) bound (n - 1) x o (omega (arith, t.sized)) (λ e. rw e (least_back some within (t.least n (omega arith) within) smaller)) (λ d. t.least o (omega arith) m);
}
