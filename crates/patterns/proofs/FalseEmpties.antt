-- The lowest empty remove all gaps of which are covered is the first violation where no pattern below 6 occurs; where there is none, no pattern
-- occurs at all.
use Prim.Native.Nat.{ℕ, ◌<◌}
use native.Mathlib.Omega.{arith}
use native.Mathlib.Decide.{dec_lt}
use mathlib.Core.Path.{◌≡◌}
use mathlib.Core.List.{List, ◌∷◌}
use lib.ListN.{take}
use Rattle.history.specs.Object.{Queue}
use Rattle.history.specs.History.{History, empty_remove}
use Rattle.violations.specs.Violations.{Is, AllCovered, FalseEmpty, Occurs, false_empty, NoViolation}
use Rattle.violations.specs.Verdict.{Lower, FirstViolation}
use Rattle.violations.proofs.Occurrences.{occurs_numbered}
use Rattle.violations.proofs.Lowest.{lower_differs}
use Rattle.violations.proofs.Chains.{chain_one}
use Rattle.patterns.specs.Chains.{FirstChained}
use Rattle.patterns.proofs.Lower.{not_lower}

-- a false empty is not above any other if its empty remove is not
lowest_false_empty : {h : History} {e : ℕ} {chain : List ℕ} → FalseEmpty h e chain → ((f : ℕ) → f < e → Is h empty_remove f → AllCovered h f → ⊥)
    → (other : List ℕ) → Occurs Queue h 6 other → Lower other (e ∷ chain) → ⊥
lowest_false_empty {e = e} first none _ (false_empty {e = f} t) =
    let not-below : f < e → ⊥ = λ l. none f l t.empties t.covered in
    not_lower (omega arith) (λ same less. lower_differs less (chain_one (rw same at t.chained) first.chained))

module _ {h : History} (clean : (n : ℕ) (listed : List ℕ) → n < 6 → Occurs Queue h n listed → ⊥) {k : ℕ} {list : List ℕ} (first : FirstChained h k list) where
  -- what is listed is the first violation
  pub chained_first : 0 < k → FirstViolation Queue h 6 (take k list)
  chained_first l = let (e, chain, is, found, none) = first.found l in rw is (record { occurs = false_empty found; lowest_number = clean; lowest_list = lowest_false_empty found none })

  -- if nothing is listed, no pattern occurs
  pub chained_none : k ≡ 0 → NoViolation Queue h
  chained_none e n listed occurs = go (dec_lt n 6)
    where
      sixth : (listed : List ℕ) → Occurs Queue h 6 listed → ⊥
      sixth _ (false_empty {e = f} t) = first.none e f t.empties t.covered

      go : Dec (n < 6) → ⊥
      go (yes l) = clean n listed l occurs
      go (no l) = let six : n ≡ 6 = omega (arith, occurs_numbered occurs) in sixth listed (rw six at occurs)
