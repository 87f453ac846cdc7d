-- An order that the search finds, and the first violation, are the verdict on the history in the table as it stands, and the verdict if it is an order or
-- every remove has returned.
use Prim.Native.Nat.{ℕ}
use native.Mathlib.Omega.{arith}
use mathlib.Core.Path.{◌≡◌, refl}
use mathlib.Core.List.{List}
use lib.ListN.{take}
use Rattle.history.specs.Object.{Queue}
use Rattle.history.specs.History.{History, no_kind, RemovesReturned}
use Rattle.history.specs.Sheet.{order_verdict}
use Rattle.history.specs.Table.{kind_at, tabled}
use Rattle.violations.specs.Verdict.{FirstViolation, CompleteVerdict, Verdict}
use Rattle.violations.specs.Fates.{left_out}
use Rattle.violations.proofs.Laws.{occurs_numbered, complete_zero, complete_pattern, complete_is_verdict}
use Rattle.matching.specs.Answers.{First}
use Rattle.matching.proofs.Firsts.{none_found}
use Rattle.search.specs.Order.{OrderListed}
use Rattle.patterns.specs.declared.pattern.Pattern.{Pattern}
use Rattle.patterns.specs.Pattern.{number_of}
use Rattle.patterns.specs.Finding.{PatternListed}
use Rattle.patterns.proofs.Numbered.{numbered}
use Rattle.judge.specs.Decision.{CompleteDecided, Decided}

-- an order that the search finds is decided
pub decided_order : {h : History} {k : ℕ} {list : List ℕ} → OrderListed h k list → CompleteDecided h order_verdict k list
decided_order order = record {
  sized = order.sized;
  within = order.within;
  verdict = CompleteVerdict.linearization order.judged;
  chosen = λ e. order.found;
}

-- a pattern is no order
no_order : {h : History} {byte : ℕ} {listed : List ℕ} → FirstViolation Queue h byte listed → {P : Type 0} → byte ≡ order_verdict → P
no_order first e = absurd (omega (arith, occurs_numbered first.occurs))

-- the first violation is decided
pub decided_pattern : {h : History} {byte k : ℕ} {list : List ℕ} → PatternListed h byte k list → CompleteDecided h byte k list
decided_pattern pattern = record {
  sized = pattern.sized;
  within = pattern.within;
  verdict = CompleteVerdict.violation pattern.first;
  chosen = no_order pattern.first;
}

module _ {h : History} {byte k : ℕ} {list : List ℕ} (decided : CompleteDecided h byte k list) where
  -- what is decided is an order
  pub order_stands : byte ≡ order_verdict → Decided h byte k list
  order_stands e =
      let judged = complete_zero decided.verdict e in
      record {
        sized = decided.sized;
        within = decided.within;
        verdict = rw e (Verdict.linearization left_out judged);
        chosen = λ e. record { settled = h; settles = left_out; judged = judged; found = decided.chosen e };
      }

  -- or a pattern
  pub pattern_listed : (byte ≡ order_verdict → ⊥) → PatternListed h byte k list
  pattern_listed n = record { sized = decided.sized; within = decided.within; first = complete_pattern decided.verdict n }

-- by its number
pub pattern_stands : {h : History} (pattern : Pattern) {k : ℕ} {list : List ℕ} → CompleteDecided h (number_of pattern) k list → PatternListed h (number_of pattern) k list
pattern_stands pattern decided = pattern_listed decided (λ e. omega (arith, numbered pattern))

-- a pattern that is the verdict is decided
pattern_decided : {h : History} {byte k : ℕ} {list : List ℕ} → PatternListed h byte k list → Verdict Queue h byte (take k list) → Decided h byte k list
pattern_decided pattern verdict = record { sized = pattern.sized; within = pattern.within; verdict = verdict; chosen = no_order pattern.first }

-- so it is if every remove has returned
pub returned_decided : (table : List ℕ) {count end byte k : ℕ} {list : List ℕ} → PatternListed (tabled count end table) byte k list
    → First (λ p. kind_at table p ≡ no_kind) count count → Decided (tabled count end table) byte k list
returned_decided table {count} {end} pattern first =
    pattern_decided pattern (complete_is_verdict Queue returned (CompleteVerdict.violation pattern.first))
  where
    returned : RemovesReturned (tabled count end table)
    returned p l = let kinded : kind_at table p ≡ no_kind → ⊥ = none_found first refl p l in omega arith
