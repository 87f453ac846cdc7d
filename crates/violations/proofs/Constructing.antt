-- Which tables are fit for the search for an order of a queue's history.
use Prim.Native.Nat.{ℕ, ◌≤◌, ◌<◌}
use native.Mathlib.Omega.{arith}
use mathlib.Core.Path.{◌≡◌, sym}
use mathlib.Core.Logic.Dec
use mathlib.Core.List.{List, [], ◌∷◌}
use Rattle.history.specs.Object.{Queue}
use Rattle.history.specs.History.{History, add, remove, empty_remove, Precedes, Lawful}
use Rattle.violations.specs.Violations.{Is, RemoveOf, Gap, Reaches, removed, never, Covered, Occurs, unknown, twice, early, stuck, overtaken}
use Rattle.violations.specs.Search.{Matched, Sound}
use Rattle.history.proofs.Deciding.{some?}
use Rattle.violations.proofs.Operations.{precedes_unless_after, is?, remove_of?}

-- Tables are fit for the search where no pattern occurs: `reach` has to tell how far the value of each add covers, and `gap`
-- a gap of each empty remove that no value covers. What is said of `reach` needs only that patterns 1 and 2 do not occur.
pub tables_match : {h : History} {reach : ℕ → ℕ} → ((a : ℕ) → Is h add a → Reaches h a (reach a))
    → ((n : ℕ) (listed : List ℕ) → n < 3 → Occurs Queue h n listed → ⊥) → Matched h reach
tables_match {h} reaches clean = record { reaches = reaches; named = λ r removes. named removes (some? (Adder r) (λ a. Dec.and (is? h add a) (remove_of? h a r)) h.count (λ a adder. adder.0.known)); single = single }
  where
    Adder : ℕ → ℕ → Type 0
    Adder r a = Is h add a × RemoveOf h a r

    named : {r : ℕ} → Is h remove r → Dec ((a : ℕ) × Adder r a) → (a : ℕ) × Is h add a × RemoveOf h a r
    named removes (yes (a, (is, out))) = (a, is, out)
    named {r} removes (no n) = absurd (clean 1 (r ∷ []) (omega arith) (unknown (record { removes = removes; unnamed = λ a is out. n (a, (is, out)) })))

    single : (r s : ℕ) → Is h remove r → Is h remove s → h.value r ≡ h.value s → r ≡ s
    single r s first second same =
        let not_lower : r < s → ⊥ = λ l. clean 2 (r ∷ s ∷ []) (omega arith) (twice (record { first = first; second = second; lower = l; same = same })) in
        let not_higher : s < r → ⊥ = λ l. clean 2 (s ∷ r ∷ []) (omega arith) (twice (record { first = second; second = first; lower = l; same = sym same })) in
        omega arith

pub tables_fit : {h : History} {reach gap : ℕ → ℕ} → Lawful h → ((a : ℕ) → Is h add a → Reaches h a (reach a))
    → ((n : ℕ) (listed : List ℕ) → n < 6 → Occurs Queue h n listed → ⊥)
    → ((e : ℕ) → Is h empty_remove e → Gap h e (gap e)) → ((e : ℕ) → Is h empty_remove e → Covered h (gap e) → ⊥)
    → Sound h reach gap
tables_fit {h} {reach} lawful reaches clean gaps uncovered = record {
  matched = tables_match reaches (λ n listed l. clean n listed (omega arith));
  timely = timely;
  in_turn = λ a b r first second before out. in_turn a b r first second before out (reaches a first);
  gaps = gaps;
  uncovered = uncovered;
}
  where
    timely : (a r : ℕ) → Is h add a → RemoveOf h a r → h.call a < h.ret r
    timely a r is out =
        let not-early : Precedes h r a → ⊥ = λ before. clean 3 (r ∷ a ∷ []) (omega arith) (early (record { adds = is; removes = out; before = before })) in
        let not_after : h.ret r ≤ h.call a → ⊥ = λ l. not-early (precedes_unless_after lawful out.removes.known is.known l) in
        omega arith

    in_turn : (a b r : ℕ) → Is h add a → Is h add b → Precedes h a b → RemoveOf h b r → Reaches h a (reach a) → reach a < h.ret r
    in_turn a b r first second before out (never n e) =
        absurd (clean 4 (a ∷ b ∷ r ∷ []) (omega arith) (stuck (record { first = first; second = second; before = before; removes = out; never = n })))
    in_turn a b r first second before out (removed s off e) =
        let not-overtaken : Precedes h r s → ⊥ = λ late.
        clean 5 (a ∷ b ∷ r ∷ s ∷ []) (omega arith) (overtaken (record { first = first; second = second; added_before = before; removes = out; removes_late = off; overtakes = late })) in
        let not_after : h.ret r ≤ h.call s → ⊥ = λ l. not-overtaken (precedes_unless_after lawful out.removes.known off.removes.known l) in
        omega arith
