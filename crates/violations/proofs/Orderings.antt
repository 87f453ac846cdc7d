-- Where operations stand in a legal order, whatever is benched.
use Prim.Native.Nat.{ℕ, ◌<◌}
use native.Mathlib.Omega.{arith}
use mathlib.Core.Path.{◌≡◌, sym, ap, ◌∙◌}
use mathlib.Core.List.{List}
use lib.ListN.{length}
use Rattle.history.specs.History.{History, Precedes, Lawful}
use Rattle.history.specs.Linearization.{placed, Listed, Ordering}

module _ {h : History} {order : List ℕ} (ordering : Ordering h order) where
  -- one operation stands at one place
  pub same_place : (i j : ℕ) → i < length order → j < length order → placed order i ≡ placed order j → i ≡ j
  same_place i j l m e =
      let not_before : i < j → ⊥ = λ b. ordering.once i j b m e in
      let not_behind : j < i → ⊥ = λ b. ordering.once j i b l (sym e) in
      omega arith

  -- what precedes comes before
  pub in_order : Lawful h → {o p : ℕ} → Precedes h o p → (a : Listed order o) (b : Listed order p) → a.at < b.at
  in_order lawful {o} {p} precedes a b =
      let not_behind : b.at < a.at → ⊥ = λ l. ordering.keeps b.at a.at l a.below (rw (a.here, b.here) precedes) in
      let not-here : a.at ≡ b.at → ⊥ = λ e. itself (sym a.here ∙ ap (placed order) e ∙ b.here) in
      omega arith
    where
      itself : o ≡ p → ⊥
      itself e = omega (arith, ap h.call e, lawful.spans o (rw a.here at (ordering.known a.at a.below)))

  -- what precedes something has returned, and is listed
  pub listed_before : Lawful h → {o p : ℕ} → o < h.count → p < h.count → Precedes h o p → Listed order o
  listed_before lawful {o} {p} known known' precedes = ordering.every o known (omega (arith, lawful.spans p known', lawful.ends p known'))
