-- Of the numbers that are noted at the positions of returns, the highest is kept from position to position.
use Prim.Native.Nat.{ℕ, ◌+◌, ◌≤◌, ◌<◌}
use native.Mathlib.Omega.{arith}
use native.Mathlib.Decide.{dec_lt}
use mathlib.Core.Path.{◌≡◌, refl, sym, ◌∙◌}
use mathlib.Core.Logic.{◌⊎◌, inl, inr}
use mathlib.Core.List.{List}
use lib.ListN.{get_or}
use Rattle.history.specs.History.{History, add}
use Rattle.violations.specs.Violations.{Is}
use Rattle.matching.specs.Returns.{NotedAt, ReturnsNoted}
use Rattle.matching.proofs.Numbers.{Larger}

-- x is the highest number of an add that returns below position g; 0 if there is none.
pub record Highest (h : History) (number : List ℕ) (g x : ℕ) : Type 0 where
  pub over : (a : ℕ) → Is h add a → h.ret a < g → get_or number a 0 ≤ x
  pub met : 0 < x → (a : ℕ) × Is h add a × (h.ret a < g) × (get_or number a 0 ≡ x)

pub highest_starts : (h : History) (number : List ℕ) → Highest h number 0 0
highest_starts h number = record { over = λ a is l. absurd (omega arith); met = λ p. absurd (omega arith) }

-- one position more: y is noted there, and z is the larger of the two
pub highest_more : {h : History} {number : List ℕ} {g x y z : ℕ} → Highest h number g x → NotedAt h number h.count g y → Larger x y z
    → Highest h number (g + 1) z
highest_more {h} {number} {g} {x} {y} {z} so_far at (old, new, one) = record { over = λ a is l. over a is l (dec_lt (h.ret a) g); met = met one }
  where
    over : (a : ℕ) → Is h add a → h.ret a < g + 1 → Dec (h.ret a < g) → get_or number a 0 ≤ z
    over a is l (yes b) = omega (arith, so_far.over a is b)
    over a is l (no b) = omega (arith, at.over a is.known is (omega arith))

    met : (z ≡ x) ⊎ (z ≡ y) → 0 < z → (a : ℕ) × Is h add a × (h.ret a < g + 1) × (get_or number a 0 ≡ z)
    met (inl e) p = let (a, is, l, f) = so_far.met (omega arith) in (a, is, omega arith, f ∙ sym e)
    met (inr e) p = let (a, l, is, r, f) = at.met (omega arith) in (a, is, omega arith, f ∙ sym e)

-- several positions more, at which nothing is noted
pub highest_on : {h : History} {number noted : List ℕ} {g f x : ℕ} → ReturnsNoted h number h.count noted → Highest h number g x → g ≤ f → f ≤ h.end
    → ((p : ℕ) → g ≤ p → p < f → get_or noted p 0 ≡ 0) → Highest h number f x
highest_on {h} {number} {noted} {g} {f} {x} all so_far later within none = record {
  over = λ a is l. over a is l (dec_lt (h.ret a) g);
  met = λ p. let (a, is, l, e) = so_far.met p in (a, is, omega arith, e);
}
  where
    over : (a : ℕ) → Is h add a → h.ret a < f → Dec (h.ret a < g) → get_or number a 0 ≤ x
    over a is l (yes b) = so_far.over a is b
    over a is l (no b) = omega (arith, (all.highest (h.ret a) (omega arith)).over a is.known is refl, none (h.ret a) (omega arith) l)
