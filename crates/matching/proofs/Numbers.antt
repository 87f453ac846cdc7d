-- The smaller and the larger of two numbers, and the least of those that a function makes.
use Prim.Native.Nat.{ℕ, min, max, ◌-◌, ◌≤◌, ◌<◌}
use native.Mathlib.Omega.{arith}
use native.Mathlib.Decide.{ℕ_discrete, dec_lt}
use mathlib.Core.Path.{◌≡◌, refl, sym, ◌∙◌}
use mathlib.Core.Logic.{◌⊎◌, inl, inr}
use Rattle.matching.specs.Answers.{LeastFrom}

-- r is the smaller of a and b
abbrev pub Smaller : ℕ → ℕ → ℕ → Type 0
Smaller a b r = (r ≤ a) × (r ≤ b) × ((r ≡ a) ⊎ (r ≡ b))

-- r is the larger of a and b
abbrev pub Larger : ℕ → ℕ → ℕ → Type 0
Larger a b r = (a ≤ r) × (b ≤ r) × ((r ≡ a) ⊎ (r ≡ b))

-- what the library's min and max answer
pub smaller_is : {a b r : ℕ} → r ≡ min a b → Smaller a b r
smaller_is {a} {b} {r} e = (omega arith, omega arith, by (dec_lt a b))
  where
    by : Dec (a < b) → (r ≡ a) ⊎ (r ≡ b)
    by (yes l) = inl (omega arith)
    by (no l) = inr (omega arith)

pub larger_is : {a b r : ℕ} → r ≡ max a b → Larger a b r
larger_is {a} {b} {r} e = (omega arith, omega arith, by (dec_lt a b))
  where
    by : Dec (a < b) → (r ≡ a) ⊎ (r ≡ b)
    by (yes l) = inr (omega arith)
    by (no l) = inl (omega arith)

-- there is no number from the last on
pub least_starts : {f : ℕ → ℕ} {none count : ℕ} → LeastFrom f none count count none
least_starts = record { within = omega arith; below = λ o b l. absurd (omega arith); met = inl refl }

-- the least from one number more on
pub least_back : {f : ℕ → ℕ} {none count n x y : ℕ} → 0 < n → n ≤ count → LeastFrom f none count n x → Smaller (f (n - 1)) x y
    → LeastFrom f none count (n - 1) y
least_back {f} {none} {count} {n} {x} {y} some within least (here, there, one) = record {
  within = omega (arith, least.within);
  below = λ o b l. below o b l (ℕ_discrete o (n - 1));
  met = met one least.met;
}
  where
    below : (o : ℕ) → n - 1 ≤ o → o < count → Dec (o ≡ n - 1) → y ≤ f o
    below o b l (yes e) = rw e here
    below o b l (no d) = omega (arith, least.below o (omega arith) l)

    met : (y ≡ f (n - 1)) ⊎ (y ≡ x) → (x ≡ none) ⊎ ((o : ℕ) × (n ≤ o) × (o < count) × (f o ≡ x))
        → (y ≡ none) ⊎ ((o : ℕ) × (n - 1 ≤ o) × (o < count) × (f o ≡ y))
    met (inl e) old = inr (n - 1, omega arith, omega arith, sym e)
    met (inr e) (inl f) = inl (e ∙ f)
    met (inr e) (inr (o, b, l, f)) = inr (o, omega arith, l, f ∙ sym e)
