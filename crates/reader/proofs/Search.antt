-- Bounded searches: the lowest or the highest number below a bound that has a property, or that none has it.
use Prim.Native.Nat.{ℕ, zero, suc, ◌<◌}
use native.Mathlib.Omega.{arith}
use native.Mathlib.Decide.{dec_lt}
use mathlib.Core.Logic.{◌⊎◌, inl, inr}
use mathlib.Core.Path.{◌≡◌, refl}
use mathlib.Core.Bool.{Bool, true, false}
use lib.Dec.{eqb}
use borrow.Author.Tests.{eqb-true, eqb-false}
use Rattle.reader.specs.Search.{None}

pub record Lowest (P : ℕ → Type 0) (n : ℕ) : Type 0 where
  pub at : ℕ
  pub below : at < n
  pub holds : P at
  pub none_lower : (m : ℕ) → m < at → P m → ⊥

unfoldable pub lowest : (P : ℕ → Type 0) → ((m : ℕ) → Dec (P m)) → (n : ℕ) → Lowest P n ⊎ None P n
lowest P d zero = inr (λ m h p. absurd (omega arith))
lowest P d (suc n) = go (lowest P d n) (d n)
  where
    further : None P n → (P n → ⊥) → (m : ℕ) → m < suc n → P m → Dec (m < n) → ⊥
    further none no-n m h p (yes l) = none m l p
    further none no-n m h p (no l) = let e : m ≡ n = omega arith in no-n (rw e at p)

    go : Lowest P n ⊎ None P n → Dec (P n) → Lowest P (suc n) ⊎ None P (suc n)
    go (inl s) e = inl (record { at = s.at; below = omega (arith, s.below); holds = s.holds; none_lower = s.none_lower })
    go (inr none) (yes p) = inl (record { at = n; below = omega arith; holds = p; none_lower = none })
    go (inr none) (no q) = inr (λ m h p. further none q m h p (dec_lt m n))

pub record Highest (P : ℕ → Type 0) (n : ℕ) : Type 0 where
  pub at : ℕ
  pub below : at < n
  pub holds : P at
  pub none_higher : (m : ℕ) → at < m → m < n → P m → ⊥

pub highest : (P : ℕ → Type 0) → ((m : ℕ) → Dec (P m)) → (n : ℕ) → Highest P n ⊎ None P n
highest P d zero = inr (λ m h p. absurd (omega arith))
highest P d (suc n) = go (d n) (highest P d n)
  where
    lower : (P n → ⊥) → (m : ℕ) → m < suc n → P m → Dec (m < n) → m < n
    lower no-n m h p (yes l) = l
    lower no-n m h p (no l) = let e : m ≡ n = omega arith in absurd (no-n (rw e at p))

    go : Dec (P n) → Highest P n ⊎ None P n → Highest P (suc n) ⊎ None P (suc n)
    go (yes p) e = inl (record { at = n; below = omega arith; holds = p; none_higher = λ m a b q. omega arith })
    go (no q) (inl s) = inl (record { at = s.at; below = omega (arith, s.below); holds = s.holds; none_higher = λ m a b p. s.none_higher m a (lower q m b p (dec_lt m n)) p })
    go (no q) (inr none) = inr (λ m h p. none m (lower q m h p (dec_lt m n)) p)

pub dec_eq : (a b : ℕ) → Dec (a ≡ b)
dec_eq a b = go (eqb a b) refl
  where
    go : (t : Bool) → eqb a b ≡ t → Dec (a ≡ b)
    go true q = yes (eqb-true a b q)
    go false q = no (eqb-false a b q)
