-- Counting by a measure: how many numbers have a measure below a bound.
use Prim.Native.Nat.{ℕ, zero, suc, ◌+◌, ◌≤◌, ◌<◌}
use native.Mathlib.Omega.{arith}
use native.Mathlib.Decide.{dec_lt}
use mathlib.Core.Path.{◌≡◌, refl, ap}
use mathlib.Core.Logic.{◌↔◌}
use lib.Dec.{ltb}
use borrow.Author.Tests.{lt-ltb, le-ltb}
use Rattle.history.specs.Positions.{tally}

-- of the numbers below n, those whose measure is below x
abbrev below : (ℕ → ℕ) → ℕ → ℕ → ℕ
below f x n = tally (λ j. ltb (f j) x) n

module _ (f : ℕ → ℕ) where
  -- a number is counted or not
  pub counted : (x n : ℕ) → f n < x → below f x (suc n) ≡ below f x n + 1
  unfolding tally
  counted x n l = rw (lt-ltb (f n) x l) refl

  pub uncounted : (x n : ℕ) → x ≤ f n → below f x (suc n) ≡ below f x n
  unfolding tally
  uncounted x n l = rw (le-ltb (f n) x l) (omega arith)

  -- no more are counted than there are
  counted_few : (x n : ℕ) → below f x n ≤ n
  unfolding tally
  counted_few x zero = omega arith
  counted_few x (suc n) = go (dec_lt (f n) x) (counted_few x n)
    where
      go : Dec (f n < x) → below f x n ≤ n → below f x (suc n) ≤ suc n
      go (yes l) few = omega (arith, counted x n l)
      go (no l) few = omega (arith, uncounted x n (omega arith))

  -- a higher bound counts no fewer, and more if a measure lies between
  abbrev Rise : ℕ → ℕ → ℕ → Type 0
  Rise x y n = (below f x n ≤ below f y n) × ((k : ℕ) → k < n → x ≤ f k → f k < y → below f x n < below f y n)

  counted_rise : (x y n : ℕ) → x ≤ y → Rise x y n
  unfolding tally
  counted_rise x y zero l = (omega arith, λ k h. absurd (omega arith))
  counted_rise x y (suc n) l = go (dec_lt (f n) x) (dec_lt (f n) y) (counted_rise x y n l)
    where
      -- n itself is counted for both bounds or for neither
      earlier : ((x ≤ f n) × (f n < y) → ⊥) → (below f x n < below f y n → below f x (suc n) < below f y (suc n)) → Rise x y n
          → (k : ℕ) → k < suc n → x ≤ f k → f k < y → below f x (suc n) < below f y (suc n)
      earlier other more rise k h a b = by (dec_lt k n)
        where
          by : Dec (k < n) → below f x (suc n) < below f y (suc n)
          by (yes m) = more (rise.1 k m a b)
          by (no m) = let same : f k ≡ f n = ap f (omega arith) in absurd (other (omega arith, omega arith))

      go : Dec (f n < x) → Dec (f n < y) → Rise x y n → Rise x y (suc n)
      go (yes a) (no b) rise = absurd (omega arith)
      go (yes a) (yes b) rise = (omega (arith, counted x n a, counted y n b, rise.0), earlier (λ q. omega (arith, q.0)) (λ m. omega (arith, counted x n a, counted y n b)) rise)
      go (no a) (yes b) rise = (omega (arith, uncounted x n (omega arith), counted y n b, rise.0), λ k h p q. omega (arith, uncounted x n (omega arith), counted y n b, rise.0))
      go (no a) (no b) rise =
          let here : below f x (suc n) ≡ below f x n = uncounted x n (omega arith) in
          let there : below f y (suc n) ≡ below f y n = uncounted y n (omega arith) in
          (omega (arith, rise.0), earlier (λ q. omega (arith, q.1)) (λ m. omega arith) rise)

  -- so numbers below n rank as their measures do, and below n
  pub rank_order : (n i j : ℕ) → i < n → (below f (f i) n < below f (f j) n) ↔ (f i < f j)
  rank_order n i j h = (λ l. less l (dec_lt (f i) (f j)), λ l. (counted_rise (f i) (f j) n (omega arith)).1 i h (omega arith) l)
    where
      less : below f (f i) n < below f (f j) n → Dec (f i < f j) → f i < f j
      less l (yes m) = m
      less l (no m) = absurd (omega (arith, (counted_rise (f j) (f i) n (omega arith)).0))

  pub rank_within : (n i : ℕ) → i < n → below f (f i) n < n
  rank_within n i h = omega (arith, (counted_rise (f i) (f i + 1) n (omega arith)).1 i h (omega arith) (omega arith), counted_few (f i + 1) n)
