-- A bounded search for the best of the numbers with a property, in a form that computes.
use Prim.Native.Nat.{ℕ, zero, suc, ◌≤◌, ◌<◌}
use native.Mathlib.Omega.{arith}
use native.Mathlib.Decide.{dec_lt}
use mathlib.Core.Path.{◌≡◌}
use mathlib.Core.Logic.{◌⊎◌, inl, inr}
use Rattle.reader.specs.Search.{None}
use Rattle.history.proofs.Basics.{up_to}

-- a number with property P that is as good as each other one
pub record Best (P : ℕ → Type 0) (AsGood : ℕ → ℕ → Type 0) (n : ℕ) : Type 0 where
  pub at : ℕ
  pub below : at < n
  pub holds : P at
  pub best : (m : ℕ) → m < n → P m → AsGood at m

-- Any two numbers are compared, and comparisons can be joined.
pub record Ranking (AsGood : ℕ → ℕ → Type 0) : Type 0 where
  pub either : (m n : ℕ) → AsGood m n ⊎ AsGood n m
  pub joined : (l m n : ℕ) → AsGood l m → AsGood m n → AsGood l n

unfoldable pub best : (P : ℕ → Type 0) (AsGood : ℕ → ℕ → Type 0) → Ranking AsGood → ((m : ℕ) → Dec (P m)) → (n : ℕ) → Best P AsGood n ⊎ None P n
best P AsGood ranking d zero = inr (λ m l p. omega arith)
best P AsGood ranking d (suc n) = go (best P AsGood ranking d n) (d n)
  where
    same : AsGood n n
    same = by (ranking.either n n)
      where
        by : AsGood n n ⊎ AsGood n n → AsGood n n
        by (inl g) = g
        by (inr g) = g

    keeps : (s : Best P AsGood n) → (P n → AsGood s.at n) → Best P AsGood (suc n)
    keeps s last = record { at = s.at; below = omega (arith, s.below); holds = s.holds; best = λ m l. up_to {P = λ i. P i → AsGood s.at i} s.best last m (omega arith) }

    takes : P n → ((m : ℕ) → m < n → P m → AsGood n m) → Best P AsGood (suc n)
    takes p lower = record { at = n; below = omega arith; holds = p; best = λ m l. up_to {P = λ i. P i → AsGood n i} lower (λ q. same) m (omega arith) }

    compare : (s : Best P AsGood n) → P n → AsGood s.at n ⊎ AsGood n s.at → Best P AsGood (suc n)
    compare s p (inl g) = keeps s (λ q. g)
    compare s p (inr g) = takes p (λ m l q. ranking.joined n s.at m g (s.best m l q))

    go : Best P AsGood n ⊎ None P n → Dec (P n) → Best P AsGood (suc n) ⊎ None P (suc n)
    go (inl s) (yes p) = inl (compare s p (ranking.either s.at n))
    go (inl s) (no q) = inl (keeps s (λ p. absurd (q p)))
    go (inr none) (yes p) = inl (takes p (λ m l q. absurd (none m l q)))
    go (inr none) (no q) = inr (λ m l. up_to {P = λ i. P i → ⊥} none q m (omega arith))

-- there is a best one where some number has the property
pub best_of : {P : ℕ → Type 0} {AsGood : ℕ → ℕ → Type 0} → Ranking AsGood → ((m : ℕ) → Dec (P m)) → {n m : ℕ} → m < n → P m → Best P AsGood n
best_of {P} {AsGood} ranking d {n} {m} l p = go (best P AsGood ranking d n)
  where
    go : Best P AsGood n ⊎ None P n → Best P AsGood n
    go (inl s) = s
    go (inr none) = absurd (none m l p)

-- of two numbers one is no more than the other
compared : (x y : ℕ) → (x ≤ y) ⊎ (y ≤ x)
unfolding dec_lt
compared x y = go (dec_lt x y)
  where
    go : Dec (x < y) → (x ≤ y) ⊎ (y ≤ x)
    go (yes l) = inl (omega arith)
    go (no l) = inr (omega arith)

-- the one with the lesser measure is better, or the one with the greater measure
pub lesser : (f : ℕ → ℕ) → Ranking (λ m n. f m ≤ f n)
unfolding compared
lesser f = record { either = λ m n. compared (f m) (f n); joined = λ l m n b c. omega arith }

unfoldable pub greater : (f : ℕ → ℕ) → Ranking (λ m n. f n ≤ f m)
unfolding compared
greater f = record { either = λ m n. compared (f n) (f m); joined = λ l m n b c. omega arith }

-- a number a with its measure x comes ahead of a number b with its measure y: y is less, or it is the same and b is not lower
abbrev pub Ahead : ℕ → ℕ → ℕ → ℕ → Type 0
Ahead a x b y = (y < x) ⊎ ((y ≡ x) × (a ≤ b))

-- what comes ahead has no smaller measure, and still comes ahead if the other's measure is smaller
pub ahead_at_least : {a x b y : ℕ} → Ahead a x b y → y ≤ x
ahead_at_least (inl less) = omega arith
ahead_at_least (inr same) = omega (arith, same.0)

pub ahead_of_less : {a x b y z : ℕ} → z ≤ y → Ahead a x b y → Ahead a x b z
ahead_of_less {a} {x} {b} {y} {z} l (inl less) = inl (omega arith)
ahead_of_less {a} {x} {b} {y} {z} l (inr same) = go (dec_lt z x)
  where
    go : Dec (z < x) → Ahead a x b z
    go (yes less) = inl less
    go (no n) = inr (omega (arith, same.0), same.1)

-- the one with the greater measure is better, and of several with the same measure the lowest
unfoldable pub ahead : (f : ℕ → ℕ) → Ranking (λ a b. Ahead a (f a) b (f b))
unfolding dec_lt compared
ahead f = record { either = λ a b. either (f a) (f b) (dec_lt (f b) (f a)) (dec_lt (f a) (f b)) (compared a b); joined = λ a b c. joined }
  where
    either : {a b : ℕ} (x y : ℕ) → Dec (y < x) → Dec (x < y) → (a ≤ b) ⊎ (b ≤ a) → Ahead a x b y ⊎ Ahead b y a x
    either x y (yes l) d e = inl (inl l)
    either x y (no l) (yes m) e = inr (inl m)
    either x y (no l) (no m) (inl e) = inl (inr (omega arith, e))
    either x y (no l) (no m) (inr e) = inr (inr (omega arith, e))

    joined : {a b c x y z : ℕ} → Ahead a x b y → Ahead b y c z → Ahead a x c z
    joined (inl l) e = inl (omega (arith, ahead_at_least e))
    joined (inr same) (inl m) = inl (omega (arith, same.0))
    joined (inr same) (inr more) = inr (omega (arith, same.0, more.0), omega (arith, same.1, more.1))
