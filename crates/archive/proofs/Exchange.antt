-- The exchange of two neighbouring numbers, which leaves all others where they are. It is its own inverse, and keeps the order of any two numbers
-- but those.
use Prim.Native.Nat.{ℕ, zero, suc, ◌+◌, ◌<◌}
use native.Mathlib.Omega.{arith}
use mathlib.Core.Path.{◌≡◌, refl, ap}

-- where a number goes if i and i + 1 take each other's place
unfoldable pub exchange : ℕ → ℕ → ℕ
exchange zero zero = 1
exchange zero (suc zero) = 0
exchange zero (suc (suc j)) = suc (suc j)
exchange (suc i) zero = 0
exchange (suc i) (suc j) = suc (exchange i j)

-- done twice it changes nothing
pub exchange_back : (i j : ℕ) → exchange i (exchange i j) ≡ j
unfolding exchange
exchange_back zero zero = refl
exchange_back zero (suc zero) = refl
exchange_back zero (suc (suc j)) = refl
exchange_back (suc i) zero = refl
exchange_back (suc i) (suc j) = ap suc (exchange_back i j)

-- the lower of the two goes up, and the higher one down
pub exchange_low : (i : ℕ) → exchange i i ≡ i + 1
unfolding exchange
exchange_low zero = refl
exchange_low (suc i) = omega (arith, exchange_low i)

pub exchange_high : (i : ℕ) → exchange i (i + 1) ≡ i
exchange_high i = rw (exchange_low i) at (exchange_back i i)

-- another number stays, and so one above both
pub exchange_other : (i j : ℕ) → (j ≡ i → ⊥) → (j ≡ i + 1 → ⊥) → exchange i j ≡ j
unfolding exchange
exchange_other zero zero n m = absurd (n refl)
exchange_other zero (suc zero) n m = absurd (m refl)
exchange_other zero (suc (suc j)) n m = refl
exchange_other (suc i) zero n m = refl
exchange_other (suc i) (suc j) n m = ap suc (exchange_other i j (λ e. n (omega arith)) (λ e. m (omega arith)))

pub exchange_above : (i n : ℕ) → i + 1 < n → exchange i n ≡ n
exchange_above i n l = exchange_other i n (λ e. omega arith) (λ e. omega arith)

-- two numbers stay in their order, unless they are the two
pub exchange_keeps : (i a b : ℕ) → a < b → (a ≡ i → b ≡ i + 1 → ⊥) → exchange i a < exchange i b
unfolding exchange
exchange_keeps i a zero l others = absurd (omega arith)
exchange_keeps zero zero (suc zero) l others = absurd (others refl refl)
exchange_keeps zero zero (suc (suc b)) l others = omega arith
exchange_keeps zero (suc a) (suc zero) l others = absurd (omega arith)
exchange_keeps zero (suc zero) (suc (suc b)) l others = omega arith
exchange_keeps zero (suc (suc a)) (suc (suc b)) l others = l
exchange_keeps (suc i) zero (suc b) l others = omega arith
exchange_keeps (suc i) (suc a) (suc b) l others = omega (arith, exchange_keeps i a b (omega arith) (λ p q. others (omega arith) (omega arith)))

-- so what is below a number above both is below it still
pub exchange_below : (i j n : ℕ) → i + 1 < n → j < n → exchange i j < n
exchange_below i j n l h = omega (arith, exchange_keeps i j n h (λ p q. omega arith), exchange_above i n l)
