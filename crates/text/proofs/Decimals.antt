-- The laws of decimal numbers.
use Prim.Native.Nat.{ℕ, zero, suc, ◌+◌, ◌/◌, ◌%◌, ◌^◌, ◌≤◌, ◌<◌}
use native.Mathlib.Omega.{arith}
use native.Mathlib.Nat.{pow-suc}
use native.Mathlib.Decide.{dec_lt}
use mathlib.Core.Path.{◌≡◌, refl, sym, ap, ◌∙◌}
use mathlib.Core.List.{[], ◌∷◌, ◌++◌}
use lib.ListN.{length, get_or, length-append, get_or-append}
use borrow.Author.Tests.{lt-ltb, le-ltb}
use Rattle.text.specs.Text.{digit, digits, decimal}

-- it does not matter how many digits are allowed for, if there are enough
digits_same : (m n x : ℕ) → x < m → x < n → digits m x ≡ digits n x
unfolding digits
digits_same zero n x l k = absurd (omega arith)
digits_same (suc m) zero x l k = absurd (omega arith)
digits_same (suc m) (suc n) x l k = go (dec_lt x 10) (digits_same m n (x / 10))
  where
    go : Dec (x < 10) → (x / 10 < m → x / 10 < n → digits m (x / 10) ≡ digits n (x / 10)) → digits (suc m) x ≡ digits (suc n) x
    go (yes s) same = rw (lt-ltb x 10 s) refl
    go (no s) same = let tall = le-ltb x 10 (omega arith) in rw tall (rw (same (omega arith) (omega arith)) refl)

pub decimal_digit : (x : ℕ) → x < 10 → decimal x ≡ digit x ∷ []
unfolding digits
decimal_digit x l = rw (lt-ltb x 10 l) refl

pub decimal_more : (x : ℕ) → 10 ≤ x → decimal x ≡ decimal (x / 10) ++ (digit (x % 10) ∷ [])
unfolding digits
decimal_more x l = rw (le-ltb x 10 l) (rw (digits_same x (suc (x / 10)) (x / 10) (omega arith) (omega arith)) refl)

-- how many digits there are
pub one_digit : (x : ℕ) → x < 10 → length (decimal x) ≡ 1
one_digit x l = ap length (decimal_digit x l)

pub one_digit_more : (x : ℕ) → 10 ≤ x → length (decimal x) ≡ length (decimal (x / 10)) + 1
one_digit_more x l = ap length (decimal_more x l) ∙ length-append (decimal (x / 10)) (digit (x % 10) ∷ [])

-- a number below 10 ^ (n + 1) has at most n + 1 digits
digits_few : (most n x : ℕ) → x < 10 ^ suc n → length (digits most x) ≤ suc n
unfolding digits
digits_few zero n x l = omega arith
digits_few (suc most) n x l = go (dec_lt x 10) n l (λ k. digits_few most k (x / 10))
  where
    go : Dec (x < 10) → (n : ℕ) → x < 10 ^ suc n → ((k : ℕ) → x / 10 < 10 ^ suc k → length (digits most (x / 10)) ≤ suc k) → length (digits (suc most) x) ≤ suc n
    go (yes s) n l rest = rw (lt-ltb x 10 s) (omega arith)
    go (no s) zero l rest = absurd (omega arith)
    go (no s) (suc n) l rest = rw (le-ltb x 10 (omega arith)) (omega (arith, length-append (digits most (x / 10)) (digit (x % 10) ∷ []), rest n (omega (arith, pow-suc 10 (suc n)))))

pub decimal_few : (n x : ℕ) → x < 10 ^ suc n → length (decimal x) ≤ suc n
decimal_few n x l = digits_few (suc x) n x l

-- a number other than 0 has no leading zero
digits_some : (most x : ℕ) → x < most → 0 < length (digits most x)
unfolding digits
digits_some zero x l = absurd (omega arith)
digits_some (suc most) x l = go (dec_lt x 10)
  where
    go : Dec (x < 10) → 0 < length (digits (suc most) x)
    go (yes s) = rw (lt-ltb x 10 s) (omega arith)
    go (no s) = rw (le-ltb x 10 (omega arith)) (omega (arith, length-append (digits most (x / 10)) (digit (x % 10) ∷ [])))

digits_lead : (most x : ℕ) → x < most → 0 < x → get_or (digits most x) 0 0 ≡ digit 0 → ⊥
unfolding digits
digits_lead zero x l p e = omega arith
digits_lead (suc most) x l p e = go (dec_lt x 10) (digits_lead most (x / 10)) e
  where
    go : Dec (x < 10) → (x / 10 < most → 0 < x / 10 → get_or (digits most (x / 10)) 0 0 ≡ digit 0 → ⊥) → get_or (digits (suc most) x) 0 0 ≡ digit 0 → ⊥
    go (yes s) rest e = let one : digit x ≡ digit 0 = rw (lt-ltb x 10 s) at e in omega arith
    go (no s) rest e =
        rest (omega arith) (omega arith)
        (sym (get_or-append (digits most (x / 10)) (digit (x % 10) ∷ []) 0 0 (digits_some most (x / 10) (omega arith))) ∙ rw (le-ltb x 10 (omega arith)) at e)

pub decimal_leads : (x : ℕ) → 0 < x → get_or (decimal x) 0 0 ≡ digit 0 → ⊥
decimal_leads x p e = digits_lead (suc x) x (omega arith) p e
