-- The numbers of the patterns are those of the code, and tell the patterns apart.
use Prim.Native.Nat.{ℕ, zero, suc, ◌+◌, ◌≤◌, ◌<◌}
use mathlib.Core.Path.{◌≡◌, refl, sym, ap, ◌∙◌}
use native.Mathlib.Omega.{arith}
use lib.Dec.{eqb, eqb-suc-suc}
use denote.Enum.Bare.{sameb}
use denote.Enum.Declared.{tag_of}
use Rattle.patterns.specs.contracts.pattern.Pattern.{the_type}
use Rattle.patterns.specs.declared.pattern.Pattern.{Pattern}
use Rattle.patterns.specs.declared.pattern.Pattern.TheVariants.{Unknown, Twice, Early, Stuck, Overtaken, FalseEmpty}
use Rattle.patterns.specs.Pattern.{number_of}

number_tag : (p : Pattern) → number_of p ≡ suc (tag_of the_type p)
number_tag Unknown = refl
number_tag Twice = refl
number_tag Early = refl
number_tag Stuck = refl
number_tag Overtaken = refl
number_tag FalseEmpty = refl

pub code_number : (p : Pattern) → tag_of the_type p + 1 ≡ number_of p
code_number p = omega (arith, number_tag p)

pub same_number : (p q : Pattern) → sameb the_type p q ≡ eqb (number_of p) (number_of q)
same_number p q = rw (number_tag p, number_tag q) (sym (eqb-suc-suc _ _))

-- the pattern of a number that is above 0
named_above : ℕ → Pattern
named_above zero = Unknown
named_above (suc zero) = Twice
named_above (suc (suc zero)) = Early
named_above (suc (suc (suc zero))) = Stuck
named_above (suc (suc (suc (suc zero)))) = Overtaken
named_above (suc (suc (suc (suc (suc n))))) = FalseEmpty

above_number : (n : ℕ) → n < 6 → number_of (named_above n) ≡ suc n
unfolding named_above
above_number zero l = refl
above_number (suc zero) l = refl
above_number (suc (suc zero)) l = refl
above_number (suc (suc (suc zero))) l = refl
above_number (suc (suc (suc (suc zero)))) l = refl
above_number (suc (suc (suc (suc (suc zero))))) l = refl
above_number (suc (suc (suc (suc (suc (suc n)))))) l = absurd (omega arith)

named_back : (p : Pattern) → named_above (tag_of the_type p) ≡ p
unfolding named_above
named_back Unknown = refl
named_back Twice = refl
named_back Early = refl
named_back Stuck = refl
named_back Overtaken = refl
named_back FalseEmpty = refl

-- each number from 1 to 6 is a pattern's, and one pattern's alone
pub named : (n : ℕ) → 0 < n → n ≤ 6 → (p : Pattern) × (number_of p ≡ n)
named zero l m = absurd (omega arith)
named (suc n) l m = (named_above n, above_number n (omega arith))

pub number_apart : (p q : Pattern) → number_of p ≡ number_of q → p ≡ q
number_apart p q e =
    let same : tag_of the_type p ≡ tag_of the_type q = omega (arith, number_tag p, number_tag q, e) in
    sym (named_back p) ∙ ap named_above same ∙ named_back q

-- which is 0 for none
pub numbered : (p : Pattern) → 0 < number_of p
numbered p = omega (arith, number_tag p)
