-- The laws of bytes that are put into a buffer.
use Prim.Native.Nat.{ℕ, ◌+◌, ◌/◌, ◌%◌, ◌≤◌, ◌<◌}
use native.Mathlib.Omega.{arith}
use native.Mathlib.Numerals.{add-one}
use mathlib.Core.Path.{◌≡◌, refl, sym, ap, ◌∙◌}
use mathlib.Core.List.{List, [], ◌∷◌, ◌++◌}
use lib.ListN.{length, take, drop, set, length-append}
use lib.Seq.{take_at, drop_at, set_split, append_snoc}
use Rattle.buffer.proofs.Copying.{put_nothing, put_behind}
use Rattle.text.specs.Text.{digit, decimal, Puts}
use Rattle.text.proofs.Decimals.{decimal_digit, decimal_more}

pub puts_nothing : (buffer : List ℕ) (at : ℕ) → Puts [] at buffer at buffer
puts_nothing buffer at = record { ends = omega arith; holds = put_nothing at buffer }

pub puts_byte : (buffer : List ℕ) (at x : ℕ) → at < length buffer → Puts (x ∷ []) at buffer (at + 1) (set buffer at x)
puts_byte buffer at x l = record { ends = refl; holds = rw add-one (set_split buffer at x l ∙ sym (append_snoc (take at buffer) x _)) }

-- what is put after what was put
pub puts_more : {bytes more buffer buffer' buffer'' : List ℕ} {at mid next : ℕ} → Puts bytes at buffer mid buffer' → Puts more mid buffer' next buffer'' → at ≤ length buffer → Puts (bytes ++ more) at buffer next buffer''
puts_more {bytes} {more} {buffer} {at = at} p q l = record {
  ends = omega (arith, length-append bytes more, p.ends, q.ends);
  holds = q.holds ∙ rw (p.ends, p.holds) (put_behind at bytes more buffer l);
}

-- what is put at the start
pub starts_with : {bytes buffer buffer' : List ℕ} {n : ℕ} → Puts bytes 0 buffer n buffer' → take n buffer' ≡ bytes
starts_with {bytes} {n = n} p = ap (λ b. take n b) p.holds ∙ take_at bytes _ n (omega (arith, p.ends))

pub keeps_behind : {bytes buffer buffer' : List ℕ} {n : ℕ} → Puts bytes 0 buffer n buffer' → drop n buffer' ≡ drop n buffer
keeps_behind {bytes} {buffer} {n = n} p = ap (λ b. drop n b) p.holds ∙ drop_at bytes _ n (omega (arith, p.ends)) ∙ ap (λ k. drop k buffer) (sym p.ends)

-- the same bytes, in another form
pub puts_same : {bytes bytes' buffer buffer' : List ℕ} {at next : ℕ} → bytes' ≡ bytes → Puts bytes at buffer next buffer' → Puts bytes' at buffer next buffer'
puts_same e p = rw e p

-- a number is put digit by digit
pub puts_digit : {buffer buffer' : List ℕ} {at next : ℕ} (x : ℕ) → x < 10 → Puts (digit x ∷ []) at buffer next buffer' → Puts (decimal x) at buffer next buffer'
puts_digit x l p = rw (decimal_digit x l) p

pub puts_digits : {buffer buffer' buffer'' : List ℕ} {at last next : ℕ} (x : ℕ) → 10 ≤ x → Puts (decimal (x / 10)) at buffer last buffer' → Puts (digit (x % 10) ∷ []) last buffer' next buffer'' → at ≤ length buffer
    → Puts (decimal x) at buffer next buffer''
puts_digits x l p q room = rw (decimal_more x l) (puts_more p q room)
