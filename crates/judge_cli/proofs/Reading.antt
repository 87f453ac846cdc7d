-- Bytes that are read into a buffer.
use Rattle.std.proofs.Common.{◌≡◌, ◌∙◌, sym, ap, ℕ, ◌+◌, ◌-◌, ◌<◌, ◌≤◌, List, ◌++◌, append-nil, length, take, drop, take_all, length-take-le, drop_at, arith, None, Some, IfSome, inl, inr}
use Rattle.std.specs.declared.option.Option.{Option}
use Rattle.std.specs.Io.KnownBytes.{Consumes, IsAtEnd}
use Rattle.std.proofs.lemmas.List.{take_at}
use Rattle.std.proofs.Math.Nat.{eq-or-lt_of_le}
use borrow.Rule.Slice.PartMut.{put_mid, post_of, take_put}
use lib.Seq.{take-add, take-append-le}

-- After a read of n bytes into the part of a buffer from a on, its first a + n bytes are the a bytes before, and then those n.
pub take-read : (a n : ℕ) (xs ys : List ℕ) → a ≤ length xs → n ≤ length ys → take (a + n) (put_mid a (length xs - a) xs ys) ≡ take a xs ++ take n ys
take-read a n xs ys within fits =
    let rest : List ℕ = post_of a (length xs - a) xs in
    take-add a n (put_mid a (length xs - a) xs ys)
    ∙ ap (λ l. l ++ take n (drop a (put_mid a (length xs - a) xs ys))) (take_put a (length xs - a) xs ys within)
    ∙ ap (λ l. take a xs ++ take n l) (drop_at (take a xs) (ys ++ rest) a (length-take-le a xs within))
    ∙ ap (λ l. take a xs ++ l) (take-append-le n ys rest fits)

-- Where reading stops at a full buffer or at the end of the input, what stands in the buffer is the front of the input.
pub front-read : (old new : Option (List ℕ)) (n room : ℕ) (buffer : List ℕ) → length buffer ≡ room → n ≤ length buffer → Consumes old new (take n buffer)
    → (n < length buffer → IsAtEnd new) → IfSome old (λ bytes. take n buffer ≡ take room bytes)
front-read None new n room buffer whole within lost end = tt
front-read (Some xs) None n room buffer whole within lost end = absurd lost
front-read (Some xs) (Some ys) n room buffer whole within lost end =
    let counted : length (take n buffer) ≡ n = length-take-le n buffer within in
    elim (eq-or-lt_of_le within) [
      | inl full ↦ sym (take_at (take n buffer) ys room (counted ∙ full ∙ whole)) ∙ ap (take room) (sym lost)
      | inr less ↦
          let all : xs ≡ take n buffer = lost ∙ ap (λ l. take n buffer ++ l) (end less) ∙ append-nil (take n buffer) in
          sym (take_all room (take n buffer) (omega arith)) ∙ ap (take room) (sym all)
    ]
