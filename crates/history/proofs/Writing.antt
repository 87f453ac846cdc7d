-- A sheet is written number by number into a lent buffer.
use Prim.Native.Nat.{ℕ, ◌+◌, ◌*◌, ◌≤◌, ◌<◌}
use native.Mathlib.Omega.{arith}
use native.Mathlib.Numerals.{add-one}
use mathlib.Core.Path.{◌≡◌, refl, sym, ap, ◌∙◌}
use mathlib.Core.List.{List, [], ◌∷◌, ◌++◌}
use lib.ListN.{length, get_or, set, take}
use lib.Seq.{take-suc, take-length, length-take-le, sets-eq}
use Rattle.record.specs.Number.{bytes_of}
use Rattle.buffer.specs.Buffer.{written, put}
use Rattle.buffer.proofs.Copying.{put_nothing, put_length, put_behind, put_written}
use Rattle.history.specs.Sheet.{sheet_version, sheet_header, number_bytes, sheet_of}
use Rattle.history.proofs.Sheets.{length_numbers, sheet_length}

-- the bytes of one number more
numbers_append : (xs ys : List ℕ) → number_bytes (xs ++ ys) ≡ number_bytes xs ++ number_bytes ys
unfolding number_bytes bytes_of
numbers_append [] ys = refl
numbers_append (x ∷ xs) ys = simp (numbers_append xs ys)

numbers_more : (listed : List ℕ) (i : ℕ) → i < length listed → number_bytes (take i listed) ++ bytes_of 2 (get_or listed i 0) ≡ number_bytes (take (i + 1) listed)
unfolding number_bytes bytes_of
numbers_more listed i l = rw (add-one, take-suc listed i 0 l) (sym (numbers_append (take i listed) (get_or listed i 0 ∷ [])))

-- the header of a sheet that lists k numbers, as it is stored
abbrev pub headed : ℕ → ℕ → List ℕ → List ℕ
headed verdict k buffer = put 2 (bytes_of 2 k) (set (set buffer 0 sheet_version) 1 verdict)

header_is : (verdict k : ℕ) (buffer : List ℕ) → sheet_header ≤ length buffer → headed verdict k buffer ≡ put 0 (sheet_version ∷ verdict ∷ bytes_of 2 k) buffer
unfolding bytes_of
header_is verdict k buffer room =
    ap (put 2 (bytes_of 2 k)) (sets-eq (sheet_version ∷ verdict ∷ []) buffer 0 (omega arith)) ∙ put_behind 0 (sheet_version ∷ verdict ∷ []) (bytes_of 2 k) buffer (omega arith)

-- The first i numbers stand after the header; `start` is the buffer with the header alone.
pub record Listing (listed start : List ℕ) (i : ℕ) (sheet : List ℕ) : Type 0 where
  pub within : i ≤ length listed
  pub room : sheet_header + 2 * length listed ≤ length start
  pub written_so_far : sheet ≡ put sheet_header (number_bytes (take i listed)) start

pub listing_starts : (listed start : List ℕ) → sheet_header + 2 * length listed ≤ length start → Listing listed start 0 start
unfolding number_bytes
listing_starts listed start room = record { within = omega arith; room = room; written_so_far = put_nothing sheet_header start }

module _ {listed start sheet : List ℕ} {i : ℕ} (listing : Listing listed start i sheet) where
  bytes_long : length (number_bytes (take i listed)) ≡ 2 * i
  bytes_long = omega (arith, length_numbers (take i listed), length-take-le i listed listing.within)

  pub listing_sized : length sheet ≡ length start
  listing_sized = ap length listing.written_so_far ∙ put_length sheet_header (number_bytes (take i listed)) start (omega (arith, bytes_long, listing.within, listing.room))

  pub listing_next : {sheet' : List ℕ} → i < length listed → sheet' ≡ put (sheet_header + 2 * i) (bytes_of 2 (get_or listed i 0)) sheet → Listing listed start (i + 1) sheet'
  unfolding bytes_of
  listing_next l e = record {
    within = omega arith;
    room = listing.room;
    written_so_far =
        e
        ∙ rw (listing.written_so_far, ← bytes_long) (put_behind sheet_header (number_bytes (take i listed)) (bytes_of 2 (get_or listed i 0)) start (omega (arith, bytes_long, listing.room)))
        ∙ ap (λ bytes. put sheet_header bytes start) (numbers_more listed i l);
  }

  -- all numbers are written
  pub listing_ends : (verdict : ℕ) (buffer : List ℕ) → length listed ≤ i → sheet_header + 2 * length listed ≤ length buffer → start ≡ headed verdict (length listed) buffer
      → sheet ≡ written (sheet_of verdict listed) buffer
  unfolding bytes_of
  listing_ends verdict buffer last room e =
      let all : i ≡ length listed = omega (arith, listing.within) in
      rw (all, take-length listed) at listing.written_so_far
      ∙ ap (put sheet_header (number_bytes listed)) (e ∙ header_is verdict (length listed) buffer (omega arith))
      ∙ put_behind 0 (sheet_version ∷ verdict ∷ bytes_of 2 (length listed)) (number_bytes listed) buffer (omega (arith, length_numbers listed))
      ∙ put_written (sheet_of verdict listed) buffer (omega (arith, sheet_length verdict listed))
