-- What is written on a sheet is read back from it.
use Prim.Native.Nat.{ℕ, zero, suc, ◌+◌, ◌*◌, ◌<◌}
use native.Mathlib.Omega.{arith}
use mathlib.Core.Path.{◌≡◌, refl, sym, ap, ◌∙◌}
use mathlib.Core.List.{List, [], ◌∷◌}
use lib.ListN.{length, get_or, drop}
use lib.Seq.{drop-drop}
use Rattle.record.specs.Number.{big_endian, bytes_of}
use Rattle.record.proofs.Numbers.{number_there}
use Rattle.history.specs.Sheet.{sheet_header, number_bytes, sheet_of, listed_field, numbers_from, listed_on}

-- two bytes for each number
pub length_numbers : (listed : List ℕ) → length (number_bytes listed) ≡ 2 * length listed
unfolding number_bytes bytes_of
length_numbers [] = refl
length_numbers (o ∷ listed) = omega (arith, length_numbers listed)

-- where the bytes of numbers stand, those numbers are read
numbers_there : (sheet : List ℕ) (at : ℕ) (listed : List ℕ) → ((i : ℕ) → get_or listed i 0 < 65536) → drop at sheet ≡ number_bytes listed → numbers_from sheet at (length listed) ≡ listed
unfolding number_bytes numbers_from bytes_of
numbers_there sheet at [] small e = refl
numbers_there sheet at (o ∷ listed) small e =
    let rest : drop (at + 2) sheet ≡ number_bytes listed = sym (drop-drop 2 at sheet) ∙ ap (λ (l : List ℕ). drop 2 l) e in
    rw (number_there sheet at 2 o (number_bytes listed) (small 0) e, numbers_there sheet (at + 2) listed (λ i. small (suc i)) rest)

pub sheet_length : (verdict : ℕ) (listed : List ℕ) → length (sheet_of verdict listed) ≡ 4 + 2 * length listed
unfolding bytes_of
sheet_length verdict listed = omega (arith, length_numbers listed)

pub sheet_lists : (verdict : ℕ) (listed : List ℕ) → length listed < 65536 → ((i : ℕ) → get_or listed i 0 < 65536) → listed_on (sheet_of verdict listed) ≡ listed
unfolding bytes_of
sheet_lists verdict listed few small =
    rw (number_there (sheet_of verdict listed) 2 2 (length listed) (number_bytes listed) few refl)
    (numbers_there (sheet_of verdict listed) sheet_header listed small refl)

-- a sheet lists as many operations as it says, and each where it stands
numbers_length : (sheet : List ℕ) (at k : ℕ) → length (numbers_from sheet at k) ≡ k
unfolding numbers_from
numbers_length sheet at zero = refl
numbers_length sheet at (suc k) = ap suc (numbers_length sheet (at + 2) k)

numbers_at : (sheet : List ℕ) (at k i : ℕ) → i < k → get_or (numbers_from sheet at k) i 0 ≡ big_endian sheet (at + 2 * i) 2
unfolding numbers_from
numbers_at sheet at zero i h = absurd (omega arith)
numbers_at sheet at (suc k) zero h = ap (λ n. big_endian sheet n 2) {y = at + 2 * 0} (omega arith)
numbers_at sheet at (suc k) (suc i) h = numbers_at sheet (at + 2) k i (omega arith) ∙ ap (λ n. big_endian sheet n 2) {x = at + 2 + 2 * i} {y = at + 2 * suc i} (omega arith)

pub listed_length : (sheet : List ℕ) → length (listed_on sheet) ≡ listed_field sheet
listed_length sheet = numbers_length sheet sheet_header (listed_field sheet)

pub listed_at : (sheet : List ℕ) (i : ℕ) → i < listed_field sheet → get_or (listed_on sheet) i 0 ≡ big_endian sheet (sheet_header + 2 * i) 2
listed_at sheet i h = numbers_at sheet sheet_header (listed_field sheet) i h
