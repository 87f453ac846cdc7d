-- Document 01, "Sheet, excerpt, narrowing": "Sheet: version byte 1; verdict byte, 0 for an order or the pattern number; two bytes k;
-- then k operation numbers of two bytes."
use Rattle.std.specs.Prelude.{ℕ, zero, suc, ◌+◌, ◌*◌, Bool, false, not, List, [], ◌∷◌, ◌++◌, length, get_or, ltb, eqb, if◌then◌else◌}
use Rattle.record.specs.Number.{big_endian, bytes_of}

abbrev pub sheet_version : ℕ
sheet_version = 1

abbrev pub order_verdict : ℕ
order_verdict = 0

abbrev pub sheet_header : ℕ
sheet_header = 4

-- operation numbers in bytes
unfoldable pub number_bytes : List ℕ → List ℕ
number_bytes [] = []
number_bytes (o ∷ listed) = bytes_of 2 o ++ number_bytes listed

-- the sheet of a verdict byte and the operations it lists
abbrev pub sheet_of : ℕ → List ℕ → List ℕ
sheet_of verdict listed = sheet_version ∷ verdict ∷ bytes_of 2 (length listed) ++ number_bytes listed

-- k
abbrev pub listed_field : List ℕ → ℕ
listed_field sheet = big_endian sheet 2 2

-- the operation numbers from a position of a sheet on, so many of them
unfoldable pub numbers_from : List ℕ → ℕ → ℕ → List ℕ
numbers_from sheet at zero = []
numbers_from sheet at (suc left) = big_endian sheet at 2 ∷ numbers_from sheet (at + 2) left

-- the operations that a sheet lists
abbrev pub listed_on : List ℕ → List ℕ
listed_on sheet = numbers_from sheet sheet_header (listed_field sheet)

-- Whether a sheet has the form of an order. If it has not, replay refuses it under 11: "the sheet has under 4 bytes, version not 1,
-- verdict not 0, or length not 4 + 2k".
abbrev pub is_order_sheet : List ℕ → Bool
is_order_sheet sheet =
    if ltb (length sheet) sheet_header then false else
    if not (eqb (get_or sheet 0 0) sheet_version) then false else
    if not (eqb (get_or sheet 1 0) order_verdict) then false else
    eqb (length sheet) (sheet_header + 2 * listed_field sheet)
