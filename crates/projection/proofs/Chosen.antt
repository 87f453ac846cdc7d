-- The chosen records of a log: how many they are, and which bytes.
use Prim.Native.Nat.{ℕ, zero, suc, ◌+◌, ◌≤◌}
use native.Mathlib.Omega.{arith}
use native.Mathlib.Numerals.{add-one}
use native.Mathlib.Nat.{add-zero, add-suc}
use mathlib.Core.Path.{◌≡◌, refl}
use mathlib.Core.Bool.{Bool, true, false}
use mathlib.Core.List.{List, [], ◌∷◌, ◌++◌, append-nil}
use lib.ListN.{length, take, length-append}
use Rattle.std.specs.Prelude.{if◌then◌else◌}
use Rattle.record.specs.Record.{encode, size_of}
use Rattle.record.specs.declared.record.Record.{Record}
use Rattle.reader.specs.Log.{encode_all}
use Rattle.reader.specs.Readable.{record_of, sizes}
use Rattle.projection.specs.Copies.{chosen}
use Rattle.projection.proofs.Sizes.{sizes_append, encode_append}

-- one record more
module _ (choose : ℕ → Bool) (records : List Record) (n : ℕ) where
  pub chosen_more : chosen choose records (n + 1) ≡ chosen choose records n ++ (if choose n then record_of records n ∷ [] else [])
  unfolding chosen
  chosen_more = rw add-one refl

  pub chosen_count : length (chosen choose records (n + 1)) ≡ length (chosen choose records n) + (if choose n then 1 else 0)
  chosen_count = rw (chosen_more, length-append) (go (choose n))
    where
      go : (b : Bool) → length (chosen choose records n) + length (if b then record_of records n ∷ [] else []) ≡ length (chosen choose records n) + (if b then 1 else 0)
      go true = refl
      go false = refl

  pub chosen_size : sizes (chosen choose records (n + 1)) ≡ sizes (chosen choose records n) + (if choose n then size_of (record_of records n) else 0)
  unfolding sizes
  chosen_size = rw (chosen_more, sizes_append) (go (choose n))
    where
      go : (b : Bool) → sizes (chosen choose records n) + sizes (if b then record_of records n ∷ [] else []) ≡ sizes (chosen choose records n) + (if b then size_of (record_of records n) else 0)
      go true = omega arith
      go false = refl

  pub chosen_bytes : (bytes : List ℕ) → take (size_of (record_of records n)) bytes ≡ encode (record_of records n)
      → encode_all (chosen choose records (n + 1)) ≡ encode_all (chosen choose records n) ++ take (if choose n then size_of (record_of records n) else 0) bytes
  unfolding encode_all
  chosen_bytes bytes e = rw (chosen_more, encode_append) (go (choose n))
    where
      go : (b : Bool)
          → encode_all (chosen choose records n) ++ encode_all (if b then record_of records n ∷ [] else []) ≡ encode_all (chosen choose records n) ++ take (if b then size_of (record_of records n) else 0) bytes
      go true = rw (e, append-nil (encode (record_of records n))) refl
      go false = refl

-- more records take no fewer bytes
pub chosen_rises : (choose : ℕ → Bool) (records : List Record) (n k : ℕ) → sizes (chosen choose records n) ≤ sizes (chosen choose records (n + k))
chosen_rises choose records n zero = rw (add-zero n) (omega arith)
chosen_rises choose records n (suc k) = rw (add-suc n k, ← add-one (n + k)) (omega (arith, chosen_size choose records (n + k), chosen_rises choose records n k))
