-- The bytes of records: how many they are, and where they stand in a log.
use Prim.Native.Nat.{ℕ, suc, ◌+◌, ◌≤◌, ◌<◌}
use native.Mathlib.Omega.{arith}
use native.Mathlib.Numerals.{add-one}
use mathlib.Core.Path.{◌≡◌, refl, sym, ap, ◌∙◌}
use mathlib.Core.List.{List, [], ◌∷◌, ◌++◌, append_assoc}
use lib.ListN.{length, take, drop, length-append, take-append-drop}
use lib.Seq.{take-length, take-suc, take_at, drop_at, split_at}
use Rattle.record.specs.Number.{bytes_of, Bytes}
use Rattle.record.specs.Record.{encode, size_of}
use Rattle.record.specs.declared.record.Event.TheVariants.{CallRemove}
use Rattle.record.specs.declared.record.Record.{Record}
use Rattle.record.proofs.Laws.{encode_length}
use Rattle.reader.specs.Log.{log_version, header_length, encode_all, encode_log}
use Rattle.reader.specs.Readable.{record_of, sizes, offset_of, PartialLog}

-- the sizes and the bytes of records and of those behind them
pub sizes_append : (rs ss : List Record) → sizes (rs ++ ss) ≡ sizes rs + sizes ss
unfolding sizes
sizes_append [] ss = omega arith
sizes_append (r ∷ rs) ss = omega (arith, sizes_append rs ss)

pub encode_append : (rs ss : List Record) → encode_all (rs ++ ss) ≡ encode_all rs ++ encode_all ss
unfolding encode_all
encode_append [] ss = refl
encode_append (r ∷ rs) ss = rw (encode_append rs ss, append_assoc (encode r) (encode_all rs) (encode_all ss)) refl

-- records take as many bytes as their sizes say
pub sizes_are : (rs : List Record) → length (encode_all rs) ≡ sizes rs
unfolding encode_all sizes
sizes_are [] = refl
sizes_are (r ∷ rs) = omega (arith, length-append (encode r) (encode_all rs), encode_length r, sizes_are rs)

-- and with the header they are a log
pub log_length : (rs : List Record) → length (encode_log rs) ≡ header_length + sizes rs
unfolding bytes_of
log_length rs = omega (arith, sizes_are rs)

-- the next record stands behind a record's bytes
pub offset_more : (records : List Record) (i : ℕ) → i < length records → offset_of records (i + 1) ≡ offset_of records i + size_of (record_of records i)
unfolding sizes
offset_more records i l = rw (add-one, take-suc records i (record { client = 0; tick = 0; event = CallRemove }) l) (omega (arith, sizes_append (take i records) (record_of records i ∷ [])))

-- a record of a log that is readable but for 10 stands within it
pub offset_within : {log : List ℕ} {records : List Record} → PartialLog log records → (i : ℕ) → offset_of records i ≤ length log
offset_within {records = records} partial i =
    omega (arith, partial.fills, ap sizes (take-length records), ap sizes (take-append-drop i records), sizes_append (take i records) (drop i records))

-- its bytes are those that stand there
pub record_bytes : {log : List ℕ} {records : List Record} → PartialLog log records → Bytes log → (i : ℕ) → i < length records
    → take (size_of (record_of records i)) (drop (offset_of records i) log) ≡ encode (record_of records i)
unfolding encode_all bytes_of
record_bytes {log} {records} partial b i h = rw (← partial.bytes b, split, drop_at (front ++ encode_all (take i records)) behind (offset_of records i) long) (take_at (encode r) (encode_all (drop (suc i) records)) (size_of r) (encode_length r))
  where
    r : Record
    r = record_of records i

    front : List ℕ
    front = log_version ∷ bytes_of 2 (length records)

    behind : List ℕ
    behind = encode r ++ encode_all (drop (suc i) records)

    split : encode_log records ≡ front ++ encode_all (take i records) ++ behind
    split = ap (λ bytes. front ++ bytes) (ap encode_all (split_at records i (record { client = 0; tick = 0; event = CallRemove }) h) ∙ encode_append (take i records) (r ∷ drop (suc i) records))
        ∙ sym (append_assoc front (encode_all (take i records)) behind)

    long : length (front ++ encode_all (take i records)) ≡ offset_of records i
    long = omega (arith, length-append front (encode_all (take i records)), sizes_are (take i records))
