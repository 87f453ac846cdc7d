-- Records put into bytes one behind the other are read back: a whole log.
use Prim.Native.Nat.{ℕ, ◌+◌, ◌≤◌}
use native.Mathlib.Omega.{arith}
use mathlib.Core.Path.{◌≡◌, refl}
use mathlib.Core.List.{List, [], ◌∷◌, ◌++◌, reverse, reverse-cons, append_assoc, append-nil}
use lib.ListN.{length, length-append}
use borrow.Author.Tests.{le-ltb}
use Rattle.std.specs.Prelude.{Ok}
use Rattle.record.specs.Number.{bytes_of}
use Rattle.record.specs.Record.{encode, decode_at, size_of}
use Rattle.record.specs.declared.record.Record.{Record}
use Rattle.record.proofs.Numbers.{number_there}
use Rattle.record.proofs.Laws.{encode_length, written_record}
use Rattle.reader.specs.Log.{log_version, header_length, max_records, count_field, readable, scan, read_partial, encode_all, encode_log}
use Rattle.reader.specs.Readable.{Writable, none, more}

-- written one behind the other, records are read one after the other
scan_encodes : (before : List ℕ) {past records : List Record} → Writable past records → scan (before ++ encode_all records) (length records) (length before) past ≡ readable (reverse past ++ records)
unfolding scan encode_all
scan_encodes before {past} none = rw (append-nil before, append-nil (reverse past), le-ltb (length before) (length before) (omega arith)) refl
scan_encodes before {past} (more {records = records} {r = r} small ok rest) =
    let after : List ℕ = encode_all records in
    let whole : List ℕ = before ++ encode_all (r ∷ records) in
    let glued : (before ++ encode r) ++ after ≡ whole = append_assoc before (encode r) after in
    let found : decode_at whole (length before) ≡ Ok (r, length before + size_of r) = rw glued at (written_record before after r small) in
    let next : length before + size_of r ≡ length (before ++ encode r) = rw (length-append before (encode r), encode_length r) refl in
    let behind : scan whole (length records) (length (before ++ encode r)) (r ∷ past) ≡ readable (reverse (r ∷ past) ++ records) = rw glued at (scan_encodes (before ++ encode r) rest) in
    rw (found, ok, next, behind, reverse-cons r past, append_assoc (reverse past) (r ∷ []) records) refl

-- a log of records that can be written is read as those records
pub log_encodes : (records : List Record) → length records ≤ max_records → Writable [] records → read_partial (encode_log records) ≡ readable records
unfolding read_partial bytes_of
log_encodes records few w =
    let counted : count_field (encode_log records) ≡ length records = number_there (encode_log records) 1 2 (length records) (encode_all records) (omega arith) refl in
    rw (
      le-ltb (length (encode_log records)) header_length (omega arith),
      counted,
      le-ltb max_records (length records) few,
    )
    (scan_encodes (log_version ∷ bytes_of 2 (length records)) w)
