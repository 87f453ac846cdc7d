-- Bytes that are handed in as one record behind a log: where nothing is wrong with them they are a record's, which can be written behind the others;
-- and with the bytes of a record that can be written nothing is wrong.
use Prim.Native.Nat.{ℕ, ◌+◌, ◌≤◌}
use native.Mathlib.Omega.{arith}
use mathlib.Core.Path.{◌≡◌, refl, sym, ap, ◌∙◌}
use mathlib.Core.Bool.{Bool, true, false, not}
use mathlib.Core.List.{List, [], ◌∷◌, ◌++◌, reverse, reverse-cons, append_assoc, append-nil}
use lib.ListN.{length, get_or, take}
use lib.Seq.{take-length}
use borrow.Author.Tests.{eqb-true, eq-eqb}
use Rattle.std.specs.Prelude.{Result, Ok, Err, if◌then◌else◌}
use Rattle.record.specs.declared.refusal.Refusal.{Refusal}
use Rattle.record.specs.declared.refusal.Refusal.TheVariants.{WrongBytes}
use Rattle.record.specs.Record.{encode, decode_at, size_of, Small}
use Rattle.record.specs.Number.{Bytes}
use Rattle.record.specs.declared.record.Record.{Record}
use Rattle.record.proofs.Laws.{encode_length, written_record}
use Rattle.record.proofs.Records.{event_most}
use Rattle.reader.specs.Log.{fault}
use Rattle.reader.specs.Feed.{is_one_record, decoded_fault, fault_behind}
use Rattle.reader.specs.Readable.{Writable}
use Rattle.reader.proofs.Bytes.{decode_inverts, record_back, small_there}

-- The bytes are read as just one record, which can stand behind the past.
pub record OneBehind (past : List Record) (bytes : List ℕ) : Type 0 where
  pub is : Record
  pub next : ℕ
  pub found : decode_at bytes 0 ≡ Ok (is, next)
  pub one : length bytes ≡ get_or bytes 0 0 + 1
  pub ok : fault past is ≡ Ok tt

pub faultless_is_one : (past : List Record) (bytes : List ℕ) → fault_behind past bytes ≡ Ok tt → OneBehind past bytes
unfolding fault_behind
faultless_is_one past bytes z = go (is_one_record bytes) refl z
  where
    decoded : (d : Result (Record × ℕ) Refusal) → decode_at bytes 0 ≡ d → length bytes ≡ get_or bytes 0 0 + 1 → decoded_fault past d ≡ Ok tt → OneBehind past bytes
    decoded (Ok (r, next)) e one z = record { is = r; next = next; found = e; one = one; ok = z }
    decoded (Err refusal) e one z = cc

    go : (t : Bool) → is_one_record bytes ≡ t → (if not t then Err WrongBytes else decoded_fault past (decode_at bytes 0)) ≡ Ok tt → OneBehind past bytes
    go true t z = decoded (decode_at bytes 0) refl (eqb-true (length bytes) (get_or bytes 0 0 + 1) t) z
    go false t z = cc

-- it is a record of at most 12 bytes
pub faultless_short : (past : List Record) (bytes : List ℕ) → fault_behind past bytes ≡ Ok tt → length bytes ≤ 12
faultless_short past bytes z = let o = faultless_is_one past bytes z in omega (arith, o.one, (decode_inverts bytes 0 o.found).long, event_most o.is.event)

-- The bytes are those of a record that can be written behind the past.
pub record RecordBehind (past : List Record) (bytes : List ℕ) : Type 0 where
  pub is : Record
  pub bytes_are : bytes ≡ encode is
  pub small : Small is
  pub ok : fault past is ≡ Ok tt

pub faultless_is_record : (past : List Record) (bytes : List ℕ) → Bytes bytes → fault_behind past bytes ≡ Ok tt → RecordBehind past bytes
faultless_is_record past bytes b z =
    let o = faultless_is_one past bytes z in
    let s = decode_inverts bytes 0 o.found in
    let whole : size_of o.is ≡ length bytes = omega (arith, o.one, s.long) in
    record { is = o.is; bytes_are = sym (record_back s b ∙ ap (λ n. take n bytes) whole ∙ take-length bytes); small = small_there s b; ok = o.ok }

pub record_is_faultless : (past : List Record) (r : Record) → Small r → fault past r ≡ Ok tt → fault_behind past (encode r) ≡ Ok tt
unfolding fault_behind encode
record_is_faultless past r small ok =
    let found : decode_at (encode r) 0 ≡ Ok (r, 0 + size_of r) = rw (append-nil (encode r)) at (written_record [] [] r small) in
    rw (eq-eqb (length (encode r)) (get_or (encode r) 0 0 + 1) (omega (arith, encode_length r)), found) ok

-- one record more can be written behind those that can be
pub writable_more : {past records : List Record} {r : Record} → Writable past records → Small r → fault (reverse records ++ past) r ≡ Ok tt → Writable past (records ++ (r ∷ []))
writable_more Writable.none small ok = Writable.more small ok Writable.none
writable_more {past} (Writable.more {records = records} {r = x} before fine rest) small ok =
    Writable.more before fine (writable_more rest small (rw (reverse-cons x records, append_assoc (reverse records) (x ∷ []) past) at ok))
