-- What stands in a log, byte by byte: each record where the ones before it end, and the log made of their bytes.
use Prim.Native.Nat.{ℕ, suc, ◌+◌, ◌-◌, ◌*◌, ◌≤◌, ◌<◌}
use native.Mathlib.Omega.{arith}
use native.Mathlib.Nat.{eq-or-lt_of_le}
use mathlib.Core.Path.{◌≡◌, refl, sym, ap, ◌∙◌, subst}
use mathlib.Core.Logic.{◌⊎◌, inl, inr}
use mathlib.Core.Bool.{Bool, true, false, not}
use mathlib.Core.List.{List, [], ◌∷◌, ◌++◌, reverse, reverse-cons, append_assoc, append-nil}
use lib.ListN.{length, get_or, take, drop, length-append, length-reverse, get_or-append}
use lib.Seq.{take-add, take-length, take-append-le, take-append_seam, take-append-add, drop-cons, drop-drop, get_or-append_seam}
use lib.Dec.{eqb}
use borrow.Author.Tests.{eqb-true, eqb-false}
use Rattle.std.specs.Prelude.{Result, Ok, Err, if◌then◌else◌}
use Rattle.record.specs.Number.{big_endian, bytes_of, Bytes}
use Rattle.record.specs.Frame.{frame_at}
use Rattle.record.specs.Record.{kind_of, length_of, event_of, encode, record_at, decode_in, decode_at, size_of, value_in, Small}
use Rattle.record.specs.declared.refusal.Refusal.{Refusal}
use Rattle.record.specs.declared.refusal.Refusal.TheVariants.{UnknownKind, WrongLength}
use Rattle.record.specs.declared.record.Record.{Record}
use Rattle.record.proofs.Laws.{WholeFrame, frame_inverts}
use Rattle.record.proofs.Numbers.{number_back, number_small}
use Rattle.record.proofs.Records.{kind_back, event_least, event_most, value_within, value_fills}
use Rattle.reader.specs.Log.{log_version, header_length, max_records, max_length, count_field, encode_all, encode_log}
use Rattle.reader.specs.Readable.{record_of, sizes, offset_of, Writable}
use Rattle.reader.proofs.Run.{Run, done, more, Read}

-- a record stands at a position: its bytes are there, its fields are those bytes, and the next position is where it ends
pub record Stood (log : List ℕ) (at : ℕ) (r : Record) (next : ℕ) : Type 0 where
  pub framed : frame_at log at ≡ Ok next
  pub inside : at < length log
  pub fits : at + size_of r ≤ length log
  pub long : get_or log at 0 ≡ length_of (kind_of r.event)
  pub kind : get_or log (at + 1) 0 ≡ kind_of r.event
  pub client : r.client ≡ big_endian log (at + 2) 2
  pub tick : r.tick ≡ big_endian log (at + 4) 4
  pub event : r.event ≡ event_of (kind_of r.event) (big_endian log (at + 8) 4)
  pub ends : next ≡ at + size_of r

-- a record that is found stands there
pub decode_inverts : (log : List ℕ) (at : ℕ) {r : Record} {next : ℕ} → decode_at log at ≡ Ok (r, next) → Stood log at r next
unfolding decode_at
decode_inverts log at {r} {next} e = frame (frame_at log at) refl e
  where
    kind : ℕ
    kind = get_or log (at + 1) 0

    found : Record → ℕ → Result (Record × ℕ) Refusal
    found r next = Ok (r, next)

    never : {refusal : Refusal} → ◌≡◌ {A = Result (Record × ℕ) Refusal} (Err refusal) (Ok (r, next)) → Stood log at r next
    never e = cc

    known : (d e : Bool) {end : ℕ} → frame_at log at ≡ Ok end → WholeFrame log at end → eqb (length_of kind) 0 ≡ d → eqb (get_or log at 0) (length_of kind) ≡ e
        → (if d then Err UnknownKind else if not e then Err WrongLength else found (record_at log at) end) ≡ found r next → Stood log at r next
    known true e framed whole td te f = never f
    known false false framed whole td te f = never f
    known false true {end} framed whole td te f =
        let both : ◌≡◌ {A = Record × ℕ} (r, next) (record_at log at, end) = cc in
        let is = ap (λ (p : Record × ℕ). p.0) both in
        let on = ap (λ (p : Record × ℕ). p.1) both in
        let same : kind_of r.event ≡ kind = ap (λ (r : Record). kind_of r.event) is ∙ kind_back kind (big_endian log (at + 8) 4) (eqb-false (length_of kind) 0 td) in
        let long : get_or log at 0 ≡ length_of (kind_of r.event) = eqb-true (get_or log at 0) (length_of kind) te ∙ ap length_of (sym same) in
        record {
          framed = rw on framed;
          inside = omega (arith, whole.some, whole.there);
          fits = omega (arith, whole.ends, whole.there);
          long = long;
          kind = sym same;
          client = ap (λ (r : Record). r.client) is;
          tick = ap (λ (r : Record). r.tick) is;
          event = rw same (ap (λ (r : Record). r.event) is);
          ends = omega (arith, whole.ends);
        }

    frame : (f : Result ℕ Refusal) → frame_at log at ≡ f → decode_in log at f ≡ Ok (r, next) → Stood log at r next
    frame (Err refusal) is e = never e
    frame (Ok end) is e = known (eqb (length_of kind) 0) (eqb (get_or log at 0) (length_of kind)) is (frame_inverts log at refl is) refl refl e

-- a byte and the part behind it are one part
ahead : (log : List ℕ) (at next n size : ℕ) → at < length log → next ≡ suc at → size ≡ suc n → get_or log at 0 ∷ take n (drop next log) ≡ take size (drop at log)
ahead log at next n size h e f = rw (e, f, drop-cons log at 0 h)

-- two parts, one behind the other, are one
joined : (log : List ℕ) (at next n m : ℕ) → next ≡ at + n → take n (drop at log) ++ take m (drop next log) ≡ take (n + m) (drop at log)
joined log at next n m e = rw (e, take-add n m (drop at log), drop-drop)

-- a record that stands in a list of bytes, put back into bytes, is the bytes that stand there
pub record_back : {log : List ℕ} {at next : ℕ} {r : Record} → Stood log at r next → Bytes log → encode r ≡ take (size_of r) (drop at log)
unfolding encode
record_back {log} {at} {next} {r} s b =
    let least = event_least r.event in
    let width : ℕ = length_of (kind_of r.event) - 7 in
    rw (
      ← s.long,
      ← s.kind,
      s.client,
      s.tick,
      value_fills r.event (big_endian log (at + 8)) s.event,
      number_back log (at + 2) 2 b (omega arith),
      number_back log (at + 4) 4 b (omega arith),
      number_back log (at + 8) width b (omega arith),
      joined log (at + 2) (at + 4) 2 4 (omega arith),
      joined log (at + 2) (at + 8) 6 width (omega arith),
      ahead log (at + 1) (at + 2) (6 + width) (7 + width) (omega arith) (omega arith) (omega arith),
    )
    (ahead log at (at + 1) (7 + width) (1 + get_or log at 0) s.inside (omega arith) (omega arith))

-- and its fields fit their bytes
pub small_there : {log : List ℕ} {at next : ℕ} {r : Record} → Stood log at r next → Bytes log → Small r
small_there {log} {at} {r = r} s b = record {
  client = omega (arith, s.client, number_small log (at + 2) 2 b);
  tick = omega (arith, s.tick, number_small log (at + 4) 4 b);
  value = omega (arith, ap value_in s.event, value_within (kind_of r.event) (big_endian log (at + 8) 4), number_small log (at + 8) 4 b);
}

-- the records that are read, first to last, can be written behind those of the past
run_writable : {log : List ℕ} {left at : ℕ} {past all : List Record} → Run log left at past all → Bytes log → (records : List Record) × (reverse all ≡ reverse past ++ records) × Writable past records
run_writable {past = past} (done end) b = ([], sym (append-nil (reverse past)), Writable.none)
run_writable {log} {past = past} (more {at = at} r next found ok rest) b =
    let behind = run_writable rest b in
    (r ∷ behind.0, behind.1 ∙ rw (reverse-cons r past, append_assoc (reverse past) (r ∷ []) behind.0) refl, Writable.more (small_there (decode_inverts log at found) b) ok behind.2)

-- records take at most 12 bytes each
pub sizes_most : (records : List Record) → sizes records ≤ 12 * length records
unfolding sizes
sizes_most [] = omega arith
sizes_most (r ∷ records) = omega (arith, sizes_most records, event_most r.event)

-- the sizes of records with one more behind them
pub sizes_snoc : (records : List Record) (r : Record) → sizes (records ++ (r ∷ [])) ≡ sizes records + size_of r
unfolding sizes
sizes_snoc [] r = omega arith
sizes_snoc (x ∷ records) r = omega (arith, sizes_snoc records r)

-- the bytes of records with one more behind them
pub encode_snoc : (records : List Record) (r : Record) → encode_all (records ++ (r ∷ [])) ≡ encode_all records ++ encode r
unfolding encode_all
encode_snoc [] r = append-nil (encode r)
encode_snoc (x ∷ records) r = rw (encode_snoc records r, append_assoc)

-- records fill a log up to a position: each stands where those before it end, and their bytes are the log's
record Filled (log : List ℕ) (records : List Record) (at : ℕ) : Type 0 where
  ends : at ≡ header_length + sizes records
  within : at ≤ length log
  stands : (i : ℕ) → i < length records → decode_at log (offset_of records i) ≡ Ok (record_of records i, offset_of records (i + 1))
  bytes : Bytes log → take at log ≡ take header_length log ++ encode_all records

-- one more record fills it up to where that record ends
filled_more : {log : List ℕ} {records : List Record} {at next : ℕ} {r : Record} → Filled log records at → decode_at log at ≡ Ok (r, next) → Filled log (records ++ (r ∷ [])) next
filled_more {log} {records} {at} {next} {r} f found = record {
  ends = ends;
  within = omega (arith, s.ends, s.fits);
  stands = λ i h. stands i (eq-or-lt_of_le (omega (arith, length-append records (r ∷ []))));
  bytes = λ b. rw (s.ends, take-add at (size_of r) log, f.bytes b, ← (record_back s b), encode_snoc records r) (append_assoc (take header_length log) (encode_all records) (encode r));
}
  where
    s : Stood log at r next
    s = decode_inverts log at found

    ends : next ≡ header_length + sizes (records ++ (r ∷ []))
    ends = omega (arith, sizes_snoc records r, s.ends)

    stands : (i : ℕ) → (i ≡ length records) ⊎ (i < length records)
        → decode_at log (offset_of (records ++ (r ∷ [])) i) ≡ Ok (record_of (records ++ (r ∷ [])) i, offset_of (records ++ (r ∷ [])) (i + 1))
    stands i (inl e) = rw (e, take-append_seam records (r ∷ []), take-append-add records (r ∷ []) 1, get_or-append_seam, ← ends, ← f.ends) found
    stands i (inr h) = rw (take-append-le i records (r ∷ []) (omega arith), take-append-le (i + 1) records (r ∷ []) (omega arith), get_or-append _ _ _ i h) (f.stands i h)

-- the records that are read fill the log to its end
filled_run : {log : List ℕ} {left at : ℕ} {past all : List Record} → Run log left at past all → Filled log (reverse past) at → Filled log (reverse all) (length log)
filled_run {log} (done {at} end) f = let whole : at ≡ length log = omega arith in rw whole at f
filled_run {log} {past = past} (more r next found ok rest) f =
    filled_run rest (subst (λ (l : List Record). Filled log l next) (sym (reverse-cons r past)) (filled_more f found))

-- as many are read as are to be read
run_length : {log : List ℕ} {left at : ℕ} {past all : List Record} → Run log left at past all → length all ≡ length past + left
run_length (done end) = omega arith
run_length (more r next found ok rest) = omega (arith, run_length rest)

-- what a log that is readable but for 10 says of its records: the first fields of `PartialLog`
module _ {log : List ℕ} {records : List Record} (read : Read log records) where
  -- its records fill it
  filled : Filled log records (length log)
  unfolding sizes encode_all
  filled = rw read.are (filled_run read.run (record {
    ends = refl;
    within = read.header;
    stands = λ i h. absurd (omega arith);
    bytes = λ b. sym (append-nil (take header_length log));
  }))

  -- there are as many as the header says
  pub count_law : length records ≡ count_field log
  count_law = rw (read.are, length-reverse read.all) (omega (arith, run_length read.run))

  -- they are at most 1,024
  pub few_law : length records ≤ max_records
  few_law = omega (arith, count_law)

  -- each stands where those before it end
  pub stands_law : (i : ℕ) → i < length records → decode_at log (offset_of records i) ≡ Ok (record_of records i, offset_of records (i + 1))
  stands_law = filled.stands

  -- the last one ends where the log does
  pub fills_law : offset_of records (length records) ≡ length log
  fills_law = rw take-length (sym filled.ends)

  -- so it has at most 12,291 bytes
  pub short_law : length log ≤ max_length
  short_law = omega (arith, filled.ends, sizes_most records, few_law)

  -- its records can be written
  pub writable_law : Bytes log → Writable [] records
  writable_law b =
      let written = run_writable read.run b in
      rw (read.are, written.1) written.2

  -- put back into bytes they are the log
  pub bytes_law : Bytes log → encode_log records ≡ log
  bytes_law b = ap (λ (l : List ℕ). l ++ encode_all records) header ∙ sym (filled.bytes b) ∙ take-length log
    where
      header : log_version ∷ bytes_of 2 (length records) ≡ take header_length log
      header = rw (← read.version, count_law, number_back log 1 2 b read.header) (ahead log 0 1 2 3 (omega arith) refl refl)
