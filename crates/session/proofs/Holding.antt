-- An open session that holds a log: what it is read as, and what a feed does to it.
use Prim.Native.Nat.{ℕ, ◌+◌, ◌≤◌, ◌<◌}
use native.Mathlib.Omega.{arith}
use mathlib.Core.Path.{◌≡◌, refl, sym, ap, ◌∙◌, subst}
use mathlib.Core.Bool.{Bool, true, false}
use mathlib.Core.List.{List, [], ◌∷◌, ◌++◌, reverse, append_assoc, append-nil}
use lib.ListN.{length, drop, length-append}
use lib.Dec.{ltb, leb}
use lib.Seq.{take-append_seam, drop-append-add}
use borrow.Author.Tests.{le-ltb, lt-leb, leb-false}
use Rattle.std.specs.Prelude.{Result, Ok, Err, if◌then◌else◌}
use Rattle.record.specs.Refusal.{refusing}
use Rattle.record.specs.declared.refusal.Refusal.{Refusal}
use Rattle.record.specs.declared.refusal.Refusal.TheVariants.{BufferTooShort, SessionFull, SessionClosed}
use Rattle.record.specs.declared.refusal.Refused.{Refused}
use Rattle.record.specs.Number.{bytes_of, Bytes}
use Rattle.record.specs.Record.{encode, size_of, Small}
use Rattle.record.specs.declared.record.Record.{Record}
use Rattle.record.proofs.Numbers.{number_there}
use Rattle.record.proofs.Laws.{encode_length}
use Rattle.buffer.specs.Buffer.{put}
use Rattle.reader.specs.Log.{log_version, max_records, count_field, with_count, fault, readable, refused, read_partial, read_log, encode_all, encode_log}
use Rattle.reader.specs.Feed.{fault_behind, unless_faulty, extended}
use Rattle.reader.specs.Readable.{Writable}
use Rattle.reader.proofs.Laws.{written_log, faultless_is_record, record_is_faultless, writable_more, encode_snoc}
use Rattle.judge.specs.Judge.{Judges, turned_down}
use Rattle.judge.specs.declared.judge.Verdict.{Verdict}
use Rattle.session.specs.Session.{open_stage, closed_stage, stage_closed, held_log, stage_refusal, session_reading, fed_answer, feed_answer, fed_buffer, used_fed}
use Rattle.session.specs.Course.{Lent, answer_to, after_feed}
use Rattle.session.proofs.Refusing.{open_unrefused, open_reading}

-- bytes put over what stands behind others
put_over : (front bytes rest : List ℕ) → put (length front) bytes (front ++ rest) ≡ front ++ bytes ++ drop (length bytes) rest
put_over front bytes rest = rw (take-append_seam front rest, drop-append-add front rest (length bytes)) refl

-- the count in the header of a log
count_there : (records : List Record) (rest : List ℕ) → length records ≤ max_records → count_field (encode_log records ++ rest) ≡ length records
unfolding bytes_of
count_there records rest few = number_there (encode_log records ++ rest) 1 2 (length records) (encode_all records ++ rest) (omega arith) (append_assoc (bytes_of 2 (length records)) (encode_all records) rest)

-- a record's bytes put behind a log, with one more in its count, make the log of the records with that one
grown : (records : List Record) (rest : List ℕ) (r : Record) → length records ≤ max_records
    → put (length (encode_log records)) (encode r) (with_count (count_field (encode_log records ++ rest) + 1) (encode_log records ++ rest)) ≡ encode_log (records ++ (r ∷ [])) ++ drop (length (encode r)) rest
unfolding bytes_of
grown records rest r few =
    let E : List ℕ = encode_all records in
    let k : ℕ = length records + 1 in
    rw (
      count_there records rest few,
      encode_snoc records r,
      length-append records (r ∷ []),
    )
    (put_over (log_version ∷ bytes_of 2 k ++ E) (encode r) rest)

-- The session is open and holds these records, with `rest` behind them in its buffer.
pub record Holding (s : Lent) (records : List Record) (rest : List ℕ) : Type 0 where
  pub stage_is : s.stage ≡ open_stage
  pub used_is : s.used ≡ length (encode_log records)
  pub buffer_is : s.buffer ≡ encode_log records ++ rest
  pub few : length records ≤ max_records
  pub writable : Writable [] records

-- a log with other bytes behind it
held_is : (log rest : List ℕ) → held_log (length log) (log ++ rest) ≡ log
held_is log rest = take-append_seam log rest

within : (log rest : List ℕ) → length log ≤ length (log ++ rest)
within log rest = omega (arith, length-append log rest)

-- what a feed comes to, by what the bytes are behind the records that are held
module _ {s : Lent} {records : List Record} {rest : List ℕ} (h : Holding s records rest) where
  abbrev log : List ℕ
  log = encode_log records

  reads : read_partial log ≡ readable records
  reads = written_log records h.few h.writable

  held_reads : read_partial (held_log (length log) (log ++ rest)) ≡ readable records
  held_reads = ap read_partial (held_is log rest) ∙ reads

  feed_is : (bytes : List ℕ) → answer_to s bytes ≡ fed_answer (extended (readable records) bytes) (length log) (log ++ rest) bytes
  unfolding feed_answer
  feed_is bytes = rw (h.stage_is, h.used_is, h.buffer_is, open_unrefused (length log) (log ++ rest) (within log rest) held_reads, held_is log rest, reads) refl

  -- a refused feed leaves all as it was
  pub refused_leaves : (bytes : List ℕ) {r : Refused} → answer_to s bytes ≡ Err r → Holding (after_feed s bytes) records rest
  refused_leaves bytes e = record {
    stage_is = h.stage_is;
    used_is = ap (λ a. used_fed s.used a) e ∙ h.used_is;
    buffer_is = ap (λ a. fed_buffer a s.used s.buffer bytes) e ∙ h.buffer_is;
    few = h.few;
    writable = h.writable;
  }

  -- a record that fits, and for whose bytes there is room, then stands behind the others
  grows : (r : Record) → Small r → fault (reverse records) r ≡ Ok tt → length records < max_records → answer_to s (encode r) ≡ Ok (length (encode r)) → Holding (after_feed s (encode r)) (records ++ (r ∷ [])) (drop (size_of r) rest)
  unfolding bytes_of
  grows r small ok room e = record {
    stage_is = h.stage_is;
    used_is = ap (λ a. used_fed s.used a) e ∙ omega (arith, h.used_is, length-append (encode_all records) (encode r), ap length (encode_snoc records r));
    buffer_is = ap (λ a. fed_buffer a s.used s.buffer (encode r)) e ∙ rw (h.used_is, h.buffer_is, ← (encode_length r)) (grown records rest r h.few);
    few = omega (arith, length-append records (r ∷ []));
    writable = writable_more h.writable small (rw (append-nil (reverse records)) ok);
  }

  -- an accepted feed has the bytes of such a record
  pub record Taken (bytes : List ℕ) (n : ℕ) : Type 0 where
    pub is : Record
    pub bytes_are : bytes ≡ encode is
    pub count : n ≡ size_of is
    pub holding : Holding (after_feed s bytes) (records ++ (is ∷ [])) (drop (size_of is) rest)

  pub accepted_takes : (bytes : List ℕ) → Bytes bytes → {n : ℕ} → answer_to s bytes ≡ Ok n → Taken bytes n
  accepted_takes bytes b {n} e = full (leb max_records (length records)) refl (sym (feed_is bytes) ∙ e)
    where
      roomy : (lacks : Bool) → leb max_records (length records) ≡ false → fault_behind (reverse records) bytes ≡ Ok tt → (if lacks then refusing BufferTooShort 0 else Ok (length bytes)) ≡ Ok n → Taken bytes n
      roomy true l z e = cc
      roomy false l z f =
          let behind = faultless_is_record (reverse records) bytes b z in
          let same : n ≡ length bytes = cc in
          let taken : answer_to s bytes ≡ Ok (length bytes) = e ∙ ap Ok same in
          record {
            is = behind.is;
            bytes_are = behind.bytes_are;
            count = same ∙ ap length behind.bytes_are ∙ encode_length behind.is;
            holding = subst (λ x. Holding (after_feed s x) (records ++ (behind.is ∷ [])) (drop (size_of behind.is) rest)) (sym behind.bytes_are)
                (grows behind.is behind.small behind.ok (leb-false max_records (length records) l) (subst (λ x. answer_to s x ≡ Ok (length x)) behind.bytes_are taken));
          }

      faulty : (fault : Result (Unit {0}) Refusal) → leb max_records (length records) ≡ false → fault_behind (reverse records) bytes ≡ fault
          → fed_answer (unless_faulty fault (length records)) (length log) (log ++ rest) bytes ≡ Ok n → Taken bytes n
      faulty (Err refusal) l z e = cc
      faulty (Ok _) l z e = roomy (ltb (length (log ++ rest)) (length log + length bytes)) l z e

      full : (a : Bool) → leb max_records (length records) ≡ a
          → fed_answer (if a then refusing SessionFull 0 else unless_faulty (fault_behind (reverse records) bytes) (length records)) (length log) (log ++ rest) bytes ≡ Ok n → Taken bytes n
      full true l e = cc
      full false l e = faulty (fault_behind (reverse records) bytes) l refl e

  -- and a record that fits is taken, if there is room
  pub fitting_taken : (r : Record) → Small r → fault (reverse records) r ≡ Ok tt → length records < max_records → size_of r ≤ length rest
      → (answer_to s (encode r) ≡ Ok (size_of r)) × Holding (after_feed s (encode r)) (records ++ (r ∷ [])) (drop (size_of r) rest)
  fitting_taken r small ok room fits =
      let accepted : answer_to s (encode r) ≡ Ok (length (encode r)) = feed_is (encode r) ∙ rw (
        lt-leb max_records (length records) room,
        record_is_faultless (reverse records) r small ok,
        le-ltb (length (log ++ rest)) (length log + length (encode r)) (omega (arith, length-append log rest, encode_length r)),
      ) refl in
      (accepted ∙ ap Ok (encode_length r), grows r small ok room accepted)

  -- closing it judges the log
  pub holding_closes : session_reading open_stage s.stage s.used s.buffer ≡ read_log log
  holding_closes = rw (h.stage_is, h.used_is, h.buffer_is) (open_reading (length log) (log ++ rest) (within log rest) held_reads ∙ ap read_log (held_is log rest))

-- A closed session over a readable log refuses feeds and closing under 20, which leaves it closed.
module _ {s : Lent} (stage : s.stage ≡ closed_stage) {records : List Record} {rest : List ℕ} (h : Holding (record { stage = open_stage; used = s.used; buffer = s.buffer }) records rest) (reads : read_log (encode_log records) ≡ readable records) where
  closed_refusal : stage_refusal open_stage s.stage s.used s.buffer ≡ Err SessionClosed
  unfolding stage_refusal
  closed_refusal =
      let log : List ℕ = encode_log records in
      rw (stage, h.used_is, h.buffer_is, le-ltb (length (log ++ rest)) (length log) (within log rest), held_is log rest, reads) refl

  pub closed_refuses_feed : (bytes : List ℕ) → answer_to s bytes ≡ refusing SessionClosed 0
  unfolding feed_answer
  closed_refuses_feed bytes = rw closed_refusal refl

  pub closed_refuses_close : {sheet left : List ℕ} (answer : Verdict) → Judges (session_reading open_stage s.stage s.used s.buffer) sheet answer left → stage_closed s.stage answer ≡ s.stage
  closed_refuses_close answer j = go answer (rw closed_refusal at j)
    where
      go : {sheet left : List ℕ} (answer : Verdict) → Judges (refused SessionClosed 0) sheet answer left → stage_closed s.stage answer ≡ s.stage
      go answer turned_down = refl
