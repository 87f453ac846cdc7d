-- The tests of a session, one by one: how it stands, and what its feeds come to.
use Prim.Native.Nat.{ℕ, ◌+◌, ◌-◌, ◌≤◌, ◌<◌}
use native.Mathlib.Omega.{arith}
use mathlib.Core.Path.{◌≡◌, refl, sym, ap, ◌∙◌}
use mathlib.Core.Bool.{Bool, true, false, not}
use mathlib.Core.List.{List, reverse}
use lib.ListN.{length}
use lib.Dec.{ltb, leb, eqb}
use lib.Seq.{length-take-le, get_or-take}
use borrow.Author.Tests.{lt-ltb, le-ltb, ltb-false, leb-false, eqb-true}
use Rattle.std.specs.Prelude.{Result, Ok, Err, is_ok, if◌then◌else◌}
use Rattle.record.specs.Refusal.{refusing}
use Rattle.record.specs.declared.refusal.Refusal.{Refusal}
use Rattle.record.specs.declared.refusal.Refusal.TheVariants.{BufferTooShort, SessionFull, SessionClosed, SessionOpen, SessionUnfit}
use Rattle.record.specs.declared.refusal.Refused.{Refused}
use Rattle.record.specs.Number.{big_endian}
use Rattle.record.specs.declared.record.Record.{Record}
use Rattle.buffer.specs.Buffer.{put}
use Rattle.reader.specs.Log.{header_length, max_records, count_field, with_count, Reading, readable, refused, read_partial, read_log, checked}
use Rattle.reader.specs.Feed.{fault_behind, unless_faulty, extended}
use Rattle.reader.proofs.Laws.{partial_log}
use Rattle.reader.proofs.Run.{reads}
use Rattle.session.specs.Session.{open_stage, closed_stage, held_log, session_fits, stage_refusal, session_reading, fed_answer, unless_refused, Opened, feed_answer, fed_buffer, feed_leaves}

-- a session that fits its buffer uses no more bytes than there are
fits_within : (stage used : ℕ) (buffer : List ℕ) → session_fits stage used buffer ≡ true → used ≤ length buffer
fits_within stage used buffer e = go (ltb (length buffer) used) _ refl e
  where
    go : (t rest : Bool) → ltb (length buffer) used ≡ t → (if t then false else rest) ≡ true → used ≤ length buffer
    go true rest t e = cc
    go false rest t e = ltb-false (length buffer) used t

-- nor does one that is refused nothing
pub unrefused_within : (wanted stage used : ℕ) (buffer : List ℕ) → stage_refusal wanted stage used buffer ≡ Ok tt → used ≤ length buffer
unfolding stage_refusal
unrefused_within wanted stage used buffer e = go (session_fits stage used buffer) refl e
  where
    go : (t : Bool) → session_fits stage used buffer ≡ t → ◌≡◌ {A = Result (Unit {0}) Refusal} (if not t then Err SessionUnfit else if eqb stage wanted then Ok tt else if eqb wanted open_stage then Err SessionClosed else Err SessionOpen) (Ok tt) → used ≤ length buffer
    go true t e = fits_within stage used buffer t
    go false t e = cc

-- what is asked of a session: a refusal, or the reading of the log that is held
module _ (wanted stage used : ℕ) (buffer : List ℕ) where
  pub reading_refused : {refusal : Refusal} → stage_refusal wanted stage used buffer ≡ Err refusal → session_reading wanted stage used buffer ≡ refused refusal 0
  reading_refused is = rw is refl

  pub reading_held : stage_refusal wanted stage used buffer ≡ Ok tt → session_reading wanted stage used buffer ≡ read_log (held_log used buffer)
  reading_held is = rw is refl

-- What is known where a record fits: there is room for it among the records, the header is there, and it counts those that are held.
pub record Counted (buffer : List ℕ) (n : ℕ) : Type 0 where
  pub few : n < max_records
  pub header : header_length ≤ length buffer
  pub count : count_field buffer ≡ n

-- the count of the log that is held stands in the buffer
count_held : (used : ℕ) (buffer : List ℕ) → header_length ≤ used → count_field (held_log used buffer) ≡ count_field buffer
unfolding big_endian
count_held used buffer h = rw (get_or-take used buffer 1 0 (omega arith), get_or-take used buffer 2 0 (omega arith)) refl

pub fits_counted : (used : ℕ) (buffer bytes : List ℕ) → used ≤ length buffer → {n : ℕ} → Ok n ≡ extended (read_partial (held_log used buffer)) bytes → Counted buffer n
fits_counted used buffer bytes within {n} e = go (read_partial (held_log used buffer)) refl e
  where
    counted : (records : List Record) → read_partial (held_log used buffer) ≡ readable records → (full : Bool) (fault : Result (Unit {0}) Refusal) → leb max_records (length records) ≡ full
        → Ok n ≡ (if full then refusing SessionFull 0 else unless_faulty fault (length records)) → Counted buffer n
    counted records r true fault t e = cc
    counted records r false (Err refusal) t e = cc
    counted records r false (Ok _) t e =
        let same : n ≡ length records = cc in
        let long : length (held_log used buffer) ≡ used = length-take-le used buffer within in
        let header : header_length ≤ used = omega (arith, (reads (held_log used buffer) records r).header) in
        record { few = omega (arith, leb-false max_records (length records) t); header = omega arith; count = sym (count_held used buffer header) ∙ sym (partial_log (held_log used buffer) records r).count ∙ sym same }

    go : (reading : Reading) → read_partial (held_log used buffer) ≡ reading → Ok n ≡ extended reading bytes → Counted buffer n
    go (readable records) r e = counted records r (leb max_records (length records)) (fault_behind (reverse records) bytes) refl e
    go (refused refusal index) r e = cc

-- a session that fits its buffer is refused nothing, and what is asked of it goes by the log that is held
module _ (used : ℕ) (buffer : List ℕ) (within : used ≤ length buffer) {records : List Record} where
  pub open_unrefused : read_partial (held_log used buffer) ≡ readable records → stage_refusal open_stage open_stage used buffer ≡ Ok tt
  unfolding stage_refusal
  open_unrefused reads = rw (le-ltb (length buffer) used within, reads) refl

  pub open_reading : read_partial (held_log used buffer) ≡ readable records → session_reading open_stage open_stage used buffer ≡ read_log (held_log used buffer)
  open_reading reads = reading_held open_stage open_stage used buffer (open_unrefused reads)

  closed_unrefused : read_log (held_log used buffer) ≡ readable records → stage_refusal closed_stage closed_stage used buffer ≡ Ok tt
  unfolding stage_refusal
  closed_unrefused reads = rw (le-ltb (length buffer) used within, reads) refl

  pub closed_reading : read_log (held_log used buffer) ≡ readable records → session_reading closed_stage closed_stage used buffer ≡ read_log (held_log used buffer)
  closed_reading reads = reading_held closed_stage closed_stage used buffer (closed_unrefused reads)

-- Feeds, by their tests.
module _ (stage used : ℕ) (buffer bytes : List ℕ) where
  -- the answer, with what is left of the buffer
  pub answered : {a : Result ℕ Refused} → feed_answer stage used buffer bytes ≡ a → (a ≡ feed_answer stage used buffer bytes) × (fed_buffer a used buffer bytes ≡ feed_leaves stage used buffer bytes)
  answered e = (sym e, ap (λ a. fed_buffer a used buffer bytes) (sym e))

  -- a session that is not open is refused by how it stands
  open_if_unrefused : stage_refusal open_stage stage used buffer ≡ Ok tt → stage ≡ open_stage
  unfolding stage_refusal
  open_if_unrefused e = go (session_fits stage used buffer) (eqb stage open_stage) refl e
    where
      go : (fits same : Bool) → eqb stage open_stage ≡ same → ◌≡◌ {A = Result (Unit {0}) Refusal} (if not fits then Err SessionUnfit else if same then Ok tt else Err SessionClosed) (Ok tt) → stage ≡ open_stage
      go true true t e = eqb-true stage open_stage t
      go true false t e = cc
      go false same t e = cc

  pub feed_not_open : {refusal : Refusal} → stage_refusal open_stage stage used buffer ≡ Err refusal → feed_answer stage used buffer bytes ≡ refusing refusal 0
  unfolding feed_answer
  feed_not_open is = rw is refl

  -- one that is open is refused if it uses more bytes than there are
  pub beyond_unfit : stage ≡ open_stage → length buffer < used → stage_refusal open_stage stage used buffer ≡ Err SessionUnfit
  unfolding stage_refusal
  beyond_unfit is_open l = rw (lt-ltb (length buffer) used l) refl

  -- by any answer to how it stands, it is open, and the used bytes are there, or it is refused
  pub opened_by : (answer : Result (Unit {0}) Refusal) → stage_refusal open_stage stage used buffer ≡ answer → Opened stage used buffer answer
  opened_by (Ok _) e = (open_if_unrefused e, unrefused_within open_stage stage used buffer e)
  opened_by (Err refusal) e = e

  module _ (is_open : stage ≡ open_stage) where
    module _ (within : used ≤ length buffer) where
      -- the rest goes by what the bytes are behind the log that is held
      pub feed_open : {x : Result ℕ Refused} → x ≡ extended (read_partial (held_log used buffer)) bytes → feed_answer stage used buffer bytes ≡ fed_answer x used buffer bytes
      unfolding feed_answer stage_refusal
      feed_open is = rw (is, is_open, le-ltb (length buffer) used within) (go (read_partial (held_log used buffer)))
        where
          go : (reading : Reading)
              → unless_refused (if not (is_ok (checked reading)) then Err SessionUnfit else Ok tt) (fed_answer (extended reading bytes) used buffer bytes)
              ≡ fed_answer (extended reading bytes) used buffer bytes
          go (readable records) = refl
          go (refused refusal index) = refl

      module _ {n : ℕ} (fits : Ok n ≡ extended (read_partial (held_log used buffer)) bytes) where
        pub feed_lacks_room : length buffer - used < length bytes → feed_answer stage used buffer bytes ≡ refusing BufferTooShort 0
        feed_lacks_room l = feed_open fits ∙ rw (lt-ltb (length buffer) (used + length bytes) (omega arith)) refl

        pub feed_accepted : length bytes ≤ length buffer - used → feed_answer stage used buffer bytes ≡ Ok (length bytes)
        feed_accepted l = feed_open fits ∙ rw (le-ltb (length buffer) (used + length bytes) (omega arith)) refl

        -- with one more in the count, and the bytes behind those that are used
        pub feed_written : length bytes ≤ length buffer - used
            → (Ok (length bytes) ≡ feed_answer stage used buffer bytes) × (put used bytes (with_count (n + 1) buffer) ≡ feed_leaves stage used buffer bytes)
        feed_written l = let (answer, left) = answered (feed_accepted l) in (answer, rw (fits_counted used buffer bytes within fits).count at left)
