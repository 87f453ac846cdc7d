-- The numbers in the answers of feed are small.
use Prim.Native.Nat.{ℕ, ◌+◌, ◌≤◌}
use native.Mathlib.Omega.{arith}
use mathlib.Core.Path.{◌≡◌, refl, sym}
use mathlib.Core.Bool.{Bool, true, false}
use mathlib.Core.List.{List, reverse}
use lib.ListN.{length}
use lib.Dec.{ltb, leb}
use lib.Seq.{length-take-le}
use Rattle.std.specs.Prelude.{Result, Ok, Err, if◌then◌else◌}
use Rattle.record.specs.Refusal.{refusing}
use Rattle.record.specs.declared.refusal.Refusal.{Refusal}
use Rattle.record.specs.declared.refusal.Refusal.TheVariants.{BufferTooShort, SessionFull}
use Rattle.record.specs.declared.refusal.Refused.{Refused}
use Rattle.record.specs.declared.record.Record.{Record}
use Rattle.record.proofs.Refusals.{numbered}
use Rattle.reader.specs.Log.{max_records, max_length, Reading, readable, refused, read_partial}
use Rattle.reader.specs.Feed.{fault_behind, unless_faulty, extended}
use Rattle.reader.proofs.Laws.{partial_log, faultless_short}
use Rattle.session.specs.Session.{open_stage, held_log, stage_refusal, fed_answer, unless_refused, feed_answer}
use Rattle.session.proofs.Refusing.{unrefused_within}

-- An accepted feed writes the bytes of a record behind a log that is not too long; a refusal has a number of at least 1, and an index of at most 1,024.
abbrev pub AnswerWithin : ℕ → Result ℕ Refused → Type 0
AnswerWithin used (Ok n) = (n ≤ 12) × (used ≤ max_length)
AnswerWithin used (Err r) = (1 ≤ r.number) × (r.index ≤ max_records)

pub feed_within : (stage used : ℕ) (buffer bytes : List ℕ) → AnswerWithin used (feed_answer stage used buffer bytes)
unfolding feed_answer
feed_within stage used buffer bytes = standing (stage_refusal open_stage stage used buffer) refl
  where
    roomy : (lacks : Bool) (records : List Record) → fault_behind (reverse records) bytes ≡ Ok tt → used ≤ max_length → AnswerWithin used (if lacks then refusing BufferTooShort 0 else Ok (length bytes))
    roomy true records z l = (omega arith, omega arith)
    roomy false records z l = (faultless_short (reverse records) bytes z, l)

    fits : (records : List Record) → length records ≤ max_records → used ≤ max_length → (fault : Result (Unit {0}) Refusal) → fault_behind (reverse records) bytes ≡ fault
        → AnswerWithin used (fed_answer (unless_faulty fault (length records)) used buffer bytes)
    fits records few l (Err refusal) t = ((numbered refusal).0, few)
    fits records few l (Ok _) t = roomy (ltb (length buffer) (used + length bytes)) records t l

    full : (records : List Record) → length records ≤ max_records → used ≤ max_length → (b : Bool)
        → AnswerWithin used (fed_answer (if b then refusing SessionFull 0 else unless_faulty (fault_behind (reverse records) bytes) (length records)) used buffer bytes)
    full records few l true = (omega arith, omega arith)
    full records few l false = fits records few l (fault_behind (reverse records) bytes) refl

    held : used ≤ length buffer → (reading : Reading) → read_partial (held_log used buffer) ≡ reading → AnswerWithin used (fed_answer (extended reading bytes) used buffer bytes)
    held within (refused refusal index) e = (omega arith, omega arith)
    held within (readable records) e =
        let whole = partial_log (held_log used buffer) records e in
        full records whole.regular.few (omega (arith, whole.short, length-take-le used buffer within)) (leb max_records (length records))

    standing : (t : Result (Unit {0}) Refusal) → stage_refusal open_stage stage used buffer ≡ t
        → AnswerWithin used (unless_refused t (fed_answer (extended (read_partial (held_log used buffer)) bytes) used buffer bytes))
    standing (Ok _) t = held (unrefused_within open_stage stage used buffer t) (read_partial (held_log used buffer)) refl
    standing (Err refusal) t = ((numbered refusal).0, omega arith)

-- what an accepted feed returns: as many bytes as it has
pub accepted_length : (stage used : ℕ) (buffer bytes : List ℕ) {n : ℕ} → feed_answer stage used buffer bytes ≡ Ok n → n ≡ length bytes
unfolding feed_answer
accepted_length stage used buffer bytes {n} e = standing (stage_refusal open_stage stage used buffer) e
  where
    roomy : (lacks : Bool) → (if lacks then refusing BufferTooShort 0 else Ok (length bytes)) ≡ Ok n → n ≡ length bytes
    roomy true e = cc
    roomy false e = cc

    fits : (x : Result ℕ Refused) → fed_answer x used buffer bytes ≡ Ok n → n ≡ length bytes
    fits (Err r) e = cc
    fits (Ok records) e = roomy (ltb (length buffer) (used + length bytes)) e

    standing : (t : Result (Unit {0}) Refusal) → unless_refused t (fed_answer (extended (read_partial (held_log used buffer)) bytes) used buffer bytes) ≡ Ok n → n ≡ length bytes
    standing (Ok _) e = fits (extended (read_partial (held_log used buffer)) bytes) e
    standing (Err refusal) e = cc

-- the same bounds, of an accepted feed
pub accepted_small : (stage used : ℕ) (buffer bytes : List ℕ) {n : ℕ} → Ok n ≡ feed_answer stage used buffer bytes → (n ≤ 12) × (used ≤ max_length)
accepted_small stage used buffer bytes {n} e = go (rw (sym e) at (feed_within stage used buffer bytes))
  where
    go : AnswerWithin used (Ok n) → (n ≤ 12) × (used ≤ max_length)
    go small = small
