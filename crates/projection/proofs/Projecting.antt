-- From what is marked and written to the answer.
use Prim.Native.Nat.{ℕ, ◌+◌, ◌≤◌, ◌<◌}
use native.Mathlib.Omega.{arith}
use mathlib.Core.Path.{◌≡◌, refl, sym, ap, ◌∙◌}
use mathlib.Core.Bool.{Bool, true, false}
use mathlib.Core.List.{List, ◌∷◌, ◌++◌}
use lib.ListN.{length}
use borrow.Author.Tests.{lt-ltb, le-ltb}
use Rattle.std.specs.Prelude.{Result, Ok}
use Rattle.record.specs.Number.{bytes_of}
use Rattle.record.specs.declared.record.Record.{Record}
use Rattle.buffer.specs.Buffer.{lacks_room, written, put}
use Rattle.buffer.specs.Output.{writing}
use Rattle.record.specs.Refusal.{refusing}
use Rattle.record.specs.declared.refusal.Refusal.TheVariants.{BufferTooShort}
use Rattle.record.specs.declared.refusal.Refused.{Refused}
use Rattle.buffer.proofs.Copying.{put_behind, put_written}
use Rattle.reader.specs.Log.{log_version, header_length, readable, read_log, encode_all, encode_log}
use Rattle.projection.specs.Copies.{marked, Measured, Copied, Writes}
use Rattle.projection.specs.declared.measure.Extent.{Extent}
use Rattle.projection.proofs.Sizes.{log_length}

-- the header of a log of so many records
abbrev header : ℕ → List ℕ
header count = log_version ∷ bytes_of 2 count

module _ {log : List ℕ} {marks : List Bool} {extent : Extent} (measured : Measured log marks extent) where
  -- the log that is to be written, and its length
  module _ (records : List Record) (reads : read_log log ≡ readable records) where
    answer_is : encode_log (marked marks records) ≡ header extent.records ++ encode_all (marked marks records)
    answer_is = rw (measured.records_are records reads) refl

    answer_long : length (encode_log (marked marks records)) ≡ header_length + extent.bytes
    answer_long = rw (measured.bytes_are records reads) (log_length (marked marks records))

    -- there is no room for it, or there is
    no_room : (out : List ℕ) → length out < header_length + extent.bytes → lacks_room (encode_log (marked marks records)) out ≡ true
    no_room out l = lt-ltb (length out) (length (encode_log (marked marks records))) (omega (arith, answer_long))

    some_room : (out : List ℕ) → header_length + extent.bytes ≤ length out → lacks_room (encode_log (marked marks records)) out ≡ false
    some_room out l = le-ltb (length out) (length (encode_log (marked marks records))) (omega (arith, answer_long))

  -- where there is no room nothing is written
  pub writes_nothing : (out : List ℕ) → length out < header_length + extent.bytes → Writes log (marked marks) out (refusing BufferTooShort 0) out
  writes_nothing out l = record {
    answers = λ records reads. rw (no_room records reads out l) refl;
    leaves = λ records reads. rw (no_room records reads out l) refl;
  }

  -- where there is, the header is written, then the records
  module _ (out headed : List ℕ) (l : header_length + extent.bytes ≤ length out) (h : headed ≡ put 0 (header extent.records) out) where
    pub writes_all : {out' : List ℕ} → Copied log marks headed out' → Writes log (marked marks) out (Ok (header_length + extent.bytes)) out'
    unfolding bytes_of
    writes_all {out'} copied = record {
      answers = λ records reads. rw (some_room records reads out l) (ap Ok (sym (answer_long records reads)));
      leaves = λ records reads. copied.copied records reads ∙ joined records reads;
    }
      where
        joined : (records : List Record) → read_log log ≡ readable records
            → put header_length (encode_all (marked marks records)) headed ≡ written (encode_log (marked marks records)) out
        joined records reads =
            ap (put header_length (encode_all (marked marks records))) h
            ∙ put_behind 0 (header extent.records) (encode_all (marked marks records)) out (omega arith)
            ∙ ap (λ bytes. put 0 bytes out) (sym (answer_is records reads))
            ∙ put_written (encode_log (marked marks records)) out (omega (arith, answer_long records reads))

-- what is picked alike is written alike
pub writes_same : {log out out' : List ℕ} {pick other : List Record → List Record} {answer : Result ℕ Refused} → Writes log other out answer out'
    → ((records : List Record) → read_log log ≡ readable records → other records ≡ pick records) → Writes log pick out answer out'
writes_same {out = out} writes same = record {
  answers = λ records reads. writes.answers records reads ∙ ap (λ picked. writing (encode_log picked) out) (same records reads);
  leaves = λ records reads. writes.leaves records reads ∙ ap (λ picked. written (encode_log picked) out) (same records reads);
}
