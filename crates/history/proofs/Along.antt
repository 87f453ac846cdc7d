-- A loop that goes along the records of a readable log, from one to the next.
use Prim.Native.Nat.{ℕ, ◌+◌, ◌<◌}
use native.Mathlib.Omega.{arith}
use mathlib.Core.Path.{◌≡◌, refl, sym, ap, ◌∙◌}
use mathlib.Core.List.{List}
use lib.ListN.{length}
use Rattle.std.specs.Prelude.{Result, Ok}
use Rattle.record.specs.Record.{decode_at}
use Rattle.record.specs.declared.record.Record.{Record}
use Rattle.record.specs.declared.refusal.Refusal.{Refusal}
use Rattle.reader.specs.Log.{header_length, readable, read_log}
use Rattle.reader.specs.Readable.{record_of, sizes, offset_of, ReadableLog}
use Rattle.reader.proofs.Laws.{readable_log}
use Rattle.history.specs.Table.{Whole}
pub use Rattle.history.specs.Walks.{Along}

-- a log that is said to be readable is so
pub whole_readable : {log : List ℕ} {end : ℕ} (whole : Whole log end) → ReadableLog log whole.records
whole_readable {log} whole = readable_log log whole.records whole.reads

-- a log is read as one list of records
pub whole_one : {log : List ℕ} {end : ℕ} (whole : Whole log end) (records : List Record) → read_log log ≡ readable records → whole.records ≡ records
whole_one whole records e = let same : readable whole.records ≡ readable records = sym whole.reads ∙ e in cc

pub along_start : {log : List ℕ} {end : ℕ} → (whole : Whole log end) → Along log whole.records header_length 0
unfolding sizes
along_start whole = record { readable = whole_readable whole; within = omega arith; stands = refl }

module _ {log : List ℕ} {records : List Record} {at i : ℕ} (along : Along log records at i) (l : i < length records) where
  -- there is a record
  pub along_record : decode_at log at ≡ Ok (record_of records i, offset_of records (i + 1))
  along_record = rw along.stands (along.readable.partial.stands i l)

  module _ {r : Record} {next : ℕ} {d : Result (Record × ℕ) Refusal} (e : d ≡ decode_at log at) (f : d ≡ Ok (r, next)) where
    both : ◌≡◌ {A = Record × ℕ} (record_of records i, offset_of records (i + 1)) (r, next)
    both = let found = along_record in cc

    pub along_here : record_of records i ≡ r
    along_here = ap (λ (p : Record × ℕ). p.0) both

    -- the next one stands behind it
    pub along_next : Along log records next (i + 1)
    along_next = record { readable = along.readable; within = omega arith; stands = sym (ap (λ (p : Record × ℕ). p.1) both) }
