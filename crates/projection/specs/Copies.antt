-- How the code writes a log out of a log: the marked records of a log, how much they are, and what is copied where. What is written can be
-- understood without this file.
use Rattle.std.specs.Prelude.{ℕ, zero, suc, ◌+◌, ◌≤◌, ◌≡◌, Bool, List, Result, [], ◌∷◌, ◌++◌, length, if◌then◌else◌}
use Rattle.record.specs.declared.refusal.Refused.{Refused}
use Rattle.record.specs.declared.record.Record.{Record}
use Rattle.buffer.specs.Buffer.{written, put}
use Rattle.buffer.specs.Output.{writing}
use Rattle.reader.specs.Log.{header_length, max_records, max_length, readable, read_log, encode_all, encode_log}
use Rattle.reader.specs.Readable.{record_of, sizes}
use Rattle.projection.specs.Projection.{keep_records}
use Rattle.projection.specs.Marks.{is_set}
use Rattle.projection.specs.declared.measure.Extent.{Extent}

-- the chosen ones of the first n records
unfoldable pub chosen : (ℕ → Bool) → List Record → ℕ → List Record
chosen choose records zero = []
chosen choose records (suc n) = chosen choose records n ++ (if choose n then record_of records n ∷ [] else [])

-- the marked records
abbrev pub marked : List Bool → List Record → List Record
marked marks records = chosen (is_set marks) records (length records)

-- The marked records of a readable log are so many, and take so many bytes.
pub record Measured (log : List ℕ) (marks : List Bool) (extent : Extent) : Type 0 where
  pub few : extent.records ≤ max_records
  pub short : header_length + extent.bytes ≤ max_length
  pub records_are : (records : List Record) → read_log log ≡ readable records → extent.records ≡ length (marked marks records)
  pub bytes_are : (records : List Record) → read_log log ≡ readable records → extent.bytes ≡ sizes (marked marks records)

-- There is room for the header and the marked records of a readable log.
pub record RoomFor (log : List ℕ) (marks : List Bool) (out : List ℕ) : Type 0 where
  pub room : (records : List Record) → read_log log ≡ readable records → header_length + sizes (marked marks records) ≤ length out

-- The marked records of a readable log stand behind the header, and the rest of the buffer is as it was.
pub record Copied (log : List ℕ) (marks : List Bool) (out out' : List ℕ) : Type 0 where
  pub copied : (records : List Record) → read_log log ≡ readable records → out' ≡ put header_length (encode_all (marked marks records)) out

-- Those of a readable log's records that are picked are written as a log, if there is room.
pub record Writes (log : List ℕ) (pick : List Record → List Record) (out : List ℕ) (answer : Result ℕ Refused) (out' : List ℕ) : Type 0 where
  pub answers : (records : List Record) → read_log log ≡ readable records → answer ≡ writing (encode_log (pick records)) out
  pub leaves : (records : List Record) → read_log log ≡ readable records → out' ≡ written (encode_log (pick records)) out

-- the records of the kept operations
abbrev pub kept_records : List Bool → List Record → List Record
kept_records kept records = keep_records (is_set kept) [] records
