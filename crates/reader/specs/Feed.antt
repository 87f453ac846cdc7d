-- What bytes come to that are handed in as one record behind a log. Document 01, "Turned down by what was handed in": "For a feed: not exactly one
-- record." "A feed makes its whole test for 1, bytes behind the record included, before the rest of the list."
use Rattle.std.specs.Prelude.{ℕ, ◌+◌, Bool, not, List, Result, Ok, Err, reverse, length, get_or, leb, eqb, if◌then◌else◌}
use Rattle.record.specs.Refusal.{refusing}
use Rattle.record.specs.declared.refusal.Refusal.{Refusal}
use Rattle.record.specs.declared.refusal.Refusal.TheVariants.{WrongBytes, SessionFull, SessionUnfit}
use Rattle.record.specs.declared.refusal.Refused.{Refused}
use Rattle.record.specs.Record.{decode_at}
use Rattle.record.specs.declared.record.Record.{Record}
use Rattle.reader.specs.Log.{max_records, Reading, readable, refused, fault}

-- the bytes are exactly one record by their length byte: that byte, and L more
abbrev pub is_one_record : List ℕ → Bool
is_one_record bytes = eqb (length bytes) (get_or bytes 0 0 + 1)

-- whether anything is wrong with what stands there, behind the records of the past: L = 0, 4, 5, 6, 7, 31, 8 or 9
abbrev pub decoded_fault : List Record → Result (Record × ℕ) Refusal → Result (Unit {0}) Refusal
decoded_fault past (Ok (r, next)) = fault past r
decoded_fault past (Err refusal) = Err refusal

-- whether anything is wrong with the bytes behind the records of the past, latest first
unfoldable pub fault_behind : List Record → List ℕ → Result (Unit {0}) Refusal
fault_behind past bytes = if not (is_one_record bytes) then Err WrongBytes else decoded_fault past (decode_at bytes 0)

-- how many records a log has, unless this is wrong with bytes that are handed in behind them: "A feed's index is the number of records held."
abbrev pub unless_faulty : Result (Unit {0}) Refusal → ℕ → Result ℕ Refused
unless_faulty (Ok _) count = Ok count
unless_faulty (Err refusal) count = refusing refusal count

-- the bytes behind a log, as it was read but for 10: 25 if it is not readable, 21 if it is full, with 1,024 records
abbrev pub extended : Reading → List ℕ → Result ℕ Refused
extended (refused refusal index) bytes = refusing SessionUnfit 0
extended (readable records) bytes =
    if leb max_records (length records) then refusing SessionFull 0 else
    unless_faulty (fault_behind (reverse records) bytes) (length records)
