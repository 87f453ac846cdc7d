-- What holds of the records of a readable log: the facts that everything above the reader may rest on.
-- Document 01, "The log" and "Turned down by what was handed in".
use Rattle.std.specs.Prelude.{ℕ, ◌+◌, ◌≤◌, ◌<◌, ◌≡◌, List, Ok, [], ◌∷◌, length, get_or, take}
use Rattle.record.specs.Number.{Bytes}
use Rattle.record.specs.Refusal.{number_of, max_refusal}
use Rattle.record.specs.Record.{size_of, Small, decode_at}
use Rattle.record.specs.declared.record.Event.{Event}
use Rattle.record.specs.declared.record.Event.TheVariants.{CallAdd, CallRemove, ReturnAdd, ReturnRemove}
use Rattle.record.specs.declared.record.Record.{Record}
use Rattle.reader.specs.Log.{log_version, header_length, max_records, max_length, add_call, remove_call, count_field}
use Rattle.reader.specs.Log.{is_call, leaves, Reading, readable, refused, fault, encode_log}

-- A log that is read has at most 1,024 records, and a refusal a number from 1 to 63 and an index of at most 1,024. The bound on
-- numbers leaves room for refusals that are not there yet; which ones a log is given is said by `read_log`.
abbrev pub Within : Reading → Type 0
Within (readable records) = length records ≤ max_records
Within (refused refusal index) = (1 ≤ number_of refusal) × (number_of refusal ≤ max_refusal) × (index ≤ max_records)

-- the record with an index; behind the last one a call of remove, which tells of no return
abbrev pub record_of : List Record → ℕ → Record
record_of records i = get_or records i (record { client = 0; tick = 0; event = CallRemove })

-- the bytes that records take
unfoldable pub sizes : List Record → ℕ
sizes [] = 0
sizes (r ∷ records) = size_of r + sizes records

-- where the record with an index stands: behind the header and the records before it
abbrev pub offset_of : List Record → ℕ → ℕ
offset_of records i = header_length + sizes (take i records)

-- the kind of the call that is pending when an event comes: a return asks for a call of its operation, a call for none, 0
abbrev pub asks : Event → ℕ
asks (CallAdd v) = 0
asks CallRemove = 0
asks ReturnAdd = add_call
asks (ReturnRemove x) = remove_call

-- record j is the next one of record i's client
pub record Next (records : List Record) (i j : ℕ) : Type 0 where
  pub later : i < j
  pub there : j < length records
  pub same : (record_of records j).client ≡ (record_of records i).client
  pub between : (k : ℕ) → i < k → k < j → (record_of records k).client ≡ (record_of records i).client → ⊥

-- Records that can be written behind those of the past: their fields fit, and nothing is wrong with any of them.
pub data Writable : List Record → List Record → Type 0 where
  none : {past : List Record} → Writable past []
  more : {past records : List Record} {r : Record} → Small r → fault past r ≡ Ok tt → Writable (r ∷ past) records → Writable past (r ∷ records)

-- What the records of a log obey that is readable but for 10.
pub record Regular (records : List Record) : Type 0 where
  -- "n, the number of records, at most 1,024"
  pub few : length records ≤ max_records
  -- "Ticks are checked not to fall."
  pub ticks : (i j : ℕ) → i ≤ j → j < length records → (record_of records i).tick ≤ (record_of records j).tick
  -- a client's records go call, return, call, ..: the first asks for no pending call, and each later one for what the one
  -- before it leaves, so that a return follows a call of its operation and a call follows a return
  pub first : (j : ℕ) → j < length records → ((k : ℕ) → k < j → (record_of records k).client ≡ (record_of records j).client → ⊥) → asks (record_of records j).event ≡ 0
  pub next : (i j : ℕ) → Next records i j → asks (record_of records j).event ≡ leaves (record_of records i).event
  -- a client's call has a higher tick than its return before
  pub rises : (i j : ℕ) → Next records i j → is_call (record_of records j).event ≡ 1 → (record_of records i).tick < (record_of records j).tick
  -- no value is called to be added twice
  pub once : (i j v : ℕ) → i < j → j < length records → (record_of records i).event ≡ CallAdd v → (record_of records j).event ≡ CallAdd v → ⊥

-- A log that is readable but for 10, and its records.
pub record PartialLog (log : List ℕ) (records : List Record) : Type 0 where
  -- "Byte 0 is the version, 1. Bytes 1 and 2 are n, the number of records"
  pub version : get_or log 0 0 ≡ log_version
  pub count : length records ≡ count_field log
  -- where each record stands, and that they fill the log
  pub stands : (i : ℕ) → i < length records → decode_at log (offset_of records i) ≡ Ok (record_of records i, offset_of records (i + 1))
  pub fills : offset_of records (length records) ≡ length log
  pub short : length log ≤ max_length
  -- the records put back into bytes are the log
  pub bytes : Bytes log → encode_log records ≡ log
  -- and they can be written: their fields fit, and none has a fault behind those before it
  pub writable : Bytes log → Writable [] records
  -- what they obey, one by one
  pub regular : Regular records

-- The record with an index is the call of a remove without return: its client has no later record. The next one would be the return, by `next`.
pub record Unreturned (records : List Record) (i : ℕ) : Type 0 where
  pub there : i < length records
  pub removes : (record_of records i).event ≡ CallRemove
  pub last : (j : ℕ) → Next records i j → ⊥

-- A readable log, and its records.
pub record ReadableLog (log : List ℕ) (records : List Record) : Type 0 where
  pub partial : PartialLog log records
  -- "one remove may be left open" (document 02, change 4): two removes without return are one
  pub lone : (i j : ℕ) → Unreturned records i → Unreturned records j → i ≡ j

-- What makes records those of a readable log: they are regular, their fields fit and at most one remove has no return.
pub record Orderly (records : List Record) : Type 0 where
  pub regular : Regular records
  pub small : (i : ℕ) → i < length records → Small (record_of records i)
  pub lone : (i j : ℕ) → Unreturned records i → Unreturned records j → i ≡ j
