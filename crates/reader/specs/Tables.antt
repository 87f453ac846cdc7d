-- What the code keeps of the records that it has read, in two maps and a table of numbers. What a readable log is can be understood without this
-- file.
use Rattle.std.specs.Prelude.{ℕ, suc, ◌+◌, ◌*◌, ◌/◌, ◌%◌, ◌≤◌, ◌<◌, ◌≡◌, not, List, Option, Some, None, Result, Ok, Err, [], ◌∷◌, reverse, length, get_or, set, take, ltb, eqb, if◌then◌else◌}
use Rattle.record.specs.Refusal.{refusing}
use Rattle.record.specs.declared.refusal.Refusal.{Refusal}
use Rattle.record.specs.declared.refusal.Refusal.TheVariants.{WrongBytes, WrongVersion, TooManyRecords, TickFell}
use Rattle.record.specs.declared.refusal.Refused.{Refused}
use Rattle.record.specs.declared.record.Event.{Event}
use Rattle.record.specs.declared.record.Event.TheVariants.{CallAdd, CallRemove, ReturnAdd, ReturnRemove}
use Rattle.record.specs.declared.record.Record.{Record}
use Rattle.map.specs.Map.{Latest}
use Rattle.map.specs.declared.map.Map.{Map}
use Rattle.reader.specs.Log.{log_version, header_length, max_records, count_field, remove_call, leaves, Reading, readable}
use Rattle.reader.specs.Log.{refused, added_values, last_tick, operations, second_remove, event_fault, fault, scan}
use Rattle.reader.specs.Feed.{fault_behind}
use Rattle.reader.specs.declared.clients.Standing.{Standing}
use Rattle.reader.specs.declared.clients.Clients.{Clients}
use Rattle.reader.specs.declared.scan.Tables.{Tables}
use Rattle.reader.specs.declared.scan.Survey.{Survey}

-- what is kept of a client: how many records there are up to its latest one, times 4, plus the kind of the call that this one leaves pending; 0 if
-- the client has no record
unfoldable pub code_of : List Record → ℕ → ℕ
code_of [] client = 0
code_of (r ∷ past) client = if eqb r.client client then suc (length past) * 4 + leaves r.event else code_of past client

-- how many records there are up to the last one that has another tick
unfoldable pub start_of : List Record → ℕ → ℕ
start_of [] tick = 0
start_of (r ∷ past) tick = if eqb r.tick tick then start_of past tick else suc (length past)

-- Nothing has been entered, and the first record is the next one to read.
pub record New (t : Tables) : Type 0 where
  pub met : t.clients.map.count ≡ 0
  pub codes_sized : length t.clients.codes ≡ max_records
  pub codes_none : (p : ℕ) → get_or t.clients.codes p 0 ≡ 0
  pub added : t.added.count ≡ 0
  pub at : t.at ≡ header_length
  pub tick : t.tick ≡ 0
  pub start : t.start ≡ 0
  pub operations : t.operations ≡ 0

-- There is room for one record more.
pub record Room (t : Tables) : Type 0 where
  pub clients : t.clients.map.count < max_records
  pub added : t.added.count < max_records
  pub operations : t.operations < max_records

-- Each entry in use has the code of a record.
abbrev pub Coded : ℕ → List ℕ → Type 0
Coded count codes = (p : ℕ) → p < count → 4 ≤ get_or codes p 0

-- The map holds the clients of the past, each once, with their codes beside them.
pub record ClientsKept (past : List Record) (c : Clients) : Type 0 where
  pub few : c.map.count ≤ length past
  pub apart : (p q : ℕ) → p < c.map.count → q < c.map.count → get_or c.map.keys p 0 ≡ get_or c.map.keys q 0 → p ≡ q
  pub codes_sized : length c.codes ≡ max_records
  pub coded : Coded c.map.count c.codes
  pub held : (p : ℕ) → p < c.map.count → get_or c.codes p 0 ≡ code_of past (get_or c.map.keys p 0)
  pub unused : (p : ℕ) → c.map.count ≤ p → get_or c.codes p 0 ≡ 0
  pub others : (client : ℕ) → ((p : ℕ) → p < c.map.count → get_or c.map.keys p 0 ≡ client → ⊥) → code_of past client ≡ 0

-- The map holds the values added in the past.
pub record AddedKept (past : List Record) (added : Map) : Type 0 where
  pub counted : added.count ≡ length (added_values past)
  pub values_are : take added.count added.keys ≡ added_values past

-- The ticks of the past did not fall.
pub data Rising : List Record → Type 0 where
  first : Rising []
  more : {r : Record} {past : List Record} → last_tick past ≤ r.tick → Rising past → Rising (r ∷ past)

-- All that is kept of the past.
pub record Kept (past : List Record) (t : Tables) : Type 0 where
  pub tick : t.tick ≡ last_tick past
  pub start : t.start ≡ start_of past (last_tick past)
  pub rising : Rising past
  pub calls : t.operations ≡ operations past
  pub clients : ClientsKept past t.clients
  pub added : AddedKept past t.added

-- This is known of the client of a record with an index.
pub record Stands (r : Record) (index : ℕ) (t : Tables) (s : Standing) : Type 0 where
  pub entry : Latest t.clients.map.keys t.clients.map.count r.client s.entry
  pub code : s.code ≡ get_or t.clients.codes s.entry 0
  pub start : s.start ≡ (if eqb r.tick t.tick then t.start else index)

-- 6, 7, 31, 8 and 9, as the tables have it
unfoldable pub fault_in : Record → Tables → Standing → Result (Unit {0}) Refusal
fault_in r t s =
    if ltb r.tick t.tick then Err TickFell else
    event_fault r.event (s.code % 4) (ltb s.start (s.code / 4)) (take t.added.count t.added.keys)

-- The code of a client is noted at an entry, which is in use or the first that is not.
pub record Noted (client code entry : ℕ) (c c' : Clients) : Type 0 where
  pub codes_are : c'.codes ≡ set c.codes entry code
  pub old : entry < c.map.count → (c'.map.count ≡ c.map.count) × (c'.map.keys ≡ c.map.keys)
  pub new : c.map.count ≤ entry → (c'.map.count ≡ c.map.count + 1) × (c'.map.keys ≡ set c.map.keys c.map.count client)

-- The value that an event adds, if it is a call of add, is put into the map.
abbrev pub ValueNoted : Event → Map → Map → Type 0
ValueNoted (CallAdd v) m m' = (m'.keys ≡ set m.keys m.count v) × (m'.count ≡ m.count + 1)
ValueNoted CallRemove m m' = (m'.keys ≡ m.keys) × (m'.count ≡ m.count)
ValueNoted ReturnAdd m m' = (m'.keys ≡ m.keys) × (m'.count ≡ m.count)
ValueNoted (ReturnRemove x) m m' = (m'.keys ≡ m.keys) × (m'.count ≡ m.count)

-- The lowest index, from an index on, of a pending remove that the first `count` codes have, if they have one.
abbrev pub LeastRemove : List ℕ → ℕ → ℕ → Option ℕ → Type 0
LeastRemove codes count from (Some r) =
    (from ≤ r) × ((p : ℕ) × (p < count) × (get_or codes p 0 ≡ (r + 1) * 4 + remove_call))
    × ((p : ℕ) → p < count → get_or codes p 0 % 4 ≡ remove_call → from < get_or codes p 0 / 4 → r < get_or codes p 0 / 4)
LeastRemove codes count from None = (p : ℕ) → p < count → get_or codes p 0 % 4 ≡ remove_call → from < get_or codes p 0 / 4 → ⊥

-- The tables hold what they held and the record r, the next one to read stands at `next`.
pub record Admitted (r : Record) (next index : ℕ) (t t' : Tables) : Type 0 where
  pub at : t'.at ≡ next
  pub kept : (past : List Record) → Kept past t → length past ≡ index → fault past r ≡ Ok tt → Kept (r ∷ past) t'

-- A step of the scan: it ends there with a refusal, or the tables hold one record more.
abbrev pub Goes : List ℕ → List Record → ℕ → Result (Unit {0}) Refusal → Tables → Type 0
Goes log past at (Err refusal) t' = (left : ℕ) → scan log (suc left) at past ≡ refused refusal (length past)
Goes log past at (Ok _) t' =
    (r : Record) × Kept (r ∷ past) t' × ((left : ℕ) → scan log (suc left) at past ≡ scan log left t'.at (r ∷ past))

pub record Stepped (log : List ℕ) (index : ℕ) (t : Tables) (step : Result (Unit {0}) Refusal) (t' : Tables) : Type 0 where
  pub goes : (past : List Record) → Kept past t → length past ≡ index → Goes log past t.at step t'

-- All records behind the header have been read, `count` of them: the tables hold them, and they are what the log is read as.
pub record AllKept (log : List ℕ) (count : ℕ) (t : Tables) : Type 0 where
  pub past : List Record
  pub counted : length past ≡ count
  pub kept : Kept past t
  pub reads : scan log count header_length [] ≡ readable (reverse past)

-- They have all been read, or the scan ends with this refusal, and with this index.
pub data Passed (log : List ℕ) (count : ℕ) : Result (Unit {0}) (Refusal × ℕ) → Tables → Type 0 where
  through : {t : Tables} → AllKept log count t → Passed log count (Ok tt) t
  stopped : {refusal : Refusal} {index : ℕ} {t : Tables} → scan log count header_length [] ≡ refused refusal index → Passed log count (Err (refusal, index)) t

-- This is what is wrong with bytes that are handed in as one record behind those that the tables hold.
pub record FaultBehind (bytes : List ℕ) (index : ℕ) (t : Tables) (fault : Result (Unit {0}) Refusal) : Type 0 where
  pub found : (past : List Record) → Kept past t → length past ≡ index → fault ≡ fault_behind past bytes

-- what the header of a log says: "1 for under 3 bytes, 2, 3", or the number of records
abbrev pub header_of : List ℕ → Result ℕ Refusal
header_of log =
    if ltb (length log) header_length then Err WrongBytes else
    if not (eqb (get_or log 0 0) log_version) then Err WrongVersion else
    if ltb max_records (count_field log) then Err TooManyRecords else
    Ok (count_field log)

-- an index, if it is below a bound
abbrev pub index_below : ℕ → ℕ → Option ℕ
index_below bound i = if ltb i bound then Some i else None

-- the answer of the scan, with the index of the second pending remove, if there is one
abbrev pub surveyed : Reading → Result Survey Refused
surveyed (readable records) = Ok (record {
  counts = record { records = length records; operations = operations records };
  second_remove = index_below (length records) (second_remove records);
})
surveyed (refused refusal index) = refusing refusal index
