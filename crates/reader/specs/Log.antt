-- Document 01, "The log" and "Turned down by what was handed in", with document 02, changes 3 (refusal 31) and 4 (refusal 10): what a whole log is
-- read as. The records come one after the other; each is held against those before it, which stand here latest first; then left bytes, then 10.
use Rattle.std.specs.Prelude.{ℕ, zero, suc, ◌+◌, Bool, false, not, List, Result, Ok, Err, [], ◌∷◌, ◌++◌, map, reverse, length, get_or, drop, ltb, eqb, if◌then◌else◌}
use Rattle.record.specs.Number.{big_endian, bytes_of}
use Rattle.record.specs.Refusal.{refusing}
use Rattle.record.specs.declared.refusal.Refusal.{Refusal}
use Rattle.record.specs.declared.refusal.Refusal.TheVariants.{WrongBytes, WrongVersion, TooManyRecords, TickFell, ClientBusy, NoSuchCall, AddedTwice, RemovePending, TickRepeated}
use Rattle.record.specs.declared.refusal.Refused.{Refused}
use Rattle.record.specs.Record.{encode, decode_at}
use Rattle.record.specs.declared.record.Event.{Event}
use Rattle.record.specs.declared.record.Event.TheVariants.{CallAdd, CallRemove, ReturnAdd, ReturnRemove}
use Rattle.record.specs.declared.record.Record.{Record}
use Rattle.buffer.specs.Buffer.{put}
use Rattle.table.specs.Table.{is_in}
use Rattle.reader.specs.declared.log.Counts.{Counts}

-- "Byte 0 is the version, 1. Bytes 1 and 2 are n, the number of records, at most 1,024."
abbrev pub log_version : ℕ
log_version = 1

abbrev pub header_length : ℕ
header_length = 3

abbrev pub max_records : ℕ
max_records = 1024

-- the most bytes of a readable log: the header and 1,024 calls of add, of 12 bytes each
abbrev pub max_length : ℕ
max_length = 12291

-- n, and a log with another n
abbrev pub count_field : List ℕ → ℕ
count_field log = big_endian log 1 2

abbrev pub with_count : ℕ → List ℕ → List ℕ
with_count n log = put 1 (bytes_of 2 n) log

-- the kinds of a call
abbrev pub add_call : ℕ
add_call = 1

abbrev pub remove_call : ℕ
remove_call = 2

-- 1 for a call, 0 for a return
abbrev pub is_call : Event → ℕ
is_call (CallAdd v) = 1
is_call CallRemove = 1
is_call ReturnAdd = 0
is_call (ReturnRemove x) = 0

-- the kind of the call that is pending after an event: a call leaves itself, a return none, 0
abbrev pub leaves : Event → ℕ
leaves (CallAdd v) = add_call
leaves CallRemove = remove_call
leaves ReturnAdd = 0
leaves (ReturnRemove x) = 0

-- the kind of a client's pending (document 01: open) call, 0 if it has none: a call is pending until the next record of its client
unfoldable pub pending_kind : List Record → ℕ → ℕ
pending_kind [] client = 0
pending_kind (r ∷ past) client = if eqb r.client client then leaves r.event else pending_kind past client

-- whether a client's last return has this tick
unfoldable pub returned_at : List Record → ℕ → ℕ → Bool
returned_at [] client tick = false
returned_at (r ∷ past) client tick =
    if not (eqb r.client client) then returned_at past client tick else
    if eqb (is_call r.event) 1 then returned_at past client tick else
    eqb r.tick tick

-- the value that a record calls to be added, none if it calls for no add
abbrev pub value_of : Event → List ℕ
value_of (CallAdd v) = v ∷ []
value_of CallRemove = []
value_of ReturnAdd = []
value_of (ReturnRemove x) = []

-- the values called to be added
unfoldable pub added_values : List Record → List ℕ
added_values [] = []
added_values (r ∷ past) = added_values past ++ value_of r.event

-- the tick of the record before, 0 if there is none
abbrev pub last_tick : List Record → ℕ
last_tick [] = 0
last_tick (r ∷ past) = r.tick

-- 7, 31, 8 and 9: whether anything is wrong with an event of a client whose pending call has this kind, and whose last return has its tick or has not
unfoldable pub event_fault : Event → ℕ → Bool → List ℕ → Result (Unit {0}) Refusal
event_fault (CallAdd v) pending repeats values =
    if not (eqb pending 0) then Err ClientBusy else
    if repeats then Err TickRepeated else
    if is_in v values then Err AddedTwice else
    Ok tt
event_fault CallRemove pending repeats values = if not (eqb pending 0) then Err ClientBusy else if repeats then Err TickRepeated else Ok tt
event_fault ReturnAdd pending repeats values = if not (eqb pending add_call) then Err NoSuchCall else Ok tt
event_fault (ReturnRemove x) pending repeats values = if not (eqb pending remove_call) then Err NoSuchCall else Ok tt

-- 6, 7, 31, 8 and 9: whether anything is wrong with a record behind those before it
unfoldable pub fault : List Record → Record → Result (Unit {0}) Refusal
fault past r =
    if ltb r.tick (last_tick past) then Err TickFell else
    event_fault r.event (pending_kind past r.client) (returned_at past r.client r.tick) (added_values past)

-- what a log is read as: its records, first to last, or a refusal with its index (of `read_partial` below: readable but for 10; of a session,
-- also a refusal by how it stands)
pub data Reading : Type 0 where
  readable : List Record → Reading
  refused : Refusal → ℕ → Reading

-- reading goes on behind a record that is found, and ends at one that is malformed or has a fault
abbrev pub after_decode : Result (Record × ℕ) Refusal → ℕ → (Record → ℕ → Reading) → Reading
after_decode (Ok (r, next)) index rest = rest r next
after_decode (Err refusal) index rest = refused refusal index

abbrev pub unless_fault : Result (Unit {0}) Refusal → ℕ → Reading → Reading
unless_fault (Ok _) index rest = rest
unless_fault (Err refusal) index rest = refused refusal index

-- the records from position `at` on, `left` of them, behind those of the past
unfoldable pub scan : List ℕ → ℕ → ℕ → List Record → Reading
scan log zero at past = if ltb at (length log) then refused WrongBytes (length past) else readable (reverse past)
scan log (suc left) at past =
    after_decode (decode_at log at) (length past)
    (λ r next. unless_fault (fault past r) (length past) (scan log left next (r ∷ past)))

-- a log but for 10
unfoldable pub read_partial : List ℕ → Reading
read_partial log =
    if ltb (length log) header_length then refused WrongBytes 0 else
    if not (eqb (get_or log 0 0) log_version) then refused WrongVersion 0 else
    if ltb max_records (count_field log) then refused TooManyRecords 0 else
    scan log (count_field log) header_length []

-- the clients of records
abbrev pub clients_of : List Record → List ℕ
clients_of records = map (λ r. r.client) records

-- the index of the earliest remove without return, or the number of records if there is none: a call of remove whose client has no later record
unfoldable pub pending_remove : List Record → ℕ
pending_remove [] = 0
pending_remove (r ∷ records) =
    if not (eqb (leaves r.event) remove_call) then suc (pending_remove records) else
    if is_in r.client (clients_of records) then suc (pending_remove records) else
    0

-- the same from an index on: the index of the earliest remove without return that is called there or later, or a number above every index
abbrev pub pending_from : ℕ → List Record → ℕ
pending_from from records = from + pending_remove (drop from records)

-- the index of the second remove without return, or a number above every index: the earliest one after the earliest
abbrev pub second_remove : List Record → ℕ
second_remove records = pending_from (suc (pending_remove records)) records

-- whether a log has an open remove
abbrev pub has_pending_remove : List Record → Bool
has_pending_remove records = ltb (pending_remove records) (length records)

-- 10, the last test. Document 02, change 4: "Refusal 10 is now for a second remove without return, with the index of its call."
abbrev pub complete : Reading → Reading
complete (readable records) =
    if ltb (second_remove records) (length records) then refused RemovePending (second_remove records) else readable records
complete (refused refusal index) = refused refusal index

-- a log: "A log with none of 1 to 10, nor with a refusal that a later change puts before or among them, is readable."
abbrev pub read_log : List ℕ → Reading
read_log log = complete (read_partial log)

-- "Operations are numbered from 0 in the order of their call records": how many there are
unfoldable pub operations : List Record → ℕ
operations [] = 0
operations (r ∷ records) = is_call r.event + operations records

-- the answer of a check: the number of records and of operations, or the refusal with its index
abbrev pub checked : Reading → Result Counts Refused
checked (readable records) = Ok (record { records = length records; operations = operations records })
checked (refused refusal index) = refusing refusal index

-- the bytes of records, one after the other
unfoldable pub encode_all : List Record → List ℕ
encode_all [] = []
encode_all (r ∷ records) = encode r ++ encode_all records

-- records put back into a log
abbrev pub encode_log : List Record → List ℕ
encode_log records = log_version ∷ bytes_of 2 (length records) ++ encode_all records
