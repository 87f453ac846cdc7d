-- The laws of a readable log, for everything above the reader. specs/Readable.antt says what each part means.
use Prim.Native.Nat.{ℕ, ◌+◌, ◌≤◌, ◌<◌}
use native.Mathlib.Omega.{arith}
use mathlib.Core.Path.{subst, ◌≡◌, refl, ap}
use mathlib.Core.Bool.{Bool, true, false}
use mathlib.Core.Logic.{◌⊎◌, inl, inr}
use mathlib.Core.List.{List, [], ◌++◌}
use lib.ListN.{length, length-reverse}
use lib.Dec.{ltb}
use borrow.Author.Tests.{ltb-false}
use Rattle.std.specs.Prelude.{Ok, Err, if◌then◌else◌}
use Rattle.record.specs.Refusal.{told}
use Rattle.record.specs.declared.refusal.Refusal.{Refusal}
use Rattle.record.specs.declared.refusal.Refusal.TheVariants.{RemovePending}
use Rattle.record.specs.declared.record.Record.{Record}
use Rattle.reader.specs.Log.{max_records, encode_log, Reading, readable, refused, second_remove, read_partial, complete, read_log, operations, checked}
use Rattle.reader.specs.Readable.{Within, record_of, asks, Next, Regular, PartialLog, ReadableLog, Writable}
use Rattle.record.specs.declared.refusal.Refused.{Refused}
use Rattle.reader.specs.declared.log.Counts.{Counts}
use Rattle.reader.proofs.Bounds.{partial_within, log_within}
use Rattle.reader.proofs.Keeping.{operations_few}
use Rattle.reader.proofs.Scanning.{operations_append}
use Rattle.reader.proofs.Encoding.{log_encodes}
use Rattle.reader.proofs.Bytes.{count_law, few_law, stands_law, fills_law, short_law, bytes_law, writable_law}
use Rattle.reader.proofs.Records.{ticks_law, first_law, next_law, rises_law, once_law, follows_law, precedes_law, lone_law}
use Rattle.reader.proofs.Run.{Admits, none, Read, reads, run_admits}
-- The records of a readable log of bytes are orderly, and a log of orderly records is read as them.
pub use Rattle.reader.proofs.Orderly.{readable_orderly, orderly_readable}
-- Bytes that are handed in as one record behind a log are a record's that can be written there exactly if nothing is wrong with them.
pub use Rattle.reader.proofs.Feeding.{RecordBehind, faultless_short, faultless_is_record, record_is_faultless, writable_more}
-- The test for an open remove finds one exactly if there is one.
pub use Rattle.reader.proofs.Records.{none_pending, some_pending}
-- the bytes of records with one more behind them, and how many records take at most
pub use Rattle.reader.proofs.Bytes.{encode_snoc, sizes_most}

-- what holds of the records as they were read, latest first, holds of the log's records
read_regular : {log : List ℕ} {records : List Record} → Read log records → Regular records
read_regular {log} {records} read = record {
  few = few_law read;
  ticks = rw read.are (λ i j l h. ticks_law read.all sound i j l (omega (arith, length-reverse read.all)));
  first = rw read.are (λ j h. first_law read.all sound j (omega (arith, length-reverse read.all)));
  next = rw read.are (next_law read.all sound);
  rises = rw read.are (rises_law read.all sound);
  once = rw read.are (λ i j v l h. once_law read.all sound i j v l (omega (arith, length-reverse read.all)));
}
  where
    sound : Admits read.all
    sound = run_admits read.run none

read_partial_lem : {log : List ℕ} {records : List Record} → Read log records → PartialLog log records
read_partial_lem read = record {
  version = read.version;
  count = count_law read;
  stands = stands_law read;
  fills = fills_law read;
  short = short_law read;
  bytes = bytes_law read;
  writable = writable_law read;
  regular = read_regular read;
}

-- a log that is readable but for 10
pub partial_log : (log : List ℕ) (records : List Record) → read_partial log ≡ readable records → PartialLog log records
partial_log log records e = read_partial_lem (reads log records e)

-- what `complete` lets through it leaves as it is, and no second remove is pending
completed : (reading : Reading) (records : List Record) → complete reading ≡ readable records → (reading ≡ readable records) × (length records ≤ second_remove records)
completed (readable rs) records e = go (ltb (second_remove rs) (length rs)) refl e
  where
    go : (b : Bool) → ltb (second_remove rs) (length rs) ≡ b → (if b then refused RemovePending (second_remove rs) else readable rs) ≡ readable records
        → (readable rs ≡ readable records) × (length records ≤ second_remove records)
    go true t e = cc
    go false t e = let same : rs ≡ records = cc in (e, rw same at (ltb-false (second_remove rs) (length rs) t))
completed (refused refusal index) records e = cc

-- a readable log
pub readable_log : (log : List ℕ) (records : List Record) → read_log log ≡ readable records → ReadableLog log records
readable_log log records e =
    let whole = completed (read_partial log) records e in
    let read : Read log records = reads log records whole.0 in
    record { partial = read_partial_lem read; lone = lone_law records whole.1 }

-- a readable log is one that is readable but for 10
pub readable_is_partial : (log : List ℕ) (records : List Record) → read_log log ≡ readable records → read_partial log ≡ readable records
readable_is_partial log records e = (completed (read_partial log) records e).0

-- Where a check answers with a refusal, what holds of every refused reading and what is told of it holds.
pub where_refused : (reading : Reading) {r : Refused} → checked reading ≡ Err r → (Holds : Reading → Refused → Type 0)
    → ((refusal : Refusal) (index : ℕ) → Holds (refused refusal index) (told refusal index)) → Holds reading r
where_refused (readable records) e Holds all = cc
where_refused (refused refusal index) {r} e Holds all = let same : told refusal index ≡ r = cc in subst (Holds (refused refusal index)) same (all refusal index)

-- what the answer of a check says of the reading behind it
pub checked_readable : (reading : Reading) {counts : Counts} → checked reading ≡ Ok counts → (records : List Record) × (reading ≡ readable records) × (length records ≡ counts.records) × (operations records ≡ counts.operations)
checked_readable (readable records) {counts} e =
    let same : record { records = length records; operations = operations records } ≡ counts = cc in
    (records, refl, ap (λ (c : Counts). c.records) same, ap (λ (c : Counts). c.operations) same)
checked_readable (refused refusal index) e = cc

pub checked_refused : (reading : Reading) {r : Refused} → checked reading ≡ Err r → (refusal : Refusal) × (index : ℕ) × (reading ≡ refused refusal index) × (r ≡ told refusal index)
checked_refused reading e =
    where_refused reading e (λ reading r. (refusal : Refusal) × (index : ℕ) × (reading ≡ refused refusal index) × (r ≡ told refusal index)) (λ refusal index. (refusal, index, refl, refl))

-- a record has a next one of its client, or no later one
pub follows : (records : List Record) (i : ℕ) → ((j : ℕ) × Next records i j) ⊎ ((k : ℕ) → i < k → k < length records → (record_of records k).client ≡ (record_of records i).client → ⊥)
follows = follows_law

-- a return has its call before it: the record before it of its client, which leaves what the return asks for by `next`
pub called : {records : List Record} → Regular records → (j : ℕ) → j < length records → (asks (record_of records j).event ≡ 0 → ⊥) → (i : ℕ) × Next records i j
called {records} regular j h n = go (precedes_law records j h)
  where
    go : ((i : ℕ) × Next records i j) ⊎ ((k : ℕ) → k < j → (record_of records k).client ≡ (record_of records j).client → ⊥) → (i : ℕ) × Next records i j
    go (inl before) = before
    go (inr alone) = absurd (n (regular.first j h alone))

-- the other direction: a log of records that can be written is read as those records
pub written_log : (records : List Record) → length records ≤ max_records → Writable [] records → read_partial (encode_log records) ≡ readable records
written_log = log_encodes

-- a log that is read is short, and the number and index of a refusal are small; the same but for 10
pub within : (log : List ℕ) → Within (read_log log)
within = log_within

pub within_partial : (log : List ℕ) → Within (read_partial log)
within_partial = partial_within

-- there are no more operations than records
pub few_operations : (records : List Record) → operations records ≤ length records
few_operations = operations_few

-- the operations of records and of those behind them
pub operations_join : (rs ss : List Record) → operations (rs ++ ss) ≡ operations rs + operations ss
operations_join = operations_append
