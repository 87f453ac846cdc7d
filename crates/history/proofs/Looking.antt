-- The loop that looks ahead to the end of a batch, and what is known of the batch from one record to the next.
use Prim.Native.Nat.{ℕ, ◌+◌, ◌-◌, ◌≤◌, ◌<◌}
use native.Mathlib.Omega.{arith}
use native.Mathlib.Decide.{dec_lt}
use mathlib.Core.Path.{◌≡◌, sym, ap, ◌∙◌}
use mathlib.Core.Logic.{◌↔◌}
use mathlib.Core.List.{List}
use lib.ListN.{length, take}
use lib.Seq.{length-take-le}
use Rattle.record.specs.Number.{big_endian}
use Rattle.std.specs.Prelude.{Result, Ok}
use Rattle.record.specs.Record.{decode_at}
use Rattle.record.specs.declared.record.Record.{Record}
use Rattle.record.specs.declared.refusal.Refusal.{Refusal}
use Rattle.record.proofs.Records.{event_least}
use Rattle.reader.specs.Log.{is_call, max_length, operations}
use Rattle.reader.specs.Readable.{record_of, offset_of, Regular}
use Rattle.reader.proofs.Bytes.{Stood, decode_inverts}
use Rattle.reader.proofs.Laws.{few_operations}
use Rattle.history.specs.Table.{Whole}
use Rattle.history.specs.Walks.{Along}
use Rattle.history.specs.declared.walk.Step.{Step}
use Rattle.history.specs.Batches.{BatchOf, Batched, Beside, BatchFound}
use Rattle.history.specs.declared.batches.Batch.{Batch}
use Rattle.history.proofs.Along.{whole_readable, whole_one, along_record, along_here, along_next}
use Rattle.history.proofs.Numbering.{rank_step}

-- no more operations are called than there are records
pub called_few : (records : List Record) (i : ℕ) → i ≤ length records → operations (take i records) ≤ i
called_few records i h = omega (arith, few_operations (take i records), length-take-le i records h)

-- before the first record there is no batch
pub batched_none : (records : List Record) → Batched records 0 (record { stop = 0; returns = 0; calls = 0 })
batched_none records = record { inside = λ l. absurd (omega arith); begins = λ h l j k. absurd (omega arith) }

-- the record after one is in its batch, or begins another
pub batched_next : {records : List Record} {i : ℕ} {b : Batch} → Regular records → i < length records → BatchOf records i b → Batched records (i + 1) b
batched_next {records} {i} {b} regular h batch = record { inside = inside; begins = begins }
  where
    inside : i + 1 < b.stop → BatchOf records (i + 1) b
    inside l =
        let there : i + 1 < length records = omega (arith, batch.within) in
        let same : (record_of records (i + 1)).tick ≡ (record_of records i).tick = omega (arith, (batch.stops (i + 1) there).1 l, regular.ticks i (i + 1) (omega arith) there) in
        record { start = batch.start; starts = rw same batch.starts; stops = rw same batch.stops; within = batch.within; returns = batch.returns; calls = batch.calls }

    begins : i + 1 < length records → b.stop ≤ i + 1 → (j : ℕ) → j < i + 1 → (record_of records j).tick < (record_of records (i + 1)).tick
    begins there l j k =
        let higher : (record_of records (i + 1)).tick ≤ (record_of records i).tick → ⊥ = λ t. omega (arith, (batch.stops (i + 1) there).0 t) in
        omega (arith, regular.ticks j i (omega arith) h)

-- The loop has come to record `stop`, which stands at `at`: the records before it have no higher tick than record i, and call so many operations.
pub record Looking (log : List ℕ) (i end count tick at stop calls : ℕ) : Type 0 where
  pub whole : Whole log end
  pub along : Along log whole.records at stop
  pub later : i < stop
  -- record i begins the batch
  pub here : (record_of whole.records i).tick ≡ tick
  pub begins : (j : ℕ) → j < i → (record_of whole.records j).tick < tick
  pub counted : count ≡ operations (take i whole.records)
  pub same : (j : ℕ) → j < stop → (record_of whole.records j).tick ≤ tick
  pub called : calls ≡ operations (take stop whole.records)

pub looking_starts : {log : List ℕ} {step : Step} {end c : ℕ} {before : Batch} → Beside log step end before → before.stop ≤ step.index
    → is_call step.record.event ≡ c → Looking log step.index end step.called step.record.tick step.next (step.index + 1) (step.called + c)
looking_starts {step = step} beside fresh e =
    let read = whole_readable beside.whole in
    let told = beside.told in
    record {
      whole = beside.whole;
      along = record { readable = read; within = omega (arith, told.there); stands = told.stands };
      later = omega arith;
      here = ap (λ q. q.tick) told.here;
      begins = λ j l. rw told.here at (beside.batched.begins told.there fresh j l);
      counted = told.counted;
      same = λ j l. rw told.here at (read.partial.regular.ticks j step.index (omega arith) told.there);
      called = omega (arith, rank_step beside.whole.records step.index told.there, told.counted, e, ap (λ q. is_call q.event) told.here);
    }

module _ {log : List ℕ} {i end count tick at stop calls : ℕ} (looking : Looking log i end count tick at stop calls) where
  abbrev records : List Record
  records = looking.whole.records

  regular : Regular records
  regular = looking.along.readable.partial.regular

  i_there : i < length records
  i_there = omega (arith, looking.later, looking.along.within)

  pub looking_called : count ≤ i
  looking_called = omega (arith, looking.counted, called_few records i (omega (arith, i_there)))

  pub looking_few : calls ≤ end
  looking_few = omega (arith, looking.called, looking.whole.counted, looking.along.within, called_few records stop looking.along.within)

  module _ (l : stop < end) where
    there : stop < length records
    there = omega (arith, looking.whole.counted)

    -- the record that the loop has come to
    stood : Stood log at (record_of records stop) (offset_of records (stop + 1))
    stood = decode_inverts log at (along_record looking.along there)

    -- its bytes up to its tick are there
    pub looking_fits : (at + 8 ≤ length log) × (length log ≤ max_length)
    looking_fits = (omega (arith, stood.fits, event_least (record_of records stop).event), looking.along.readable.partial.short)

    pub looking_next : {t : ℕ} → t ≡ big_endian log (at + 4) 4 → t ≡ tick → {r : Record} {next c : ℕ} {d : Result (Record × ℕ) Refusal} → d ≡ decode_at log at → d ≡ Ok (r, next)
        → is_call r.event ≡ c → Looking log i end count tick next (stop + 1) (calls + c)
    looking_next read still e f call = record {
      whole = looking.whole;
      along = along_next looking.along there e f;
      later = omega (arith, looking.later);
      here = looking.here;
      begins = looking.begins;
      counted = looking.counted;
      same = λ j k. omega (arith, regular.ticks j stop (omega arith) there, stood.tick, read, still);
      called = omega (arith, rank_step records stop there, looking.called, call, ap (λ q. is_call q.event) (along_here looking.along there e f));
    }

  -- the batch ends with the log, or before a record of another tick
  ended : ((j : ℕ) → stop ≤ j → j < length records → tick < (record_of records j).tick) → BatchFound log i (record { stop = stop; returns = i - count; calls = calls })
  ended behind = record { found = λ all read. rw (← (whole_one looking.whole all read)) batch }
    where
      batch : BatchOf records i (record { stop = stop; returns = i - count; calls = calls })
      batch = record {
        start = i;
        starts = λ j h. start j h (dec_lt j i);
        stops = λ j h. end_of j h (dec_lt j stop);
        within = looking.along.within;
        returns = omega (arith, looking_called, looking.counted);
        calls = looking.called;
      }
        where
          start : (j : ℕ) → j < length records → Dec (j < i) → ((record_of records j).tick < (record_of records i).tick) ↔ (j < i)
          start j h (yes l) = (λ t. l, λ t. omega (arith, looking.begins j l, looking.here))
          start j h (no l) = (λ t. absurd (omega (arith, regular.ticks i j (omega arith) h)), λ t. absurd (l t))

          end_of : (j : ℕ) → j < length records → Dec (j < stop) → ((record_of records j).tick ≤ (record_of records i).tick) ↔ (j < stop)
          end_of j h (yes l) = (λ t. l, λ t. omega (arith, looking.same j l, looking.here))
          end_of j h (no l) = (λ t. absurd (omega (arith, behind j (omega arith) h, looking.here)), λ t. absurd (l t))

  pub looking_ends : end ≤ stop → BatchFound log i (record { stop = stop; returns = i - count; calls = calls })
  looking_ends l = ended (λ j k h. absurd (omega (arith, looking.whole.counted)))

  pub looking_stops : stop < end → {t : ℕ} → t ≡ big_endian log (at + 4) 4 → (t ≡ tick → ⊥) → BatchFound log i (record { stop = stop; returns = i - count; calls = calls })
  looking_stops l {t} read other = ended (λ j k h.
      let higher : (record_of records stop).tick ≡ tick → ⊥ = λ e. other (read ∙ sym (stood l).tick ∙ e) in
      omega (arith, regular.ticks stop j k h, regular.ticks i stop (omega (arith, looking.later)) (there l), looking.here))
