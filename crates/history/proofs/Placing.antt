-- The position of a record, by its batch or as the only one of its tick, and what is known then of the next one.
use Prim.Native.Nat.{ℕ, ◌+◌, ◌-◌, ◌≤◌, ◌<◌}
use native.Mathlib.Omega.{arith}
use native.Mathlib.Decide.{ℕ_discrete}
use mathlib.Core.Path.{◌≡◌, refl, ap, ◌∙◌}
use mathlib.Core.List.{List}
use lib.ListN.{length}
use Rattle.record.specs.Number.{big_endian}
use Rattle.record.specs.declared.record.Record.{Record}
use Rattle.reader.specs.Log.{is_call, max_records, max_length}
use Rattle.reader.specs.Readable.{record_of, Regular}
use Rattle.reader.proofs.Events.{is_call_small}
use Rattle.history.specs.Positions.{position_of}
use Rattle.history.specs.Batches.{BatchOf, Batched, Beside, BatchFound, PlaceFound}
use Rattle.history.specs.declared.batches.Batch.{Batch}
use Rattle.history.specs.declared.batches.Place.{Place}
use Rattle.history.specs.declared.walk.Step.{Step}
use Rattle.history.proofs.Along.{whole_readable, whole_one}
use Rattle.history.proofs.Batching.{start_within, call_position, return_position_lem}
use Rattle.history.proofs.Looking.{called_few, batched_next, Looking, looking_starts, looking_fits, looking_stops}

module _ {log : List ℕ} {step : Step} {end : ℕ} {before : Batch} (beside : Beside log step end before) where
  abbrev i : ℕ
  i = step.index

  abbrev count : ℕ
  count = step.called

  abbrev r : Record
  r = step.record

  abbrev records : List Record
  records = beside.whole.records

  regular : Regular records
  regular = (whole_readable beside.whole).partial.regular

  pub placing_called : (count ≤ i) × (i < max_records)
  placing_called = (omega (arith, beside.told.counted, called_few records i (omega (arith, beside.told.there))), omega (arith, regular.few, beside.told.there))

  sort : is_call (record_of records i).event ≡ is_call r.event
  sort = ap (λ q. is_call q.event) beside.told.here

  -- what holds of the records of the log
  placed : {p : Place} → position_of records i ≡ p.position → Batched records (i + 1) p.batch → PlaceFound log i p
  placed at batched = record {
    at = λ all read. rw (← (whole_one beside.whole all read)) at;
    batched = λ all read. rw (← (whole_one beside.whole all read)) batched;
  }

  module _ {b : Batch} (found : BatchFound log i b) where
    batch : BatchOf records i b
    batch = found.found records beside.whole.reads

    pub placing_few : (b.returns ≤ max_records) × (b.calls ≤ max_records)
    placing_few = (
      omega (arith, regular.few, beside.told.there, batch.returns, start_within beside.told.there batch),
      omega (arith, regular.few, batch.calls, batch.within, called_few records b.stop batch.within),
    )

    call_at : is_call r.event ≡ 1 → position_of records i ≡ b.returns + count
    call_at c = omega (arith, beside.told.counted, call_position regular beside.told.there batch (sort ∙ c))

    return_at_lem : is_call r.event ≡ 0 → position_of records i ≡ b.calls + (i - count)
    return_at_lem c = omega (arith, beside.told.counted, placing_called, return_position_lem regular beside.told.there batch (sort ∙ c))

    pub placed_call : is_call r.event ≡ 1 → PlaceFound log i (record { position = b.returns + count; batch = b })
    placed_call c = placed (call_at c) (batched_next regular beside.told.there batch)

    pub placed_return : is_call r.event ≡ 0 → PlaceFound log i (record { position = b.calls + (i - count); batch = b })
    placed_return c = placed (return_at_lem c) (batched_next regular beside.told.there batch)

  -- a record that begins a batch, where the one after it has another tick
  module _ (begins : before.stop ≤ i) (more : i + 1 < end) where
    looking : Looking log i end count r.tick step.next (i + 1) (count + is_call r.event)
    looking = looking_starts beside begins refl

    pub placing_fits : (step.next + 8 ≤ length log) × (length log ≤ max_length)
    placing_fits = looking_fits looking more

    pub placed_alone : {t : ℕ} → t ≡ big_endian log (step.next + 4) 4 → (t ≡ r.tick → ⊥) → PlaceFound log i (record { position = i; batch = before })
    placed_alone read other = placed (by (ℕ_discrete (is_call r.event) 1)) (record { inside = λ l. absurd (omega arith); begins = λ h l. (batched_next regular beside.told.there (batch alone)).begins h (omega arith) })
      where
        alone : BatchFound log i (record { stop = i + 1; returns = i - count; calls = count + is_call r.event })
        alone = looking_stops looking more read other

        by : Dec (is_call r.event ≡ 1) → position_of records i ≡ i
        by (yes c) = omega (arith, placing_called, call_at alone c)
        by (no n) = let c : is_call r.event ≡ 0 = omega (arith, is_call_small r.event) in omega (arith, placing_called, return_at_lem alone c)
