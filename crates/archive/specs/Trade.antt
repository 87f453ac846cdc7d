-- Demand 3's trade: two neighbouring records trade places. Document 01, "Sheet, excerpt, narrowing": "the two records change places whole but for
-- their ticks, no other byte changes". Which may is said in document 02, change 3.
use Rattle.std.specs.Prelude.{ℕ, zero, suc, ◌+◌, ◌<◌, ◌≡◌, List, [], ◌∷◌, length}
use Rattle.record.specs.declared.record.Record.{Record}
use Rattle.reader.specs.Log.{readable, read_log, is_call, encode_log}
use Rattle.reader.specs.Readable.{record_of}

-- a record with another tick
abbrev pub with_tick : ℕ → Record → Record
with_tick tick r = record { client = r.client; tick = tick; event = r.event }

-- the records with those at an index and the next one in each other's place, where each place keeps its tick
unfoldable pub traded : ℕ → List Record → List Record
traded i [] = []
traded i (r ∷ []) = r ∷ []
traded zero (r ∷ s ∷ records) = with_tick r.tick s ∷ with_tick s.tick r ∷ records
traded (suc i) (r ∷ s ∷ records) = r ∷ traded i (s ∷ records)

-- no record of this sort, 1 for a call and 0 for a return, has the tick of the record at an index or of the next one
abbrev pub NoneHas : List Record → ℕ → ℕ → Type 0
NoneHas records i sort = (j : ℕ) → j < length records → is_call (record_of records j).event ≡ sort
    → ((record_of records j).tick ≡ (record_of records i).tick → ⊥) × ((record_of records j).tick ≡ (record_of records (i + 1)).tick → ⊥)

-- The records at an index and the next one may trade places.
pub data MayTrade (records : List Record) (i : ℕ) : Type 0 where
  -- "Two neighbours of one tick and different clients may now trade places, a call with a return included."
  one_tick : (record_of records i).tick ≡ (record_of records (i + 1)).tick → ((record_of records i).client ≡ (record_of records (i + 1)).client → ⊥) → MayTrade records i
  -- "Two calls of different ticks may trade only if no return has either tick,
  two_calls : is_call (record_of records i).event ≡ 1 → is_call (record_of records (i + 1)).event ≡ 1 → NoneHas records i 0 → MayTrade records i
  -- and two returns only if no call has"
  two_returns : is_call (record_of records i).event ≡ 0 → is_call (record_of records (i + 1)).event ≡ 0 → NoneHas records i 1 → MayTrade records i

-- There are two such records. ("both logs must be readable": that the traded one is, if the other is, is proved and not asked for.)
pub record Tradable (records : List Record) (i : ℕ) : Type 0 where
  pub there : i + 1 < length records
  pub may : MayTrade records i

-- Two neighbouring records of a readable log have traded places.
pub record Traded (log log' : List ℕ) : Type 0 where
  pub records : List Record
  pub reads : read_log log ≡ readable records
  pub place : ℕ
  pub tradable : Tradable records place
  pub bytes : log' ≡ encode_log (traded place records)
