-- A walk along the records of a readable log.
use Prim.Native.Nat.{ℕ, ◌+◌, ◌≤◌, ◌<◌}
use native.Mathlib.Omega.{arith}
use mathlib.Core.Path.{◌≡◌, refl, sym, ap, subst, ◌∙◌}
use mathlib.Core.List.{List}
use lib.ListN.{length}
use Rattle.std.specs.Prelude.{Result, Ok}
use Rattle.record.specs.Record.{decode_at}
use Rattle.record.specs.declared.record.Record.{Record}
use Rattle.record.specs.declared.refusal.Refusal.{Refusal}
use Rattle.map.specs.declared.map.Map.{Map}
use Rattle.reader.specs.Log.{max_records, readable, read_log}
use Rattle.reader.specs.Readable.{record_of, Regular}
use Rattle.history.specs.Owners.{Owned}
use Rattle.history.specs.Table.{Whole}
use Rattle.history.specs.Steps.{StepOf}
use Rattle.history.specs.Walks.{Walking, Begun, Stepped}
use Rattle.reader.proofs.Laws.{readable_log}
use Rattle.history.specs.declared.walk.Step.{Step}
use Rattle.history.specs.declared.walk.Walk.{Walk}
use Rattle.history.proofs.Along.{along_here, along_next, whole_one, whole_readable}
use Rattle.history.proofs.Tracing.{traced_room}

module _ {walk : Walk} (walking : Walking walk) (l : walk.index < walk.records) where
  abbrev all : List Record
  all = walking.whole.records

  regular : Regular all
  regular = walking.along.readable.partial.regular

  below : walk.index < length all
  below = omega (arith, walking.whole.counted)

  pub walking_small : walk.index < max_records
  walking_small = omega (arith, regular.few, below)

  -- there is room for the caller of a record
  pub walking_room : walk.callers.count < max_records
  walking_room = traced_room below regular.few walking.traced

  -- whose operation is found
  module _ {r : Record} {next : ℕ} {d : Result (Record × ℕ) Refusal} (e : d ≡ decode_at walk.log.now walk.at) (f : d ≡ Ok (r, next))
      {o : ℕ} {callers : Map} (owned : Owned r walk.callers o callers) where
    here : record_of all walk.index ≡ r
    here = along_here walking.along below e f

    abbrev found : Step
    found = record { «record» = r; index = walk.index; next = next; called = walk.callers.count; operation = o }

    told : StepOf all found
    told = record {
      there = below;
      here = here;
      stands = (along_next walking.along below e f).stands;
      counted = walking.traced.counted;
      owner = owned.is all walk.index regular below here walking.traced;
    }

    pub walking_next : Stepped walk found (record walk { index = walk.index + 1; at = next; callers = callers })
    walking_next = record {
      log_is = refl;
      records_are = refl;
      index_is = refl;
      next_is = refl;
      walking = record {
        whole = walking.whole;
        along = along_next walking.along below e f;
        traced = owned.traced all walk.index regular below here walking.traced;
      };
      within = l;
      index_small = walking_small;
      owner_small = owned.small;
      told = λ records reads. rw (whole_one walking.whole records reads) at told;
    }

-- A loop has walked up to a record, and keeps this property of the records before it.
pub record Keeping (log : List ℕ) (size : ℕ) (P : List Record → ℕ → Type 0) (walk : Walk) : Type 0 where
  pub log_is : walk.log.now ≡ log
  pub records_are : walk.records ≡ size
  pub walking : Walking walk
  pub kept : (records : List Record) → read_log log ≡ readable records → P records walk.index

pub keeping_starts : {log : List ℕ} {size : ℕ} {P : List Record → ℕ → Type 0} {walk : Walk} → Begun log size walk → ((records : List Record) → P records 0)
    → Keeping log size P walk
keeping_starts begun none =
    record { log_is = begun.log_is; records_are = begun.records_are; walking = begun.walking; kept = λ records reads. rw begun.first (none records) }

module _ {log : List ℕ} {size : ℕ} {P : List Record → ℕ → Type 0} {walk : Walk} (keeping : Keeping log size P walk) where
  pub keeping_whole : Whole log size
  keeping_whole = rw (keeping.log_is, keeping.records_are) at keeping.walking.whole

  pub keeping_few : size ≤ max_records
  keeping_few = omega (arith, keeping_whole.counted, (whole_readable keeping_whole).partial.regular.few)

  -- what is kept of all records in the end
  pub keeping_ends : walk.records ≤ walk.index → (records : List Record) → read_log log ≡ readable records → P records (length records)
  keeping_ends l records reads = subst (P records) last (keeping.kept records reads)
    where
      last : walk.index ≡ length records
      last =
          let same = whole_one keeping.walking.whole records (ap read_log keeping.log_is ∙ reads) in
          omega (arith, keeping.walking.along.within, keeping.walking.whole.counted, ap length same)

  module _ {step : Step} {walk' : Walk} (stepped : Stepped walk step walk') where
    -- what a step tells, and what was kept before it
    pub keeping_told : (records : List Record) → read_log log ≡ readable records → StepOf records step × P records step.index
    keeping_told records reads =
        (stepped.told records (ap read_log keeping.log_is ∙ reads), subst (P records) (sym stepped.index_is) (keeping.kept records reads))

    pub keeping_next : {Q : List Record → ℕ → Type 0}
        → ((records : List Record) → read_log log ≡ readable records → Regular records → length records ≡ size → StepOf records step → P records step.index → Q records (step.index + 1))
        → Keeping log size Q walk'
    keeping_next {Q} more = record {
      log_is = ap (λ l. l.now) stepped.log_is ∙ keeping.log_is;
      records_are = stepped.records_are ∙ keeping.records_are;
      walking = stepped.walking;
      kept = λ records reads.
          let told = keeping_told records reads in
          let same = whole_one keeping_whole records reads in
          let regular = (readable_log log records reads).partial.regular in
          subst (Q records) behind (more records reads regular (ap length (sym same) ∙ keeping_whole.counted) told.0 told.1);
    }
      where
        behind : step.index + 1 ≡ walk'.index
        behind = omega (arith, stepped.index_is, stepped.next_is)
