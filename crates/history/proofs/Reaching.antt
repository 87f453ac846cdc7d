-- The loop that fills the table, and what an answer of the reader says of the log.
use Prim.Native.Nat.{ℕ, ◌+◌, ◌≤◌}
use native.Mathlib.Omega.{arith}
use mathlib.Core.Path.{◌≡◌, refl, sym, ap, ◌∙◌}
use mathlib.Core.List.{List}
use lib.ListN.{length}
use Rattle.std.specs.Prelude.{Result, Ok, Err}
use Rattle.record.specs.declared.record.Record.{Record}
use Rattle.record.specs.declared.refusal.Refused.{Refused}
use Rattle.reader.specs.Log.{read_log, checked}
use Rattle.reader.specs.declared.log.Counts.{Counts}
use Rattle.reader.proofs.Laws.{checked_readable, where_refused}
use Rattle.history.specs.Batches.{Batched, Beside, PlaceFound}
use Rattle.history.specs.declared.batches.Batch.{Batch}
use Rattle.history.specs.declared.batches.Place.{Place}
use Rattle.history.specs.Table.{table_length, Filled, Room, Noted, Tabulated, Whole}
use Rattle.history.specs.Walks.{Stepped}
use Rattle.history.specs.declared.walk.Step.{Step}
use Rattle.history.specs.declared.walk.Walk.{Walk}
use Rattle.history.proofs.Walking.{Keeping, keeping_whole, keeping_few, keeping_ends, keeping_told, keeping_next}
use Rattle.history.proofs.Looking.{batched_none}
use Rattle.history.proofs.Filling.{filled_none, filled_all}

-- What the loop of `fill` keeps: the table holds the first n records, and the next one is in this batch, or begins another.
abbrev pub Reached : List ℕ → List ℕ → Batch → List Record → ℕ → Type 0
Reached old table batch records n = Filled records old n table × Batched records n batch

pub reached_start : (table : List ℕ) → length table ≡ table_length → (records : List Record) → Reached table table (record { stop = 0; returns = 0; calls = 0 }) records 0
reached_start table t records = (filled_none records table t, batched_none records)

module _ {log : List ℕ} {size : ℕ} {old table : List ℕ} {batch : Batch} {walk : Walk} (reached : Keeping log size (Reached old table batch) walk) where
  pub reached_end : walk.records ≤ walk.index → Tabulated (read_log log) old table
  reached_end l = let whole = keeping_whole reached in rw whole.reads (filled_all (keeping_ends reached l whole.records whole.reads).0)

  module _ {step : Step} {walk' : Walk} (stepped : Stepped walk step walk') where
    -- there is room for what the step tells
    pub reached_room : Room step (size + 1) table
    reached_room =
        let whole = keeping_whole reached in
        let told = keeping_told reached stepped whole.records whole.reads in
        record { end_small = omega (arith, keeping_few reached); owner_small = stepped.owner_small; table_sized = told.1.0.table_sized }

    -- and the position of its record can be found
    pub reached_beside : Beside log step size batch
    reached_beside =
        let whole = keeping_whole reached in
        let told = keeping_told reached stepped whole.records whole.reads in
        record { whole = whole; told = told.0; batched = told.1.1 }

    pub reached_next : {p : Place} → PlaceFound log step.index p → {table' : List ℕ} → Noted step p.position (size + 1) table table'
        → Keeping log size (Reached old table' p.batch) walk'
    reached_next found noted = keeping_next reached stepped (λ records reads regular counted told before.
        (noted.kept records old regular (ap (λ n. n + 1) counted) told (found.at records reads) before.0, found.batched records reads))

-- what the answer of a check says of the log, and of the table that is then left alone
pub whole_log : {log : List ℕ} {answer : Result Counts Refused} {counts : Counts} → answer ≡ checked (read_log log) → answer ≡ Ok counts → Whole log counts.records
whole_log {log} e f =
    let read = checked_readable (read_log log) (sym e ∙ f) in
    record { records = read.0; reads = read.1; counted = read.2 }

pub left_alone : (log : List ℕ) {answer : Result Counts Refused} {r : Refused} → answer ≡ checked (read_log log) → answer ≡ Err r → (table : List ℕ) → Tabulated (read_log log) table table
left_alone log e f table = where_refused (read_log log) (sym e ∙ f) (λ reading r. Tabulated reading table table) (λ refusal index. refl)
