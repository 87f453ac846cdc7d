-- From what a check, the kept operations and the writing find out to the answer of an entry.
use Prim.Native.Nat.{ℕ, ◌≤◌, ◌<◌}
use native.Mathlib.Omega.{arith}
use mathlib.Core.Path.{◌≡◌, refl, ◌∙◌}
use mathlib.Core.Bool.{Bool}
use mathlib.Core.List.{List, []}
use lib.ListN.{length}
use Rattle.std.specs.Prelude.{Result}
use Rattle.record.specs.declared.refusal.Refused.{Refused}
use Rattle.reader.specs.Log.{max_records, read_log}
use Rattle.reader.proofs.Laws.{few_operations}
use Rattle.history.specs.Operations.{history_of, operation_at}
use Rattle.history.specs.Table.{TableOf}
use Rattle.history.proofs.Along.{whole_readable, whole_one}
use Rattle.history.proofs.Owning.{operation_known}
use Rattle.projection.specs.Projection.{keeps, projection}
use Rattle.projection.specs.Outcome.{narrow_answer, narrow_leaves}
use Rattle.projection.specs.Marks.{is_set, keeps_in, KeptAre}
use Rattle.projection.specs.Copies.{kept_records, Writes}
use Rattle.projection.proofs.Selecting.{keep_same}
use Rattle.projection.proofs.Projecting.{writes_same}

module _ {log : List ℕ} {n m : ℕ} {table : List ℕ} (of : TableOf log n m table) where
  pub count_small : m ≤ max_records
  count_small = omega (arith, of.counted, few_operations of.whole.records, (whole_readable of.whole).partial.regular.few)

  -- an operation is kept by its entry as by the history that the table holds
  keeps_agree : (empties values : List ℕ) (o : ℕ) → o < m → keeps_in table empties values o ≡ keeps (history_of of.whole.records) empties values o
  keeps_agree empties values o l = rw (of.agree.kind o l, of.agree.value o l) refl

  -- so the records of the marked operations are the projection
  pub writes_projection : {empties values : List ℕ} {kept : List Bool} → KeptAre table m empties values kept
      → {out out' : List ℕ} {r : Result ℕ Refused} → Writes log (kept_records kept) out r out' → Writes log (λ records. projection records empties values) out r out'
  writes_projection {empties} {values} {kept} kept-are writes = writes_same writes (λ records reads. rw (← whole_one of.whole records reads) all)
    where
      all : kept_records kept of.whole.records ≡ projection of.whole.records empties values
      all = keep_same (is_set kept) (keeps (history_of of.whole.records) empties values) of.whole.records alike
        where
          alike : (i : ℕ) → i < length of.whole.records → is_set kept (operation_at of.whole.records i) ≡ keeps (history_of of.whole.records) empties values (operation_at of.whole.records i)
          alike i l =
              let known : operation_at of.whole.records i < m = omega (arith, of.counted, operation_known (whole_readable of.whole).partial.regular i l) in
              kept-are.marked (operation_at of.whole.records i) known ∙ keeps_agree empties values (operation_at of.whole.records i) known

  pub narrow_readable : (values : List ℕ) {out out' : List ℕ} {r : Result ℕ Refused} → Writes log (λ records. projection records [] values) out r out'
      → (r ≡ narrow_answer (read_log log) values out) × (out' ≡ narrow_leaves (read_log log) values out)
  narrow_readable values writes = rw of.whole.reads (writes.answers of.whole.records of.whole.reads, writes.leaves of.whole.records of.whole.reads)
