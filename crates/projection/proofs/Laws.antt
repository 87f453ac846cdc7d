-- The theorems of this crate: the records that a projection keeps are those of a readable log again, its history is a part of the log's history,
-- and an excerpt is judged as the log was.
use Prim.Native.Nat.{ℕ, ◌≤◌, ◌<◌}
use native.Mathlib.Omega.{arith}
use native.Mathlib.Decide.{ℕ_discrete}
use mathlib.Core.Path.{◌≡◌, refl, sym, ap, ◌∙◌}
use mathlib.Core.Bool.{Bool, true, false}
use mathlib.Core.Logic.{◌⊎◌, inl, inr}
use mathlib.Core.List.{List, [], ◌∷◌, ◌++◌}
use lib.ListN.{length, length-append}
use borrow.Author.Tests.{ne_eqb}
use Rattle.std.specs.Prelude.{Ok, if◌then◌else◌}
use Rattle.record.specs.Number.{bytes_of, Bytes}
use Rattle.record.specs.Record.{encode}
use Rattle.record.specs.declared.record.Record.{Record}
use Rattle.buffer.specs.Buffer.{written}
use Rattle.buffer.specs.Output.{writing}
use Rattle.record.specs.Refusal.{refusing}
use Rattle.record.specs.declared.refusal.Refusal.TheVariants.{NoPattern, RemoveUnreturned}
use Rattle.reader.specs.Log.{max_length, encode_all, readable, read_log, encode_log, operations, has_pending_remove}
use Rattle.table.specs.Table.{is_in}
use Rattle.reader.specs.Readable.{ReadableLog, Orderly}
use Rattle.reader.proofs.Laws.{sizes_most, readable_log, readable_orderly, orderly_readable}
use Rattle.history.specs.Object.{Queue}
use Rattle.history.specs.History.{History, add, empty_remove, no_kind, RemovesReturned}
use Rattle.history.specs.Each.{Each}
use Rattle.history.specs.Operations.{call_index, history_of, operation_of, operation_at}
use Rattle.history.proofs.Laws.{history_lawful, history_returned, history_none_pending}
use Rattle.history.proofs.Owning.{operation_own, operation_known}
use Rattle.history.proofs.Queues.{returned_complete}
use Rattle.history.specs.Linearization.{Linearization}
use Rattle.violations.specs.Violations.{NoViolation}
use Rattle.violations.specs.Verdict.{FirstViolation, SomeViolation, Verdict}
use Rattle.violations.specs.Parts.{HasValue, Part, Kept}
use Rattle.violations.proofs.Laws.{first_violation, first_violation_one, occurs_kinded, excluded, part_verdict}
use Rattle.projection.specs.Projection.{keep_records, values_of, keeps, projection, narrowed, excerpted}
use Rattle.projection.specs.Outcome.{excerpt_answer_of, excerpt_leaves_of, excerpt_answer, excerpt_leaves}
use Rattle.projection.proofs.Sizes.{log_length}
use Rattle.projection.proofs.Selecting.{keep_picks, kept_together, keep_same}
use Rattle.projection.proofs.Picking.{Picked}
use Rattle.projection.proofs.Turns.{Together, picked_orderly}
use Rattle.projection.proofs.Choosing.{keeps_all_of_value, keeps_listed, each_in}
-- What has no kind is never kept.
pub use Rattle.projection.proofs.Choosing.{keeps_kinded}
use Rattle.projection.proofs.Parts.{OnValues, SameRecords, picked_part, picked_kept, picked_only}

module _ (records : List Record) (empties values : List ℕ) where
  -- whether the record with an index is kept
  abbrev keeps_record : ℕ → Bool
  keeps_record i = keeps (history_of records) empties values (operation_at records i)

  -- the kept records are picked by this
  picks : Picked keeps_record records (projection records empties values)
  picks = keep_picks (keeps (history_of records) empties values) [] records

  -- a call is kept with its return
  together : Orderly records → Together keeps_record records
  together orderly = kept_together orderly (keeps (history_of records) empties values)

  -- the call of an operation is kept exactly if the operation is
  keeps_call : (o : ℕ) → o < operations records → keeps_record (call_index records o) ≡ keeps (history_of records) empties values o
  keeps_call o h = ap (keeps (history_of records) empties values) (operation_own records o h)

  -- with an operation all operations on its value are kept
  on_values : OnValues keeps_record records
  on_values o q x y e k = keeps_call o x.known ∙ keeps_all_of_value (history_of records) empties values o q x y e (sym (keeps_call q y.known) ∙ k)

-- The records that are kept are those of a readable log again.
pub projection_orderly : {records : List Record} (empties values : List ℕ) → Orderly records → Orderly (projection records empties values)
projection_orderly {records} empties values orderly = picked_orderly orderly (together records empties values orderly) (picks records empties values)

-- the log of orderly records
orderly_log : {records : List Record} → Orderly records → ReadableLog (encode_log records) records
orderly_log {records} orderly = readable_log (encode_log records) records (orderly_readable records orderly)

-- The history of the kept records is a part of the history of all.
pub projection_part : {records : List Record} (empties values : List ℕ) → Orderly records → Part (history_of records) (history_of (projection records empties values))
projection_part {records} empties values orderly =
    picked_part (together records empties values orderly) (picks records empties values) (orderly_log orderly).partial (orderly_log (projection_orderly empties values orderly)).partial (on_values records empties values)

-- It keeps the operations that are to be kept
pub projection_keeps : {records : List Record} (empties values : List ℕ) (orderly : Orderly records) → (o : ℕ) → o < operations records
    → keeps (history_of records) empties values o ≡ true → Kept (projection_part empties values orderly) o
unfolding projection_part
projection_keeps {records} empties values orderly o h k = picked_kept _ _ _ _ _ o h (keeps_call records empties values o h ∙ k)

-- and no others, with their records as they were.
pub projection_only : {records : List Record} (empties values : List ℕ) (orderly : Orderly records) → (q : ℕ) → q < operations (projection records empties values)
    → (keeps (history_of records) empties values ((projection_part empties values orderly).to q) ≡ true) × SameRecords records (projection records empties values) ((projection_part empties values orderly).to q) q
unfolding projection_part
projection_only {records} empties values orderly q h =
    let (marked, same) = picked_only _ _ _ _ _ q h in
    (sym (keeps_call records empties values ((projection_part empties values orderly).to q) ((projection_part empties values orderly).known q h)) ∙ marked, same)

-- What has no kind is not kept, so every remove of the kept records has returned.
pub projection_returned : {records : List Record} (empties values : List ℕ) → Orderly records → RemovesReturned (history_of (projection records empties values))
projection_returned {records} empties values orderly q h =
    let part = projection_part empties values orderly in
    omega (arith, part.kind q h, keeps_kinded (history_of records) empties values (part.to q) (projection_only empties values orderly q h).0)

-- "Narrowing .. keeps all records of operations on those values and nothing else": neither it nor an excerpt has an open remove.
pub projection_none_pending : {records : List Record} (empties values : List ℕ) → Orderly records → has_pending_remove (projection records empties values) ≡ false
projection_none_pending empties values orderly = history_none_pending (orderly_log (projection_orderly empties values orderly)) (projection_returned empties values orderly)

-- An excerpt keeps all operations that are listed, if they have a kind.
pub excerpt_keeps : {records : List Record} (listed : List ℕ) (orderly : Orderly records)
    → Each (λ o. (o < (history_of records).count) × (add ≤ (history_of records).kind o)) listed
    → Each (Kept (projection_part listed (values_of (history_of records) listed) orderly)) listed
excerpt_keeps {records} listed orderly =
    each_in listed (λ o i k. projection_keeps listed (values_of (history_of records) listed) orderly o k.0 (keeps_listed (history_of records) listed o k.1 i))

-- The excerpt of a log with a pattern is a readable log, and its verdict has the number of that pattern.
pub excerpt_verdict : (log : List ℕ) (records : List Record) → read_log log ≡ readable records → Bytes log → {n : ℕ} {listed : List ℕ}
    → FirstViolation Queue (history_of records) n listed
    → (read_log (encode_log (excerpted records listed)) ≡ readable (excerpted records listed))
    × ((m : ℕ) (ys : List ℕ) → Verdict Queue (history_of (excerpted records listed)) m ys → m ≡ n)
excerpt_verdict log records reads bytes {n} {listed} first =
    let read : ReadableLog log records = readable_log log records reads in
    let orderly : Orderly records = readable_orderly read bytes in
    let values : List ℕ = values_of (history_of records) listed in
    let kept : Orderly (excerpted records listed) = projection_orderly listed values orderly in
    let kept_read = orderly_log kept in
    let part = projection_part listed values orderly in
    let keeps = excerpt_keeps listed orderly (occurs_kinded first.occurs) in (
      orderly_readable (excerpted records listed) kept,
      λ m ys verdict. sym (part_verdict Queue part (history_lawful read) (history_lawful kept_read) (projection_returned listed values orderly) first keeps verdict),
    )

-- A log that is written out of a log is no longer than a log may be.
pub projection_short : (log : List ℕ) (records : List Record) → read_log log ≡ readable records → (empties values : List ℕ) → length (encode_log (projection records empties values)) ≤ max_length
projection_short log records reads empties values =
    let kept : List Record = projection records empties values in
    omega (arith, log_length kept, sizes_most kept, (picks records empties values).fewer, (readable_log log records reads).partial.regular.few)

-- "Narrowing to a list of values keeps all records of operations on those values and nothing else": what is written is a readable log.
pub narrowed_readable : (log : List ℕ) (records : List Record) → read_log log ≡ readable records → Bytes log → (values : List ℕ) → read_log (encode_log (narrowed records values)) ≡ readable (narrowed records values)
narrowed_readable log records reads bytes values = orderly_readable (narrowed records values) (projection_orderly [] values (readable_orderly (readable_log log records reads) bytes))

-- "repeats in the list change nothing", nor do values that the log lacks: lists that hold the same of its values narrow a log to the same records. What
-- has no kind has no value, nor has an empty remove.
pub narrowed_alike : (log : List ℕ) (records : List Record) → read_log log ≡ readable records → (values others : List ℕ)
    → ((o : ℕ) → HasValue (history_of records) o → is_in ((history_of records).value o) values ≡ is_in ((history_of records).value o) others) → narrowed records values ≡ narrowed records others
narrowed_alike log records reads values others same =
    keep_same (keeps (history_of records) [] values) (keeps (history_of records) [] others) records
    (λ i l. kept_alike (operation_at records i) (operation_known read.partial.regular i l))
  where
    h : History
    h = history_of records

    read : ReadableLog log records
    read = readable_log log records reads

    kept_alike : (o : ℕ) → o < operations records → keeps h [] values o ≡ keeps h [] others o
    kept_alike o known = by (ℕ_discrete (h.kind o) no_kind) (ℕ_discrete (h.kind o) empty_remove)
      where
        by : Dec (h.kind o ≡ no_kind) → Dec (h.kind o ≡ empty_remove) → keeps h [] values o ≡ keeps h [] others o
        by (yes k) d = rw k refl
        by (no n) (yes k) = rw k refl
        by (no n) (no k) =
            let valued : HasValue h o = record { known = known; valued = omega (arith, (history_lawful read).kinds o known) } in
            rw (ne_eqb _ _ n, ne_eqb _ _ k, same o valued) refl

-- 32: "It refuses with 32 an excerpt of a log with an open remove, before 23", whatever the verdict: so it is answered, and nothing is written.
pub excerpt_pending : (log : List ℕ) (records : List Record) → read_log log ≡ readable records → has_pending_remove records ≡ true → (out : List ℕ)
    → (excerpt_answer (read_log log) out ≡ refusing RemoveUnreturned 0) × (excerpt_leaves (read_log log) out ≡ out)
excerpt_pending log records reads pending out = rw (reads, pending) (refl, refl)

-- So an excerpt is written of no log with an open remove.
pub excerpt_written : (log : List ℕ) (records : List Record) → read_log log ≡ readable records → (out : List ℕ) {n : ℕ}
    → excerpt_answer (read_log log) out ≡ Ok n → has_pending_remove records ≡ false
excerpt_written log records reads out {n} e = by (has_pending_remove records) refl
  where
    by : (b : Bool) → has_pending_remove records ≡ b → b ≡ false
    by false returned = refl
    by true pending =
        let z : refusing RemoveUnreturned 0 ≡ Ok n = sym (excerpt_pending log records reads pending out).0 ∙ e in cc

-- 23: "excerpt where the verdict is an order": so it is answered, and nothing is written.
pub excerpt_of_order : (log : List ℕ) (records : List Record) → read_log log ≡ readable records → has_pending_remove records ≡ false → (order : List ℕ)
    → Linearization Queue (history_of records) order → (out : List ℕ)
    → (excerpt_answer (read_log log) out ≡ refusing NoPattern 0) × (excerpt_leaves (read_log log) out ≡ out)
excerpt_of_order log records reads returned order legal out = rw (reads, returned) (go (first_violation Queue (history_of records)))
  where
    go : (found : SomeViolation Queue (history_of records) ⊎ NoViolation Queue (history_of records))
        → (excerpt_answer_of records found out ≡ refusing NoPattern 0) × (excerpt_leaves_of records found out ≡ out)
    go (inl (n, listed, first)) =
        let read = readable_log log records reads in
        absurd (excluded (history_lawful read) (returned_complete (history_returned read returned) legal) first.occurs)
    go (inr clean) = (refl, refl)

-- With a pattern the excerpt of its operations is written, or 24 is answered.
pub excerpt_of_pattern : (log : List ℕ) (records : List Record) → read_log log ≡ readable records → has_pending_remove records ≡ false → {n : ℕ} {listed : List ℕ}
    → FirstViolation Queue (history_of records) n listed → (out : List ℕ)
    → (excerpt_answer (read_log log) out ≡ writing (encode_log (excerpted records listed)) out) × (excerpt_leaves (read_log log) out ≡ written (encode_log (excerpted records listed)) out)
excerpt_of_pattern log records reads returned {n} {listed} first out = rw (reads, returned) (go (first_violation Queue (history_of records)))
  where
    go : (found : SomeViolation Queue (history_of records) ⊎ NoViolation Queue (history_of records))
        → (excerpt_answer_of records found out ≡ writing (encode_log (excerpted records listed)) out) × (excerpt_leaves_of records found out ≡ written (encode_log (excerpted records listed)) out)
    go (inl (m, other, found)) =
        let same : other ≡ listed = (first_violation_one found first).1 in
        (ap (λ l. writing (encode_log (excerpted records l)) out) same, ap (λ l. written (encode_log (excerpted records l)) out) same)
    go (inr clean) = absurd (clean n listed first.occurs)

-- What is written out of a log is no longer than the log.
kept_no_longer : (keep : ℕ → Bool) (past records : List Record) → length (encode_all (keep_records keep past records)) ≤ length (encode_all records)
unfolding keep_records encode_all
kept_no_longer keep past [] = omega arith
kept_no_longer keep past (r ∷ records) = by (keep (operation_of past r)) (kept_no_longer keep (r ∷ past) records)
  where
    by : (b : Bool) → length (encode_all (keep_records keep (r ∷ past) records)) ≤ length (encode_all records)
        → length (encode_all (if b then r ∷ keep_records keep (r ∷ past) records else keep_records keep (r ∷ past) records)) ≤ length (encode r ++ encode_all records)
    by true l = omega (arith, length-append (encode r) (encode_all (keep_records keep (r ∷ past) records)), length-append (encode r) (encode_all records))
    by false l = omega (arith, length-append (encode r) (encode_all records))

pub projection_fits : (log : List ℕ) (records : List Record) → read_log log ≡ readable records → Bytes log → (empties values : List ℕ) → length (encode_log (projection records empties values)) ≤ length log
unfolding bytes_of
projection_fits log records reads bytes empties values =
    omega (arith, kept_no_longer (keeps (history_of records) empties values) [] records, ap length ((readable_log log records reads).partial.bytes bytes))
