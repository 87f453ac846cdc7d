-- `read_records` meets its contract: the outcome of `read_all` says what the log is read as.
use Prim.Native.Nat.{ℕ}
use mathlib.Core.Path.{◌≡◌}
use native.Mathlib.Omega.{arith}
use Rattle.std.proofs.Common.{rules, Err}
use Rattle.record.specs.Refusal.{told}
use Rattle.record.specs.declared.refusal.Refusal.{Refusal}
use Rattle.reader.proofs.Scanning.{passed_all, passed_not, all_coded, first_small, none_surveyed, all_surveyed}
use Rattle.reader.proofs.scan.read_records.Goals as goal

pub returns-in_err-map_err : goal.returns-in_err-map_err
returns-in_err-map_err c =
    let same : c.from_residual.result ≡ Err c.in_err-map_err.field-0.0 = search rules in
    let was : (refusal : Refusal) × (index : ℕ) × (c.read_all.result ≡ Err (refusal, index)) × (c.in_err-map_err.field-0.0 ≡ told refusal index) = search rules in
    rw (same, was.3) (passed_not c.read_all.ensures was.2)

pub returns-in_default : goal.returns-in_default
returns-in_default c = none_surveyed (passed_all c.read_all.ensures (search rules)) c.in_default.ensures

pub overflow_add-first : goal.overflow_add-first
overflow_add-first c = omega (arith, first_small (passed_all c.read_all.ensures (search rules)) (rw c.in-Some.is at c.earliest_remove.ensures), c.requires)

pub earliest_remove-requires-2 : goal.earliest_remove-requires-2
earliest_remove-requires-2 c = all_coded (passed_all c.read_all.ensures (search rules))

pub returns : goal.returns
returns c = all_surveyed (passed_all c.read_all.ensures (search rules)) (rw c.in-Some.is at c.earliest_remove.ensures) _ c.earliest_remove-2.ensures
