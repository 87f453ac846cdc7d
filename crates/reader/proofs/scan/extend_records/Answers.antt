-- `extend_records` meets its contract: the outcome of `read_all` says what the log is read as, and `fault_behind` what is wrong with the bytes.
use mathlib.Core.Path.{◌≡◌, sym, ap, ◌∙◌}
use Rattle.std.proofs.Common.{rules, Ok, Err}
use Rattle.record.specs.Refusal.{told}
use Rattle.record.specs.declared.refusal.Refusal.{Refusal}
use Rattle.reader.specs.Feed.{unless_faulty}
use Rattle.reader.proofs.Scanning.{passed_all, all_have_room, extends_full, extends}
use Rattle.reader.proofs.scan.extend_records.Goals as goal

pub returns-then-count-ge-MAX_RECORDS : goal.returns-then-count-ge-MAX_RECORDS
returns-then-count-ge-MAX_RECORDS c = rw c.from-then-count-ge-MAX_RECORDS.ensures (extends_full (passed_all c.read_all.ensures c.in-Ok.is) _ c.if-count-ge-MAX_RECORDS.true)

pub fault_behind-requires : goal.fault_behind-requires
fault_behind-requires c = all_have_room (passed_all c.read_all.ensures c.in-Ok.is) c.if-count-ge-MAX_RECORDS.false

pub returns-in_err-map_err : goal.returns-in_err-map_err
returns-in_err-map_err c =
    let same : c.from_residual.result ≡ Err c.in_err-map_err.field-0.0 = search rules in
    let was : (refusal : Refusal) × (c.fault_behind.result ≡ Err refusal) × (c.in_err-map_err.field-0.0 ≡ told refusal c.args.count) = search rules in
    rw (same, was.2) (sym (ap (λ fault. unless_faulty fault c.args.count) was.1) ∙ extends (passed_all c.read_all.ensures c.in-Ok.is) _ c.fault_behind.ensures c.if-count-ge-MAX_RECORDS.false)

pub returns : goal.returns
returns c =
    let was : c.fault_behind.result ≡ Ok tt = search rules in
    rw was at (extends (passed_all c.read_all.ensures c.in-Ok.is) _ c.fault_behind.ensures c.if-count-ge-MAX_RECORDS.false)
