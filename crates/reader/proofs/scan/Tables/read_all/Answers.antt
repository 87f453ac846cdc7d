-- `read_all` meets its contract. The loop's invariant is `Scanned`, in `Scanning.antt`: the tables hold what is kept of
-- the first i records, and the rest of the scan is the whole.
use Prim.Native.Nat.{◌<◌}
use mathlib.Core.Path.{◌≡◌}
use Rattle.std.proofs.Common.{rules, Err}
use Rattle.record.specs.declared.refusal.Refusal.{Refusal}
use native.Mathlib.Omega.{arith}
use Rattle.reader.specs.Tables.{through, stopped}
use Rattle.reader.proofs.Scanning.{loop_starts, loop_has_room, loop_stops, loop_leaves_bytes, loop_ends}
use Rattle.reader.proofs.scan.Tables.read_all.Goals as goal

pub loop-i-init : goal.loop-i-init
loop-i-init c = loop_starts _ _ c.requires.1

pub read_record-requires : goal.read_record-requires
read_record-requires c = let below : c.loop-i.i-counter < 1024 = omega (arith, c.requires.0) in (below, loop_has_room c.loop-i.invariant below)

pub returns-in_err-map_err : goal.returns-in_err-map_err
returns-in_err-map_err c =
    let same : c.from_residual.result ≡ Err c.in_err-map_err.field-0.0 = search rules in
    let was : (refusal : Refusal) × (c.read_record.result ≡ Err refusal) × (c.in_err-map_err.field-0.0 ≡ (refusal, c.loop-i.i-counter)) = search rules in
    rw (same, was.2) (stopped (loop_stops c.loop-i.invariant c.loop-i-test.true c.read_record.ensures was.1))

pub returns-then-at-log : goal.returns-then-at-log
returns-then-at-log c = stopped (loop_leaves_bytes c.loop-i.invariant c.loop-i-test.false c.if-at-log.true)

pub returns : goal.returns
returns c = through (loop_ends c.loop-i.invariant c.loop-i-test.false c.if-at-log.false)
