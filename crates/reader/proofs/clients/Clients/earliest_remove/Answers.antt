-- `earliest_remove` meets its contract: each code is that of an entry in use, and its remove is the earliest so far or not.
use native.Mathlib.Omega.{arith}
use mathlib.Core.Path.{◌≡◌}
use Prim.Native.Nat.{◌≤◌, ◌<◌}
use lib.ListN.{get_or, take}
use lib.Seq.{get_or-take}
use Rattle.table.proofs.Lists.{used}
use Rattle.reader.proofs.Codes.{least_same, least_more}
use Rattle.reader.proofs.clients.Clients.earliest_remove.Goals as goal
use Rattle.reader.proofs.clients.Clients.earliest_remove.Goals.{then-code-eq-REMOVE_CALL+then-from-index, then-code-eq-REMOVE_CALL+else-from-index, else-code-eq-REMOVE_CALL}

pub loop-code-preserved : goal.loop-code-preserved
loop-code-preserved c =
    let i = c.loop-code.code-index in
    let s = c.args.self.now in
    let inside : i < s.map.count = omega (arith, c.loop-code-test.true, used s.codes s.map.count (omega (arith, s.map.linked.within, c.well_formed))) in
    let is : get_or (take s.map.count s.codes) i 0 ≡ get_or s.codes i 0 = get_or-take s.map.count s.codes i 0 inside in
    let coded : 4 ≤ get_or s.codes i 0 = c.requires i inside in
    elim c.if-code-eq-REMOVE_CALL.branch [
      | then-code-eq-REMOVE_CALL+then-from-index w ↦
          rw (w.least-is, w.min.ensures, w.unwrap_or.ensures) (least_more s.codes i _ c.loop-code.invariant (omega (arith, is, coded, w.if-code-eq-REMOVE_CALL.true, w.index_of-index.ensures)) w.if-from-index.true)
      | then-code-eq-REMOVE_CALL+else-from-index w ↦ rw w.least-is (least_same s.codes i _ c.loop-code.invariant (λ pending after. omega (arith, is, w.index_of-index.ensures, w.if-from-index.false)))
      | else-code-eq-REMOVE_CALL w ↦ rw w.least-is (least_same s.codes i _ c.loop-code.invariant (λ pending after. absurd (w.if-code-eq-REMOVE_CALL.false (omega (arith, is, pending)))))
    ]
