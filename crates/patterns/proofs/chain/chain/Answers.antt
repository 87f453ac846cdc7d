-- `chain` meets its contract. The invariant of both loops: e and the first links of its chain are listed, and the chain goes on at the gap; the
-- values whose adds return below `from` were tried for it, and `best` is the highest rank among them.
use Prim.Native.Nat.{ℕ, ◌+◌, ◌≤◌, ◌<◌}
use mathlib.Core.List.{List}
use native.Mathlib.Omega.{arith}
use lib.ListN.{get_or}
use Rattle.history.specs.History.{History, empty_remove}
use Rattle.violations.specs.Violations.{Is}
use Rattle.matching.specs.Held.{Held}
use Rattle.matching.specs.Returns.{ReturnsNoted}
use Rattle.matching.proofs.Numbers.{Larger, larger_is}
use Rattle.matching.proofs.Returning.{Highest}
use Rattle.patterns.specs.Chains.{NextNoted, NextTable}
use Rattle.patterns.proofs.Chaining.{linked_starts, linked_ends, room_left, linked_more, none_covers}
use Rattle.patterns.proofs.Furthering.{Tried, tried_none, tried_on, tried_more, tried_all, gap_uncovered, furthest_found}
use Rattle.patterns.proofs.chain.chain.Goals as goal

-- What holds at a gap of e that is not the last, and of the adds that were tried for it.
module _ {h : History} {noted next : List ℕ} {e gap from best : ℕ}
    (held : Held h) (is : Is h empty_remove e) (before : gap < h.ret e) (nexts : NextTable h.end noted 0 next) (tried : Tried h noted gap from best) where
  inside : gap + 1 < h.end
  inside = omega (arith, before, held.lawful.returned _ is.known (omega (arith, is.kinds)))

  next_at : NextNoted h.end noted from (get_or next from 0)
  next_at = nexts.nexts from (omega arith) (omega (arith, inside, tried.returned))

  -- the next add to return has done so by the gap, and is tried too
  one_more : get_or next from 0 ≤ gap → {best' : ℕ} → Larger best (get_or noted (get_or next from 0) 0) best' → Tried h noted gap (get_or next from 0 + 1) best'
  one_more = tried_more tried (omega (arith, inside)) next_at

  -- it has not, so that all were tried
  highest : gap < get_or next from 0 → {rank : List ℕ} → ReturnsNoted h rank h.count noted → Highest h rank (gap + 1) best
  highest l = tried_all tried (omega (arith, inside)) next_at l

pub gaps-init : goal.gaps-init
gaps-init c = (rw c.call-gap.ensures (linked_starts c.args.e c.args.list.now c.told-list), tried_none)

pub adds-preserved : goal.adds-preserved
adds-preserved c =
    let before = rw c.returned-until.ensures at c.if-until-gap.false in
    (c.adds.invariant.0, one_more c.args.h.now.held c.requires.2 before c.requires.1 c.adds.invariant.1 c.if-gap-returned.false (larger_is c.max-best.ensures))

pub gaps-preserved : goal.gaps-preserved
gaps-preserved c =
    let (linked, tried) = c.adds.invariant in
    let before = rw c.returned-until.ensures at c.if-until-gap.false in
    let all = highest c.args.h.now.held c.requires.2 before c.requires.1 tried c.if-gap-returned.true c.requires.0.returns in
    let furthest = furthest_found c.args.h.now.held c.requires.0 all c.if-best-gap.false in
    (linked_more linked before (room_left linked before c.args.h.now.held c.requires.2) furthest, tried_on tried c.if-best-gap.false)

pub returns-then-until-gap : goal.returns-then-until-gap
returns-then-until-gap c = (c.gaps.invariant.0.some, linked_ends c.gaps.invariant.0 (rw c.returned-until.ensures at c.if-until-gap.true))

pub returns-then-best-gap : goal.returns-then-best-gap
returns-then-best-gap c =
    let (linked, tried) = c.adds.invariant in
    let before = rw c.returned-until.ensures at c.if-until-gap.false in
    let all = highest c.args.h.now.held c.requires.2 before c.requires.1 tried c.if-gap-returned.true c.requires.0.returns in
    none_covers linked before (gap_uncovered c.args.h.now.held c.requires.0 all c.if-best-gap.true)
