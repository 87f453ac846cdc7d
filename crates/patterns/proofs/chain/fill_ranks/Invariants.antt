use Prim.Native.Nat.{◌≤◌}
use Rattle.matching.specs.View.{history_in}
use Rattle.patterns.specs.Chains.{Ranked}
use Rattle.patterns.proofs.chain.fill_ranks.Given as given

-- `fill_ranks` meets its contract. The loop's invariant: a is within the operations, and the table is right below a.
abbrev pub invariant-loop-a : given.invariant-loop-a
invariant-loop-a l = (l.a ≤ l.reached.matched.history.count) × Ranked (history_in l.reached.matched.history) l.reached.reach.now l.a l.rank
