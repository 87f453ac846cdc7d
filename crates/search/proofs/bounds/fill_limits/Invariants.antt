use Rattle.search.specs.Bounds.{LimitTable}
use Rattle.search.proofs.bounds.fill_limits.Given as given

-- `fill_limits` meets its contract. The loop's invariant: o is within the operations, and the table is right below o.
abbrev pub invariant-loop-o : given.invariant-loop-o
invariant-loop-o l = LimitTable l.o l.matched.history.end l.matched.history.table.now l.matched.partner.now l.gaps l.limit
