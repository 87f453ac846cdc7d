use Rattle.matching.specs.Reaches.{ReachTable}
use Rattle.matching.proofs.reaches.fill_reaches.Given as given

-- `fill_reaches` meets its contract. The loop's invariant: the table is right below o.
abbrev pub invariant-loop-o : given.invariant-loop-o
invariant-loop-o l = ReachTable l.o l.matched.history.end l.matched.history.table.now l.matched.partner.now l.reach
