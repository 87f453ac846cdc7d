use Rattle.projection.proofs.Collecting.{Collecting}
use Rattle.projection.proofs.excerpt.collect.Given as given

-- `collect` meets its contract. The loop's invariant is `Collecting`: the values of the first i listed operations are collected.
abbrev pub invariant-loop-o : given.invariant-loop-o
invariant-loop-o l = Collecting l.table l.listed l.values l.count l.o-index
