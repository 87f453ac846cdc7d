use Rattle.matching.specs.Matching.{AddsMapped}
use Rattle.matching.proofs.values.Adds.enter.Given as given

-- `enter` meets its contract. The invariant: the entries of the map are the values of the adds below a.
abbrev pub invariant-loop-a : given.invariant-loop-a
invariant-loop-a l = AddsMapped l.table l.a l.self
