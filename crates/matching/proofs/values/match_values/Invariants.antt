use Rattle.matching.specs.Matching.{Matching}
use Rattle.matching.proofs.values.match_values.Given as given

-- `match_values` meets its contract. The loop's invariant: the operations below r are matched.
abbrev pub invariant-loop-r : given.invariant-loop-r
invariant-loop-r l = Matching l.table l.count l.r l.partner
