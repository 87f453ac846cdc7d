use Rattle.matching.proofs.Firsts.{Unfound}
use Rattle.patterns.specs.Pattern.{number_of}
use Rattle.patterns.specs.Views.{ShowsIn}
use Rattle.patterns.proofs.signs.first_showing.Given as given

-- `first_showing` meets its contract. The loop's invariant is `Unfound`: no operation below r shows the pattern.
abbrev pub invariant-loop-r : given.invariant-loop-r
invariant-loop-r l = Unfound (ShowsIn l.matched (number_of l.pattern)) l.matched.history.count l.r
