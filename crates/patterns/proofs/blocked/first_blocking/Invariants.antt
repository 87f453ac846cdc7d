use Rattle.matching.proofs.Firsts.{Unfound}
use Rattle.patterns.specs.Pattern.{number_of}
use Rattle.patterns.specs.Views.{BlockingIn}
use Rattle.patterns.proofs.blocked.first_blocking.Given as given

-- `first_blocking` meets its contract. The invariant is `Unfound`: a is at most `count`, and no operation below it shows the pattern.
abbrev pub invariant-loop-a : given.invariant-loop-a
invariant-loop-a l = Unfound (BlockingIn l.reached (number_of l.pattern)) l.reached.matched.history.count l.a
