use Rattle.matching.proofs.Firsts.{Unfound}
use Rattle.patterns.specs.Views.{BlocksIn}
use Rattle.patterns.proofs.blocked.blocked_by.Given as given

-- `blocked_by` meets its contract. The invariant is `Unfound`: b is at most `count`, and add a blocks no operation below it.
abbrev pub invariant-loop-b : given.invariant-loop-b
invariant-loop-b l = Unfound (BlocksIn l.reached l.a) l.reached.matched.history.count l.b
