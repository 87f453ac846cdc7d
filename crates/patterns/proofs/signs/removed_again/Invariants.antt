use Prim.Native.Nat.{◌<◌}
use Rattle.matching.proofs.Firsts.{Unfound}
use Rattle.patterns.specs.Views.{AgainIn}
use Rattle.patterns.proofs.signs.removed_again.Given as given

-- `removed_again` meets its contract. The loop's invariant: s is above r, and no operation below s is such a remove.
abbrev pub invariant-loop-s : given.invariant-loop-s
invariant-loop-s l = (l.r < l.s) × Unfound (AgainIn l.matched l.r) l.matched.history.count l.s
