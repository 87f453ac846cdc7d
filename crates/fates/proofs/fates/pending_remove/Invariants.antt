use mathlib.Core.Path.{◌≡◌}
use Rattle.history.specs.History.{no_kind}
use Rattle.history.specs.Table.{kind_at}
use Rattle.matching.proofs.Firsts.{Unfound}
use Rattle.fates.proofs.fates.pending_remove.Given as given

-- `pending_remove` meets its contract. The loop's invariant is `Unfound`: every operation below o has a kind.
abbrev pub invariant-loop-o : given.invariant-loop-o
invariant-loop-o l = Unfound (λ p. kind_at l.table p ≡ no_kind) l.count l.o
