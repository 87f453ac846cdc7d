use mathlib.Core.Path.{◌≡◌}
use lib.ListN.{length}
use Rattle.reader.specs.Log.{max_records}
use Rattle.matching.specs.View.{history_in}
use Rattle.matching.proofs.Firsts.{Unfound}
use Rattle.patterns.proofs.Chaining.{CoveredEmpty}
use Rattle.patterns.proofs.chain.false_empty.Given as given

-- `false_empty` meets its contract. The invariant: the list has its length; e is at most `count`, and no empty remove below it has all its gaps
-- covered.
abbrev pub invariant-loop-e : given.invariant-loop-e
invariant-loop-e l = (length l.list ≡ max_records) × Unfound (CoveredEmpty (history_in l.reached.matched.history)) l.reached.matched.history.count l.e
