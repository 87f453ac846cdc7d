use lib.ListN.{length, get_or}
use Rattle.matching.specs.View.{history_in}
use Rattle.matching.proofs.Firsts.{Unfound}
use Rattle.search.specs.Searching.{Fit}
use Rattle.search.proofs.search.first_fit.Given as given

-- `first_fit` meets its contract. The loop's invariant: none of the first i that wait may be placed.
abbrev pub invariant-loop-i : given.invariant-loop-i
invariant-loop-i l = Unfound (λ j. Fit (history_in l.reached.matched.history) l.reached.reach.now l.queue l.cap (get_or l.waiting j 0)) (length l.waiting) l.i
