use lib.ListN.{take}
use Rattle.matching.specs.View.{history_in}
use Rattle.search.specs.Searching.{LeastOf}
use Rattle.search.proofs.search.least_return.Given as given

-- `least_return` meets its contract. The loop's invariant: `least` is the least return of those that wait before the index.
abbrev pub invariant-loop-o : given.invariant-loop-o
invariant-loop-o l = LeastOf (history_in l.h).ret l.h.end (take l.o-index l.waiting) l.least
