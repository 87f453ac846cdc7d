use lib.ListN.{get_or, take}
use Rattle.search.specs.Bounds.{limit_at}
use Rattle.search.specs.Searching.{LeastOf}
use Rattle.search.proofs.search.cap_of.Given as given

-- `cap_of` meets its contract. The loop's invariant: `cap` is the least limit of those that wait before the index, and of those that are not
-- enabled yet.
abbrev pub invariant-loop-o : given.invariant-loop-o
invariant-loop-o l = LeastOf (limit_at l.limit) (get_or l.bound l.next 0) (take l.o-index l.waiting) l.cap
