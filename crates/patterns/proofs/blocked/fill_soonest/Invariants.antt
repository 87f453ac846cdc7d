use Rattle.matching.specs.View.{history_in}
use Rattle.patterns.proofs.Soonest.{Filling}
use Rattle.patterns.proofs.blocked.fill_soonest.Given as given

-- `fill_soonest` meets its contract. The loop's invariant is `Filling`: the table is right from position p on.
abbrev pub invariant-loop-p : given.invariant-loop-p
invariant-loop-p l = Filling (history_in l.matched.history) l.matched.partner.now l.soonest l.least l.o l.p
