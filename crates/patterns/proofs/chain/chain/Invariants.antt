use Prim.Native.Nat.{◌-◌}
use Rattle.reader.specs.Log.{max_records}
use Rattle.matching.specs.View.{history_in}
use Rattle.patterns.proofs.Chaining.{Linked}
use Rattle.patterns.proofs.Furthering.{Tried}
use Rattle.patterns.proofs.chain.chain.Given as given

-- `chain` meets its contract. The invariant of both loops: e and the first links of its chain are listed, and the chain goes on at the gap; the
-- values whose adds return below `from` were tried for it, and `best` is the highest rank among them.
abbrev pub invariant-adds : given.invariant-adds
invariant-adds l = Linked (history_in l.h) l.e l.gap l.listed l.list × Tried (history_in l.h) l.noted l.gap l.from l.best

abbrev pub decreases-adds : given.decreases-adds
decreases-adds l = max_records - l.from

abbrev pub invariant-gaps : given.invariant-gaps
invariant-gaps l = Linked (history_in l.h) l.e l.gap l.listed l.list × Tried (history_in l.h) l.noted l.gap l.from l.best

abbrev pub decreases-gaps : given.decreases-gaps
decreases-gaps l = l.until - l.gap
