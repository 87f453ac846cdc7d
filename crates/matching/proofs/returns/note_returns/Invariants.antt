use Rattle.matching.specs.Returns.{ReturnsNoted}
use Rattle.matching.specs.View.{history_in}
use Rattle.matching.proofs.returns.note_returns.Given as given

-- `note_returns` meets its contract. The loop's invariant: of the operations below a the adds are noted.
abbrev pub invariant-loop-a : given.invariant-loop-a
invariant-loop-a l = ReturnsNoted (history_in l.h) l.number l.a l.noted
