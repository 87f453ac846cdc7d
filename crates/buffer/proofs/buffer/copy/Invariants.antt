use mathlib.Core.Path.{◌≡◌}
use lib.Seq.{paste}
use Rattle.buffer.proofs.buffer.copy.Given as given

-- `copy` meets its contract: the first i bytes are copied.
abbrev pub invariant-loop-i : given.invariant-loop-i
invariant-loop-i l = l.out ≡ paste l.initial.out l.at l.bytes l.i
