-- `copy` meets its contract: the first i bytes are copied.
use native.Mathlib.Omega.{arith}
use native.Mathlib.Numerals.{add-one}
use lib.Seq.{paste-suc}
use Rattle.buffer.proofs.buffer.copy.Goals as goal

pub loop-i-preserved : goal.loop-i-preserved
loop-i-preserved c = let a = c.args in rw (c.loop-i.invariant, add-one) (paste-suc a.out.now a.at a.bytes.now c.loop-i.i 0 (omega arith) c.loop-i-test.true)
