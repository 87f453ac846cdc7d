-- `remove` meets its contract: the entries behind the index are moved up.
use native.Mathlib.Omega.{arith}
use Rattle.table.proofs.Lists.{moved_up}
use Rattle.table.proofs.table.remove.Goals as goal

pub returns : goal.returns
returns c = let a = c.args in
    (rw c.copy_within.ensures.after (moved_up a.table.now a.count a.index c.requires.0 (omega arith)), omega arith)
