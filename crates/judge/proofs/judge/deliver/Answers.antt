-- `deliver` meets its contract.
use Rattle.std.specs.Prelude.{Some, None}
use Rattle.patterns.proofs.Numbered.{code_number}
use Rattle.judge.proofs.Answering.{delivers_nothing, delivers_verdict}
use Rattle.judge.proofs.judge.deliver.Goals as goal

pub returns-then-sheet-k : goal.returns-then-sheet-k
returns-then-sheet-k c = let a = c.args in rw c.from.ensures (delivers_nothing a.pattern a.listed.now a.sheet.now c.if-sheet-k.true)

pub returns-in-Some : goal.returns-in-Some
returns-in-Some c = let a = c.args in
    let p = c.in-Some.pattern in
    rw (c.in-Some.is, code_number p) (delivers_verdict (Some p) a.listed.now a.sheet.now c.if-sheet-k.false (rw (code_number p) at c.write_sheet.ensures))

pub returns-in-None : goal.returns-in-None
returns-in-None c = let a = c.args in
    rw c.in-None.is (delivers_verdict None a.listed.now a.sheet.now c.if-sheet-k.false c.write_sheet-in-None.ensures)
