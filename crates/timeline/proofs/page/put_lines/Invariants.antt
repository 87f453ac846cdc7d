use Rattle.timeline.proofs.Drawing.{Drawing}
use Rattle.timeline.proofs.page.put_lines.Given as given

-- `put_lines` meets its contract. The loop's invariant is `Drawing`: the lines of the operations before o are written.
abbrev pub invariant-loop-o : given.invariant-loop-o
invariant-loop-o l = Drawing l.table l.starts l.ends l.records l.initial.text l.text l.at l.o
