use Rattle.history.proofs.Writing.{Listing}
use Rattle.history.proofs.sheet.write_sheet.Given as given

-- `write_sheet` meets its contract. The invariant is `Listing`: the first i numbers stand after the header.
abbrev pub invariant-loop-i : given.invariant-loop-i
invariant-loop-i l = Listing l.listed l.initial.sheet l.i l.sheet
