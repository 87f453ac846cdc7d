use Rattle.reader.proofs.Scanning.{Scanned}
use Rattle.reader.proofs.scan.Tables.read_all.Given as given

-- `read_all` meets its contract. The loop's invariant is `Scanned`, in `Scanning.antt`: the tables hold what is kept of
-- the first i records, and the rest of the scan is the whole.
abbrev pub invariant-loop-i : given.invariant-loop-i
invariant-loop-i l = Scanned l.log l.count l.self l.i-counter
