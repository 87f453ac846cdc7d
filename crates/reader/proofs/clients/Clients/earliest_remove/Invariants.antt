use Rattle.reader.specs.Tables.{LeastRemove}
use Rattle.reader.proofs.clients.Clients.earliest_remove.Given as given

-- `earliest_remove` meets its contract. The loop's invariant: `least` is what the codes so far say.
abbrev pub invariant-loop-code : given.invariant-loop-code
invariant-loop-code l = LeastRemove l.self.codes l.code-index l.from l.least
