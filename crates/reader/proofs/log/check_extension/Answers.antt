-- `check_extension` meets its contract: a log whose header is refused is not readable, and behind another the records are read.
use mathlib.Core.Path.{sym, ap, ◌∙◌}
use Rattle.reader.specs.Feed.{extended}
use Rattle.reader.proofs.Scanning.{header_is}
use Rattle.reader.proofs.log.check_extension.Goals as goal

pub returns-in_default : goal.returns-in_default
returns-in_default c = rw c.from.ensures (sym (ap (λ reading. extended reading c.args.bytes.now) (header_is c.args.log.now _ (sym c.read_header.ensures ∙ c.in_default.is))))

pub returns : goal.returns
returns c = c.extend_records.ensures ∙ sym (ap (λ reading. extended reading c.args.bytes.now) (header_is c.args.log.now _ (sym c.read_header.ensures ∙ c.in-Ok.is)).1)
