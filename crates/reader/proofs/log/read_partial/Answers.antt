-- `read_partial` meets its contract: a header that is refused is a log that is refused, and behind another the records are read.
use mathlib.Core.Path.{sym, ap, ◌∙◌}
use Rattle.std.proofs.Common.{rules}
use Rattle.reader.specs.Tables.{surveyed}
use Rattle.reader.proofs.Scanning.{header_is}
use Rattle.reader.proofs.log.read_partial.Goals as goal

pub returns-in_err-count : goal.returns-in_err-count
returns-in_err-count c = rw (header_is c.args.log.now _ (sym c.read_header.ensures ∙ c.in_err-count.was)) (search rules)

pub returns : goal.returns
returns c = c.read_records.ensures ∙ sym (ap surveyed (header_is c.args.log.now _ (sym c.read_header.ensures ∙ c.in_ok-count.was)).1)
