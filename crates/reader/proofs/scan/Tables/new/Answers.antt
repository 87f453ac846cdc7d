-- `new` meets its contract: nothing has been entered into new tables.
use mathlib.Core.Path.{refl}
use Rattle.table.proofs.Lists.{zeros}
use Rattle.reader.specs.Log.{max_records}
use Rattle.reader.proofs.scan.Tables.new.Goals as goal

pub returns : goal.returns
returns c = record {
  met = c.new.ensures;
  codes_sized = refl;
  codes_none = zeros max_records;
  added = c.new-2.ensures;
  at = refl;
  tick = refl;
  start = refl;
  operations = refl;
}
