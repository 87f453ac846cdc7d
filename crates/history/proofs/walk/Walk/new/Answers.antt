-- `new` meets its contract: before the first record no caller is noted.
use mathlib.Core.Path.{refl}
use Rattle.history.proofs.Along.{along_start}
use Rattle.history.proofs.Tracing.{traced_none}
use Rattle.history.proofs.walk.Walk.new.Goals as goal

pub returns : goal.returns
returns c = record {
  log_is = refl;
  records_are = refl;
  first = refl;
  walking = record { whole = c.requires; along = along_start c.requires; traced = traced_none c.requires.records c.new.ensures };
}
