-- `fill_gaps` meets its contract: what is noted is swept.
use mathlib.Core.Path.{refl}
use Rattle.search.proofs.gaps.fill_gaps.Goals as goal

pub returns : goal.returns
returns c = c.sweep.ensures.uncovered _ _ refl c.note_returns.ensures
