-- `first_fit` meets its contract. The loop's invariant: none of the first i that wait may be placed.
use mathlib.Core.Path.{refl}
use Rattle.search.proofs.search.first_fit.Goals as goal

pub fits-requires : goal.fits-requires
fits-requires c = (c.requires.0, c.requires.1 _ (record { at = c.loop-i.i; below = c.loop-i-test.true; here = refl }))
