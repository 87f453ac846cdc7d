-- `fits` meets its contract.
use Rattle.std.proofs.lemmas.Option.{slice_get_within, get_or_from_slice_get}
use mathlib.Core.Path.{sym}
use Rattle.search.proofs.search.fits.Goals as goal

pub value-requires : goal.value-requires
value-requires c =
    let queue = c.args.queue.now in
    let front = sym c.in-Some.ensures.value in
    c.requires.0 _ (record { at = 0; below = slice_get_within queue 0 _ front; here = get_or_from_slice_get queue 0 _ 0 front })
