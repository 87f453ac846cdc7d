-- `find_order` meets its contract.
use Rattle.history.specs.Positions.{max_positions}
use Rattle.matching.proofs.Reaching.{reaching_kept}
use Rattle.matching.proofs.Storing.{new_cleared}
use Rattle.search.proofs.Ordering.{limits_right, ordered}
use Rattle.search.proofs.order.find_order.Goals as goal

pub fill_gaps-requires : goal.fill_gaps-requires
fill_gaps-requires c = new_cleared max_positions

pub search-requires : goal.search-requires
search-requires c =
    let m = c.args.reached.now.matched in
    (c.requires, limits_right m.history.held m.partners c.requires (reaching_kept c.args.reached.now.reaching) c.fill_limits.ensures, c.fill_bounds.ensures)

pub returns : goal.returns
returns c =
    let m = c.args.reached.now.matched in
    ordered m.history.held m.partners c.requires (reaching_kept c.args.reached.now.reaching) c.fill_limits.ensures c.fill_gaps.ensures _ c.search.result c.search.ensures
