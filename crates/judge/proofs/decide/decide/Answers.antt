-- `decide` meets its contract: the verdict on the history as it stands is an order, or every remove has returned, or the fate of the one that has not
-- is tried.
use mathlib.Core.Path.{refl}
use Rattle.reader.specs.Log.{max_records}
use Rattle.matching.proofs.Storing.{new_cleared}
use Rattle.judge.proofs.Deciding.{order_stands, pattern_stands, returned_decided}
use Rattle.judge.proofs.decide.decide.Goals as goal

pub decide_complete-requires : goal.decide_complete-requires
decide_complete-requires c = new_cleared max_records

pub returns-in-Order : goal.returns-in-Order
returns-in-Order c = order_stands c.in-Order.ensures.1 refl

pub returns-in_default : goal.returns-in_default
returns-in_default c = returned_decided c.args.table.now (pattern_stands _ c.in-Pattern.ensures.1) c.in_default.ensures

pub returns-in-Some-try_fate : goal.returns-in-Some-try_fate
returns-in-Some-try_fate c = c.in-Some-try_fate.ensures.outcome (pattern_stands _ c.in-Pattern.ensures.1).first
