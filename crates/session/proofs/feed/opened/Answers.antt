-- `opened` meets its contract: a session that is not open is refused by how it stands, and so is one that uses more bytes than there are.
use mathlib.Core.Path.{sym}
use mathlib.Core.List.{[]}
use Rattle.session.proofs.Refusing.{beyond_unfit, opened_by}
use Rattle.session.proofs.feed.opened.Goals as goal

pub returns-then-stage-ne-OPEN : goal.returns-then-stage-ne-OPEN
returns-then-stage-ne-OPEN c = opened_by _ _ _ [] c.stage_refusal.result (sym c.stage_refusal.ensures)

pub returns-then-buf-used : goal.returns-then-buf-used
returns-then-buf-used c = beyond_unfit _ _ _ [] c.if-stage-ne-OPEN.false c.if-buf-used.true
