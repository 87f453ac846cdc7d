-- `frame_at` meets its contract: at each return the tests that led there say which case of `frame_at` holds.
use Rattle.record.specs.Frame.{frame_at}
use borrow.Author.Tests.{le-leb, lt-leb, lt-ltb, le-ltb, eq-eqb, ne_eqb}
use Rattle.record.proofs.frame.frame_at.Goals as goal

pub returns-then-log-at : goal.returns-then-log-at
unfolding frame_at
returns-then-log-at c = simp (le-leb _ _ c.if-log-at.true)

pub returns-then-log-start : goal.returns-then-log-start
unfolding frame_at
returns-then-log-start c = simp (lt-leb _ _ c.if-log-at.false, lt-ltb _ _ c.if-log-start.true)

pub returns-then-length-eq0 : goal.returns-then-length-eq0
unfolding frame_at
returns-then-length-eq0 c = simp (lt-leb _ _ c.if-log-at.false, le-ltb _ _ c.if-log-start.false, eq-eqb _ _ c.if-length-eq0.true)

pub returns : goal.returns
unfolding frame_at
returns c = simp (lt-leb _ _ c.if-log-at.false, le-ltb _ _ c.if-log-start.false, ne_eqb _ _ c.if-length-eq0.false)
