-- `begin` meets its contract: a header of no records is the empty log.
use mathlib.Core.Path.{refl, ◌∙◌}
use borrow.Author.Tests.{lt-ltb, le-ltb}
use Rattle.record.specs.Number.{bytes_of}
use Rattle.buffer.proofs.Copying.{put_written}
use Rattle.session.specs.Session.{empty_log}
use Rattle.session.proofs.feed.begin.Goals as goal

pub returns-then-buf-lt-HEADER : goal.returns-then-buf-lt-HEADER
returns-then-buf-lt-HEADER c = (rw (c.from.ensures, lt-ltb _ _ c.if-buf-lt-HEADER.true) refl, rw (lt-ltb _ _ c.if-buf-lt-HEADER.true) refl)

pub returns : goal.returns
unfolding bytes_of
returns c = (rw (le-ltb _ _ c.if-buf-lt-HEADER.false) refl, c.write_header.ensures ∙ put_written empty_log c.args.buf.now c.if-buf-lt-HEADER.false)
