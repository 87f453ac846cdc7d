-- `read_header` meets its contract: at each return the tests that led there say which case of `header_of` holds.
use borrow.Author.Tests.{lt-ltb, le-ltb, eq-eqb, ne_eqb}
use Rattle.reader.proofs.header.read_header.Goals as goal

pub returns-then-log-lt-HEADER : goal.returns-then-log-lt-HEADER
returns-then-log-lt-HEADER c = rw (lt-ltb _ _ c.if-log-lt-HEADER.true)

pub returns-then-log-ne-VERSION : goal.returns-then-log-ne-VERSION
returns-then-log-ne-VERSION c = rw (le-ltb _ _ c.if-log-lt-HEADER.false, ne_eqb _ _ c.if-log-ne-VERSION.true)

pub returns-then-count-gt-MAX_RECORDS : goal.returns-then-count-gt-MAX_RECORDS
returns-then-count-gt-MAX_RECORDS c = rw (le-ltb _ _ c.if-log-lt-HEADER.false, eq-eqb _ _ c.if-log-ne-VERSION.false, ← c.be16-count.ensures, lt-ltb _ _ c.if-count-gt-MAX_RECORDS.true)

pub returns : goal.returns
returns c = rw (le-ltb _ _ c.if-log-lt-HEADER.false, eq-eqb _ _ c.if-log-ne-VERSION.false, ← c.be16-count.ensures, le-ltb _ _ c.if-count-gt-MAX_RECORDS.false)
