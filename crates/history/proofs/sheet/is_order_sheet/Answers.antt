-- `is_order_sheet` meets its contract: the tests of a sheet's form, in their order.
use mathlib.Core.Path.{refl}
use borrow.Author.Tests.{lt-ltb}
use Rattle.history.proofs.Forms.{sheet_other_version, sheet_other_verdict, sheet_by_length}
use Rattle.history.proofs.sheet.is_order_sheet.Goals as goal

pub returns-then-sheet-lt-SHEET_HEADER : goal.returns-then-sheet-lt-SHEET_HEADER
returns-then-sheet-lt-SHEET_HEADER c = rw (lt-ltb _ _ c.if-sheet-lt-SHEET_HEADER.true) refl

pub returns-then-sheet-ne-VERSION : goal.returns-then-sheet-ne-VERSION
returns-then-sheet-ne-VERSION c = sheet_other_version c.args.sheet.now c.if-sheet-lt-SHEET_HEADER.false c.if-sheet-ne-VERSION.true

pub returns-then-sheet-ne-ORDER : goal.returns-then-sheet-ne-ORDER
returns-then-sheet-ne-ORDER c = sheet_other_verdict c.args.sheet.now c.if-sheet-lt-SHEET_HEADER.false c.if-sheet-ne-VERSION.false c.if-sheet-ne-ORDER.true

pub returns : goal.returns
returns c = rw c.listed_on.ensures.0 (sheet_by_length c.args.sheet.now c.if-sheet-lt-SHEET_HEADER.false c.if-sheet-ne-VERSION.false c.if-sheet-ne-ORDER.false)
