-- `write_page` meets its contract: the laws of `Pages.antt` for a log that is too long, for a buffer that is too short, and for a page.
use native.Mathlib.Omega.{arith}
use mathlib.Core.Path.{refl}
use Rattle.timeline.proofs.Pages.{few, page_refused, page_lacks_room, page_written, drawable, lines_are}
use Rattle.timeline.proofs.page.write_page.Goals as goal

pub returns-then-records-gt-PAGE_RECORDS : goal.returns-then-records-gt-PAGE_RECORDS
returns-then-records-gt-PAGE_RECORDS c = rw c.from.ensures (page_refused c.requires _ (omega (arith, c.if-records-gt-PAGE_RECORDS.true)))

pub overflow_mul-operations : goal.overflow_mul-operations
overflow_mul-operations c = omega (arith, few c.requires, c.if-records-gt-PAGE_RECORDS.false)

pub returns-then-out-operations : goal.returns-then-out-operations
returns-then-out-operations c =
    rw c.from-then-out-operations.ensures (page_lacks_room c.requires c.if-records-gt-PAGE_RECORDS.false (λ j. omega (arith, c.type_inv.log j)) _ c.if-out-operations.true)

pub span-requires : goal.span-requires
span-requires c = (c.requires.whole, c.if-records-gt-PAGE_RECORDS.false, refl, refl)

pub put_lines-requires : goal.put_lines-requires
put_lines-requires c = (drawable c.requires c.span.ensures c.if-records-gt-PAGE_RECORDS.false, omega (arith, c.if-out-operations.false))

pub returns : goal.returns
returns c =
    let of = c.requires in
    page_written of c.if-records-gt-PAGE_RECORDS.false (λ j. omega (arith, c.type_inv.log j)) _ c.if-out-operations.false (rw (lines_are of c.span.ensures) at c.put_lines.ensures)
