-- `feed` meets its contract: each return has the answer of the tests that led there, and the buffer that goes with it.
use native.Mathlib.Omega.{arith}
use mathlib.Core.Path.{◌≡◌, sym, ◌∙◌}
use lib.Seq.{length-take-le}
use Rattle.std.proofs.Common.{ℕ, ◌≤◌, List, length, Result, Ok, Err, rules}
use Rattle.record.specs.Refusal.{refusing}
use Rattle.record.specs.declared.refusal.Refusal.{Refusal}
use Rattle.session.specs.Session.{open_stage, stage_refusal, Opened}
use Rattle.session.proofs.Refusing.{answered, feed_not_open, feed_open, feed_lacks_room, feed_written, fits_counted}
use Rattle.session.proofs.feed.feed.Goals as goal

-- what the answer to how the session stands says
is_opened : (stage used : ℕ) (buffer : List ℕ) {answer : Result (Unit {0}) Refusal} → Opened stage used buffer answer → answer ≡ Ok tt → (stage ≡ open_stage) × (used ≤ length buffer)
is_opened stage used buffer opened e = let o : Opened stage used buffer (Ok tt) = rw e at opened in o

not_opened : (stage used : ℕ) (buffer : List ℕ) {answer : Result (Unit {0}) Refusal} {refusal : Refusal} → Opened stage used buffer answer → answer ≡ Err refusal → stage_refusal open_stage stage used buffer ≡ Err refusal
not_opened stage used buffer {refusal = refusal} opened e = let o : Opened stage used buffer (Err refusal) = rw e at opened in o

pub returns-in_err-opened : goal.returns-in_err-opened
returns-in_err-opened c =
    let same : c.from_residual.result ≡ refusing c.in_err-opened.field-0.0 0 = search rules in
    rw same (answered _ _ _ _ (feed_not_open _ _ _ _ (not_opened _ _ _ c.opened.ensures c.in_err-opened.was)))

pub slice_bounds-check_extension-end : goal.slice_bounds-check_extension-end
slice_bounds-check_extension-end c = (is_opened _ _ _ c.opened.ensures c.in_ok-opened.was).1

pub slice_bounds-check_extension-end-2 : goal.slice_bounds-check_extension-end-2
slice_bounds-check_extension-end-2 c = sym (length-take-le _ _ (is_opened _ _ _ c.opened.ensures c.in_ok-opened.was).1)

pub returns-in_err-records : goal.returns-in_err-records
returns-in_err-records c =
    let (is_open, within) = is_opened _ _ _ c.opened.ensures c.in_ok-opened.was in
    let same : c.from_residual-in_err-records.result ≡ Err c.in_err-records.field-0.0 = search rules in
    rw same (answered _ _ _ _ (feed_open _ _ _ _ is_open within (sym c.in_err-records.was ∙ c.check_extension.ensures)))

pub overflow_sub-buf : goal.overflow_sub-buf
overflow_sub-buf c = (is_opened _ _ _ c.opened.ensures c.in_ok-opened.was).1

pub returns-then-buf-end : goal.returns-then-buf-end
returns-then-buf-end c =
    let (is_open, within) = is_opened _ _ _ c.opened.ensures c.in_ok-opened.was in
    rw c.from.ensures (answered _ _ _ _ (feed_lacks_room _ _ _ _ is_open within (sym c.in_ok-records.was ∙ c.check_extension.ensures) c.if-buf-end.true))

pub overflow_add-records : goal.overflow_add-records
overflow_add-records c = omega (arith, (fits_counted _ _ _ (is_opened _ _ _ c.opened.ensures c.in_ok-opened.was).1 (sym c.in_ok-records.was ∙ c.check_extension.ensures)).few)

pub write_count-requires : goal.write_count-requires
write_count-requires c = (fits_counted _ _ _ (is_opened _ _ _ c.opened.ensures c.in_ok-opened.was).1 (sym c.in_ok-records.was ∙ c.check_extension.ensures)).header

pub returns : goal.returns
returns c =
    let (is_open, within) = is_opened _ _ _ c.opened.ensures c.in_ok-opened.was in
    rw (c.copy.ensures, c.write_count.ensures) (feed_written _ _ _ _ is_open within (sym c.in_ok-records.was ∙ c.check_extension.ensures) c.if-buf-end.false)
