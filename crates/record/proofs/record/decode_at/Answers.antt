-- `decode_at` meets its contract: in a whole frame the tests that led to a return say which case of `decode_in` holds.
use mathlib.Core.Path.{sym, ◌∙◌}
use native.Mathlib.Omega.{arith}
use Rattle.std.proofs.Common.{rules}
use borrow.Author.Tests.{eq-eqb, ne_eqb}
use Rattle.record.specs.Record.{decode_at}
use Rattle.record.proofs.Laws.{frame_inverts}
use Rattle.record.proofs.Records.{length_least}
use Rattle.record.proofs.record.decode_at.Goals as goal

pub bounds-log-at : goal.bounds-log-at
bounds-log-at c = omega (arith, frame_inverts _ _ c.read_frame.ensures c.in_ok-next.was)

pub overflow_add-kind : goal.overflow_add-kind
overflow_add-kind c = omega (arith, frame_inverts _ _ c.read_frame.ensures c.in_ok-next.was)

pub bounds-log-at-2 : goal.bounds-log-at-2
bounds-log-at-2 c = omega (arith, frame_inverts _ _ c.read_frame.ensures c.in_ok-next.was)

pub be16-client-requires : goal.be16-client-requires
be16-client-requires c = omega (arith, frame_inverts _ _ c.read_frame.ensures c.in_ok-next.was, length_least _ (λ e. c.if-expected-eq0.false (c.length_of-expected.ensures ∙ e)))

pub be32-tick-requires : goal.be32-tick-requires
be32-tick-requires c = omega (arith, frame_inverts _ _ c.read_frame.ensures c.in_ok-next.was, length_least _ (λ e. c.if-expected-eq0.false (c.length_of-expected.ensures ∙ e)))

pub event_at-event-requires : goal.event_at-event-requires
event_at-event-requires c = omega (arith, frame_inverts _ _ c.read_frame.ensures c.in_ok-next.was)

pub returns-in_err-next : goal.returns-in_err-next
unfolding decode_at
returns-in_err-next c = rw (← c.read_frame.ensures, c.in_err-next.was) (search rules)

pub returns-then-expected-eq0 : goal.returns-then-expected-eq0
unfolding decode_at
returns-then-expected-eq0 c = rw (sym c.read_frame.ensures ∙ c.in_ok-next.was) (simp (eq-eqb _ _ (sym c.length_of-expected.ensures ∙ c.if-expected-eq0.true)))

pub returns-then-length-expected : goal.returns-then-length-expected
unfolding decode_at
returns-then-length-expected c = rw (sym c.read_frame.ensures ∙ c.in_ok-next.was)
    (simp (ne_eqb _ _ (λ e. c.if-expected-eq0.false (c.length_of-expected.ensures ∙ e)), ne_eqb _ _ (λ e. c.if-length-expected.true (e ∙ sym c.length_of-expected.ensures))))

pub returns : goal.returns
unfolding decode_at
returns c = rw (sym c.read_frame.ensures ∙ c.in_ok-next.was)
    (simp (ne_eqb _ _ (λ e. c.if-expected-eq0.false (c.length_of-expected.ensures ∙ e)), eq-eqb _ _ (c.if-length-expected.false ∙ c.length_of-expected.ensures), c.be16-client.ensures, c.be32-tick.ensures, c.event_at-event.ensures))
