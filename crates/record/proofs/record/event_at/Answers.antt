-- `event_at` meets its contract: each arm is a case of `event_of`, and the lengths of kinds 1 and 4 leave room for a value. A known kind
-- below 3 is 1 or 2.
use Rattle.record.specs.Record.{length_of, event_of}
use Rattle.record.specs.declared.record.Event.TheVariants.{CallAdd, ReturnRemove}
use Rattle.record.specs.declared.record.Removed.TheVariants.{Value}
use Prim.Native.Nat.{ℕ, zero, suc, ◌<◌}
use mathlib.Core.Path.{◌≡◌, ap}
use native.Mathlib.Omega.{arith}
use borrow.Author.Tests.{ne_eqb}
use Rattle.record.proofs.record.event_at.Goals as goal

-- a known kind below 3 that is not 1 is 2
call-kind : (kind : ℕ) → 0 < length_of kind → kind < 3 → (kind ≡ 1 → ⊥) → kind ≡ 2
unfolding length_of
call-kind zero known call not-add = absurd (omega (arith, known))
call-kind (suc k) known call not-add = omega (arith, call, not-add)

pub be32-requires : goal.be32-requires
unfolding length_of
be32-requires c = omega (arith, ap length_of c.in-1.is)

pub be32-requires-in-4 : goal.be32-requires-in-4
unfolding length_of
be32-requires-in-4 c = omega (arith, ap length_of c.in-4.is)

pub returns-in-1 : goal.returns-in-1
unfolding event_of
returns-in-1 c = rw c.in-1.is (ap CallAdd c.be32.ensures)

pub returns-in_default : goal.returns-in_default
unfolding event_of
returns-in_default c = rw (call-kind _ c.requires.0 c.if-kind-lt3.true (omega arith))

pub returns-in-3 : goal.returns-in-3
unfolding event_of
returns-in-3 c = rw c.in-3.is

pub returns-in-4 : goal.returns-in-4
unfolding event_of
returns-in-4 c = rw c.in-4.is (ap (λ (v : ℕ). ReturnRemove (Value v)) c.be32-in-4.ensures)

pub returns-in_default-kind : goal.returns-in_default-kind
unfolding event_of
returns-in_default-kind c = let kind = c.args.kind in
    simp (ne_eqb kind 1 (omega (arith, c.if-kind-lt3.false)), ne_eqb kind 2 (omega (arith, c.if-kind-lt3.false)), ne_eqb kind 3 (omega arith), ne_eqb kind 4 (omega arith))
