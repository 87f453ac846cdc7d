-- Histories that are alike stay so where the same value is taken in both.
use Prim.Native.Nat.{ℕ, ◌<◌}
use native.Mathlib.Omega.{arith}
use native.Mathlib.Decide.{ℕ_discrete}
use mathlib.Core.Path.{◌≡◌, refl, sym, ap, ◌∙◌}
use mathlib.Core.Logic.{◌↔◌}
use borrow.Author.Tests.{eq-eqb}
use Rattle.history.specs.History.{History, add, no_kind, Returned, Precedes, Lone}
use Rattle.violations.specs.Violations.{Is}
use Rattle.violations.specs.Parts.{HasValue, Alike}
use Rattle.violations.specs.Fates.{taking, Free}
use Rattle.violations.proofs.Operations.{is_valued}
use Rattle.violations.proofs.Corresponding.{corresponding_is, corresponding_removed}
use Rattle.violations.proofs.Alike.{alike_same}
use Rattle.violations.proofs.Fates.{ComesBack, taking_back}

-- An operation is of the same kind in both, and a value that may be taken in one may be taken in the other.
pub alike_is : {h k : History} (a : Alike h k) {kind o : ℕ} → Is h kind o → Is k kind (a.to o)
alike_is a is = (corresponding_is (alike_same a) (record { known = is.known; is = refl })).0 is

pub alike_free : {h k : History} (a : Alike h k) {x : ℕ} → Free h x → Free k (a.to x)
alike_free a free =
    let adds = alike_is a free.adds in
    record { adds = adds; unremoved = λ r. free.unremoved (corresponding_removed (alike_same a) (record { known = free.adds.known; is = refl }) adds r) }

module _ {h k : History} (a : Alike h k) (lone-h : Lone h) (lone-k : Lone k) {o x : ℕ} (pending : Is h no_kind o) (adding : Is h add x) where
  abbrev here : History
  here = taking h o x

  abbrev there : History
  there = taking k (a.to o) (a.to x)

  c : ComesBack h here o
  c = taking_back lone-h pending x

  d : ComesBack k there (a.to o)
  d = taking_back lone-k (alike_is a pending) (a.to x)

  other : {p : ℕ} → p < h.count → (p ≡ o → ⊥) → a.to p ≡ a.to o → ⊥
  other {p} l n e = n (sym (a.back p l) ∙ ap a.from e ∙ a.back o pending.known)

  kind : (p : ℕ) → p < h.count → Dec (p ≡ o) → there.kind (a.to p) ≡ here.kind p
  kind p l (yes e) = rw (eq-eqb (a.to p) (a.to o) (ap a.to e), eq-eqb p o e) refl
  kind p l (no n) = d.kind (a.to p) (other l n) ∙ a.kind p l ∙ sym (c.kind p n)

  returned : (p : ℕ) → p < h.count → Dec (p ≡ o) → Returned there (a.to p) ↔ Returned here p
  returned p l (yes e) = (λ z. omega (arith, ap here.ret e, c.back), λ z. omega (arith, ap (λ q. there.ret (a.to q)) e, d.back))
  returned p l (no n) = rw (d.ret (a.to p) (other l n), c.ret p n) (a.returned p l)

  precedes : (p q : ℕ) → p < h.count → q < h.count → Dec (p ≡ o) → Precedes there (a.to p) (a.to q) ↔ Precedes here p q
  precedes p q l m (yes e) = (
    λ z. absurd (omega (arith, ap (λ q. there.ret (a.to q)) e, d.last (a.to q) (a.to_known q m))),
    λ z. absurd (omega (arith, ap here.ret e, c.last q m)),
  )
  precedes p q l m (no n) = rw (d.ret (a.to p) (other l n), c.ret p n) (a.precedes p q l m)

  -- the value of p, here and there, is that of operation `by` in the histories as they stand
  record Valued (p : ℕ) : Type 0 where
    by : ℕ
    valued : HasValue h by
    value_here : here.value p ≡ h.value by
    value_there : there.value (a.to p) ≡ k.value (a.to by)

  valued_by : (p : ℕ) → HasValue here p → Dec (p ≡ o) → Valued p
  valued_by p v (yes e) = record {
    by = x;
    valued = is_valued adding (omega arith) (omega arith);
    value_here = rw (eq-eqb p o e) refl;
    value_there = rw (eq-eqb (a.to p) (a.to o) (ap a.to e)) refl;
  }
  valued_by p v (no n) = record {
    by = p;
    valued = record { known = v.known; valued = omega (arith, v.valued, c.kind p n) };
    value_here = c.value p n;
    value_there = d.value (a.to p) (other v.known n);
  }

  value : {p q : ℕ} → Valued p → Valued q → (there.value (a.to p) ≡ there.value (a.to q)) ↔ (here.value p ≡ here.value q)
  value v w = (
    λ e. v.value_here ∙ (a.value v.by w.by v.valued w.valued).0 (sym v.value_there ∙ e ∙ w.value_there) ∙ sym w.value_here,
    λ e. v.value_there ∙ (a.value v.by w.by v.valued w.valued).1 (sym v.value_here ∙ e ∙ w.value_here) ∙ sym w.value_there,
  )

  pub taking_alike : Alike (taking h o x) (taking k (a.to o) (a.to x))
  taking_alike = record {
    to = a.to;
    from = a.from;
    to_known = a.to_known;
    from_known = a.from_known;
    back = a.back;
    forth = a.forth;
    kind = λ p l. kind p l (ℕ_discrete p o);
    returned = λ p l. returned p l (ℕ_discrete p o);
    precedes = λ p q l m. precedes p q l m (ℕ_discrete p o);
    value = λ p q v w. value (valued_by p v (ℕ_discrete p o)) (valued_by q w (ℕ_discrete q o));
  }
