-- Histories that agree on their operations have the same verdicts.
use Prim.Native.Nat.{ℕ, ◌<◌}
use native.Mathlib.Omega.{arith}
use native.Mathlib.Decide.{ℕ_discrete}
use mathlib.Core.Path.{◌≡◌, refl}
use mathlib.Core.Logic.{◌↔◌}
use mathlib.Core.List.{List}
use borrow.Author.Tests.{eq-eqb, ne_eqb}
use Rattle.history.specs.Object.{Object, Queue, Cell}
use Rattle.history.specs.History.{History, add, Returned}
use Rattle.history.specs.Linearization.{placed, Listed}
use Rattle.history.specs.Table.{Agree}
use Rattle.history.proofs.Agreeing.{agree_sym, agree_linearization, agree_complete}
use Rattle.violations.specs.Violations.{Is, Removed, Occurs}
use Rattle.violations.specs.Fates.{taking, Free, Fate, takes_value, Succeeds, NoneSucceeds, Settled, left_out, took}
use Rattle.violations.specs.Verdict.{FirstViolation, JudgedLinearization, Verdict, CompleteVerdict}
use Rattle.violations.specs.Found.{FoundSettled}
use Rattle.violations.proofs.Agreeing.{agree_known, agree_is, agree_removed, agree_never, agree_occurs, agree_found}
use Rattle.violations.proofs.CellAgreeing.{agree_cell_occurs}

agree_occurs_in : (object : Object) {h k : History} → Agree h k → {n : ℕ} {listed : List ℕ} → Occurs object h n listed → Occurs object k n listed
agree_occurs_in Queue a o = agree_occurs a o
agree_occurs_in Cell a o = agree_cell_occurs a o

agree_first_violation : (object : Object) {h k : History} → Agree h k → {n : ℕ} {listed : List ℕ} → FirstViolation object h n listed
    → FirstViolation object k n listed
agree_first_violation object a f = record {
  occurs = agree_occurs_in object a f.occurs;
  lowest_number = λ n other less there. f.lowest_number n other less (agree_occurs_in object (agree_sym a) there);
  lowest_list = λ other there. f.lowest_list other (agree_occurs_in object (agree_sym a) there);
}

agree_judged : {object : Object} {h k : History} → Agree h k → {order : List ℕ} → JudgedLinearization object h order → JudgedLinearization object k order
agree_judged {object} {h} {k} a {order} judged = record {
  legal = agree_linearization object a judged.legal;
  pending = λ o is n. pending (agree_is (agree_sym a) is) n;
  complete = λ i l. omega (arith, judged.complete i l, a.kind (placed order i) (judged.legal.ordering.known i l));
}
  where
    pending : {o : ℕ} → Is h add o → (Returned k o → ⊥) → Listed order o ↔ Removed k o
    pending {o} is n =
        let l = is.known in
        let same = judged.pending o is (λ returned. n (omega (arith, a.ret o l, a.end))) in
        (λ listed. agree_removed a l (same.0 listed), λ there. same.1 (agree_removed (agree_sym a) (agree_known a l) there))

pub agree_complete_verdict : (object : Object) {h k : History} → Agree h k → {byte : ℕ} {listed : List ℕ} → CompleteVerdict object h byte listed
    → CompleteVerdict object k byte listed
agree_complete_verdict object a (CompleteVerdict.linearization x) = CompleteVerdict.linearization (agree_judged a x)
agree_complete_verdict object a (CompleteVerdict.violation x) = CompleteVerdict.violation (agree_first_violation object a x)

-- histories that agree still do when their open remove takes the same value
agree_taking : {h k : History} → Agree h k → (o : ℕ) {b : ℕ} → b < h.count → Agree (taking h o b) (taking k o b)
agree_taking {h} {k} a o {b} l = record {
  count = a.count;
  end = a.end;
  kind = λ p m. kind p m (ℕ_discrete p o);
  value = λ p m. value p m (ℕ_discrete p o);
  call = a.call;
  ret = λ p m. ret p m (ℕ_discrete p o);
}
  where
    kind : (p : ℕ) → p < h.count → Dec (p ≡ o) → (taking h o b).kind p ≡ (taking k o b).kind p
    kind p m (yes e) = rw (eq-eqb p o e) refl
    kind p m (no n) = rw (ne_eqb p o n) (a.kind p m)

    value : (p : ℕ) → p < h.count → Dec (p ≡ o) → (taking h o b).value p ≡ (taking k o b).value p
    value p m (yes e) = rw (eq-eqb p o e) (a.value b l)
    value p m (no n) = rw (ne_eqb p o n) (a.value p m)

    ret : (p : ℕ) → p < h.count → Dec (p ≡ o) → (taking h o b).ret p ≡ (taking k o b).ret p
    ret p m (yes e) = rw (eq-eqb p o e) (omega (arith, a.end))
    ret p m (no n) = rw (ne_eqb p o n) (a.ret p m)

agree_free : {h k : History} → Agree h k → {b : ℕ} → Free h b → Free k b
agree_free a free = record { adds = agree_is a free.adds; unremoved = agree_never a free.adds.known free.unremoved }

agree_succeeds : {h k : History} → Agree h k → Succeeds h → Succeeds k
agree_succeeds a (order, legal) = (order, agree_complete a legal)

-- They settle for histories that agree.
agree_settled : (object : Object) {h k j : History} → Agree h k → Settled object h j → (j' : History) × Settled object k j' × Agree j j'
agree_settled object {k = k} a left_out = (k, left_out, a)
agree_settled Queue {k = k} a (took {o = o} {a = b} is free fails lower) = (
  taking k o b,
  took
      (agree_is a is)
      (agree_free a free)
      (λ s. fails (agree_succeeds (agree_sym a) s))
      (λ c less free' s. lower c less (agree_free (agree_sym a) free') (agree_succeeds (agree_taking (agree_sym a) o free'.adds.known) s)),
  agree_taking a o free.adds.known,
)

pub agree_found_settled : {h k : History} → Agree h k → {order : List ℕ} → FoundSettled h order → FoundSettled k order
agree_found_settled a f =
    let (j, settles, agree) = agree_settled Queue a f.settles in
    record { settled = j; settles = settles; judged = agree_judged agree f.judged; found = agree_found agree f.found }

pub agree_verdict : (object : Object) {h k : History} → Agree h k → {byte : ℕ} {listed : List ℕ} → Verdict object h byte listed → Verdict object k byte listed
agree_verdict object a (Verdict.linearization s x) =
    let (j, settles, agree) = agree_settled object a s in
    Verdict.linearization settles (agree_judged agree x)
agree_verdict object {h} {k} a (Verdict.violation f none) = Verdict.violation (agree_first_violation object a f) (λ fate fate' s. go fate' s none)
  where
    go : {object : Object} {fate : History} → Fate object k fate → Succeeds fate → NoneSucceeds object h → ⊥
    go (takes_value {o = o} {a = b} is free) s none =
        let free' = agree_free (agree_sym a) free in
        none (taking h o b) (takes_value (agree_is (agree_sym a) is) free') (agree_succeeds (agree_taking (agree_sym a) o free.adds.known) s)
