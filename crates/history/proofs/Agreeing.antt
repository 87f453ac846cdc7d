-- Histories that agree on their operations have the same legal orders. Nothing is known of numbers that are no operations,
-- so a run goes over from one history to the other along with the fact that it lists operations only.
use Prim.Native.Nat.{ℕ, ◌<◌}
use native.Mathlib.Omega.{arith}
use mathlib.Core.Path.{sym, ◌∙◌}
use mathlib.Core.List.{List}
use lib.ListN.{length}
use Rattle.history.specs.History.{History}
use Rattle.history.specs.Object.{Object, Queue, Cell}
use Rattle.history.specs.Register.{Content, Stores, writes, reads, reads_initial}
use Rattle.history.specs.Linearization.{Makes, puts, takes, meets, Moves, makes, takes_front, finds_none, Runnable, placed, Ordering, Linearization, CompleteLinearization}
use Rattle.history.specs.Table.{Agree}
use Rattle.history.proofs.Running.{run_over}

pub agree_sym : {h k : History} → Agree h k → Agree k h
agree_sym a = record {
  count = sym a.count;
  end = sym a.end;
  kind = λ o l. sym (a.kind o (omega (arith, a.count)));
  value = λ o l. sym (a.value o (omega (arith, a.count)));
  call = λ o l. sym (a.call o (omega (arith, a.count)));
  ret = λ o l. sym (a.ret o (omega (arith, a.count)));
}

-- an operation makes the same of a queue in both
agree_makes : {h k : History} → Agree h k → (o : ℕ) → o < h.count → {queue queue' : List ℕ} → Makes h o queue queue' → Makes k o queue queue'
agree_makes a o l (puts e) = rw (a.value o l) (puts (sym (a.kind o l) ∙ e))
agree_makes a o l (takes e f) = takes (sym (a.kind o l) ∙ e) (sym (a.value o l) ∙ f)
agree_makes a o l (meets e) = meets (sym (a.kind o l) ∙ e)

agree_moves : {h k : History} → Agree h k → (o : ℕ) → o < h.count → {queue queue' : List ℕ} → Moves h o queue queue' → Moves k o queue queue'
agree_moves a o l (makes made) = makes (agree_makes a o l made)
agree_moves a o l (takes_front e) = takes_front (sym (a.kind o l) ∙ e)
agree_moves a o l (finds_none e) = finds_none (sym (a.kind o l) ∙ e)

-- and of a cell
agree_stores : {h k : History} → Agree h k → (o : ℕ) → o < h.count → {c c' : Content} → Stores h o c c' → Stores k o c c'
agree_stores a o l (writes e) = rw (a.value o l) (writes (sym (a.kind o l) ∙ e))
agree_stores a o l (reads e f) = reads (sym (a.kind o l) ∙ e) (sym (a.value o l) ∙ f)
agree_stores a o l (reads_initial e) = reads_initial (sym (a.kind o l) ∙ e)

-- operations that can be run in one can be run in the other
agree_runs : (object : Object) {h k : History} → Agree h k → (order : List ℕ) → ((i : ℕ) → i < length order → placed order i < h.count)
    → Runnable object h order → Runnable object k order
agree_runs Queue a order known run = run_over (λ i l queue queue'. agree_moves a (placed order i) (known i l)) run
agree_runs Cell a order known run = run_over (λ i l c c'. agree_stores a (placed order i) (known i l)) run

agree_ordering : {h k : History} → Agree h k → {order : List ℕ} → Ordering h order → Ordering k order
agree_ordering {h} a {order} o = record {
  known = λ i below. omega (arith, o.known i below, a.count);
  every = λ p below returned. let there : p < h.count = omega (arith, a.count) in o.every p there (omega (arith, a.ret p there, a.end));
  once = o.once;
  keeps = λ i j before below precedes.
      o.keeps i j before below (omega (arith, a.ret (placed order j) (o.known j below), a.call (placed order i) (o.known i (omega arith))));
}

pub agree_linearization : (object : Object) {h k : History} → Agree h k → {order : List ℕ} → Linearization object h order → Linearization object k order
agree_linearization object a {order} legal = record {
  ordering = agree_ordering a legal.ordering;
  runs = agree_runs object a order legal.ordering.known legal.runs;
}

pub agree_complete : {h k : History} → Agree h k → {order : List ℕ} → CompleteLinearization h order → CompleteLinearization k order
agree_complete a {order} legal = record {
  ordering = agree_ordering a legal.ordering;
  runs = run_over (λ i l queue queue'. agree_makes a (placed order i) (legal.ordering.known i l)) legal.runs;
}
