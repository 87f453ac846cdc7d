-- Histories that agree on their operations have the same patterns of a cell.
use Prim.Native.Nat.{ℕ}
use mathlib.Core.Path.{◌≡◌, sym, ◌∙◌}
use mathlib.Core.Logic.{◌⊎◌, inl, inr}
use mathlib.Core.List.{List}
use Rattle.history.specs.Object.{Cell}
use Rattle.history.specs.History.{History, write, read}
use Rattle.history.specs.Table.{Agree}
use Rattle.history.proofs.Agreeing.{agree_sym}
use Rattle.violations.specs.Cells.{On, Written}
use Rattle.violations.specs.Violations.{Occurs, unwritten, premature, crossed, stale}
use Rattle.violations.proofs.Agreeing.{agree_known, agree_is, agree_precedes}

agree_on : {h k : History} → Agree h k → {v o : ℕ} → On h v o → On k v o
agree_on {h} {k} a {v} {o} on = record { known = agree_known a on.known; kinds = go on.kinds; is = sym (a.value o on.known) ∙ on.is }
  where
    go : (h.kind o ≡ write) ⊎ (h.kind o ≡ read) → (k.kind o ≡ write) ⊎ (k.kind o ≡ read)
    go (inl e) = inl (sym (a.kind o on.known) ∙ e)
    go (inr e) = inr (sym (a.kind o on.known) ∙ e)

agree_written : {h k : History} → Agree h k → {v : ℕ} → Written h v → Written k v
agree_written a w = record { by = w.by; writes = agree_is a w.writes; is = sym (a.value w.by w.writes.known) ∙ w.is }

pub agree_cell_occurs : {h k : History} → Agree h k → {n : ℕ} {listed : List ℕ} → Occurs Cell h n listed → Occurs Cell k n listed
agree_cell_occurs a (unwritten {r = r} t) = unwritten (record {
  reads = agree_is a t.reads;
  never = λ w. t.never (rw (a.value r t.reads.known) (agree_written (agree_sym a) w));
})
agree_cell_occurs a (premature {r = r} {w = w} t) = premature (record {
  reads = agree_is a t.reads;
  writes = agree_is a t.writes;
  same = sym (a.value r t.reads.known) ∙ t.same ∙ a.value w t.writes.known;
  before = agree_precedes a t.reads.known t.writes.known t.before;
})
agree_cell_occurs a (crossed t) = crossed (record {
  a = t.a;
  b = t.b;
  different = t.different;
  a_written = agree_written a t.a_written;
  b_written = agree_written a t.b_written;
  first = agree_on a t.first;
  second = agree_on a t.second;
  third = agree_on a t.third;
  fourth = agree_on a t.fourth;
  forth = agree_precedes a t.first.known t.second.known t.forth;
  back = agree_precedes a t.third.known t.fourth.known t.back;
})
agree_cell_occurs a (stale t) = stale (record {
  value = t.value;
  written = agree_written a t.written;
  on = agree_on a t.on;
  reads = agree_is a t.reads;
  before = agree_precedes a t.on.known t.reads.known t.before;
})
