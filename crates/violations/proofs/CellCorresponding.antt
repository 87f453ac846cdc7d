-- Patterns 7 to 10 on operations of two histories that correspond.
use Prim.Native.Nat.{ℕ}
use mathlib.Core.Path.{◌≡◌, refl, sym, ◌∙◌}
use mathlib.Core.Logic.{◌⊎◌, inl, inr}
use Rattle.history.specs.History.{History, write, read}
use Rattle.violations.specs.Cells.{On, Written, Unwritten, Premature, Crossed, Stale}
use Rattle.violations.specs.Parts.{HasValue}
use Rattle.violations.proofs.Corresponding.{Correspondence, corresponding_is}
use Rattle.violations.proofs.CellOperations.{write_on, read_on, written_on, on_valued}

module _ {h k : History} {Same : ℕ → ℕ → Type 0} (m : Correspondence h k Same) where
  -- corresponding operations are on a value together
  valued_there : {o q : ℕ} → Same o q → HasValue h o → HasValue k q
  valued_there s x = record { known = (m.known s).1; valued = rw (m.kind s) at x.valued }

  same_value : {o o' q q' v : ℕ} → Same o q → Same o' q' → On h v o → On h v o' → k.value q' ≡ k.value q
  same_value s s' on on' = (m.value s' s (valued_there s' (on_valued on')) (valued_there s (on_valued on))).0 (on'.is ∙ sym on.is)

  corresponding_on : {o o' q q' v : ℕ} → Same o q → Same o' q' → On h v o → On h v o' → On k (k.value q) q'
  corresponding_on {o' = o'} {q' = q'} s s' on on' = record { known = (m.known s').1; kinds = go on'.kinds; is = same_value s s' on on' }
    where
      go : (h.kind o' ≡ write) ⊎ (h.kind o' ≡ read) → (k.kind q' ≡ write) ⊎ (k.kind q' ≡ read)
      go (inl e) = inl (sym (m.kind s') ∙ e)
      go (inr e) = inr (sym (m.kind s') ∙ e)

  -- if the value of an operation of h is written in h, that of its counterpart is written in k, and the other way round
  corresponding_written : {o q v : ℕ} → Same o q → On h v o → Written h v → Written k (k.value q)
  corresponding_written s on w =
      let (q', s') = m.stays s (on_valued on) w.by (on_valued (written_on w)) (w.is ∙ sym on.is) in
      record { by = q'; writes = (corresponding_is m s').0 w.writes; is = same_value s s' on (written_on w) }

  written_back : {o q : ℕ} → Same o q → On k (k.value q) q → Written k (k.value q) → Written h (h.value o)
  written_back s on w =
      let (o', s') = m.whole s (on_valued on) w.by (on_valued (written_on w)) w.is in
      record { by = o'; writes = (corresponding_is m s').1 w.writes; is = (m.value s' s (on_valued (written_on w)) (on_valued on)).1 w.is }

  pub corresponding_unwritten : {r s : ℕ} → Same r s → Unwritten h r → Unwritten k s
  corresponding_unwritten same t =
      let there = (corresponding_is m same).0 t.reads in
      record { reads = there; never = λ w. t.never (written_back same (read_on there refl) w) }

  pub corresponding_premature : {r w r' w' : ℕ} → Same r r' → Same w w' → Premature h r w → Premature k r' w'
  corresponding_premature s s' t = record {
    reads = (corresponding_is m s).0 t.reads;
    writes = (corresponding_is m s').0 t.writes;
    same = same_value s' s (write_on t.writes) (read_on t.reads t.same);
    before = m.precedes s s' t.before;
  }

  pub corresponding_crossed : {o p q r o' p' q' r' : ℕ} → Same o o' → Same p p' → Same q q' → Same r r' → Crossed h o p q r → Crossed k o' p' q' r'
  corresponding_crossed {o' = o'} {p' = p'} so sp sq sr t = record {
    a = k.value o';
    b = k.value p';
    different = λ e.
        let same = (m.value so sp (valued_there so (on_valued t.first)) (valued_there sp (on_valued t.second))).1 e in
        t.different (sym t.first.is ∙ same ∙ t.second.is);
    a_written = corresponding_written so t.first t.a_written;
    b_written = corresponding_written sp t.second t.b_written;
    first = corresponding_on so so t.first t.first;
    second = corresponding_on sp sp t.second t.second;
    third = corresponding_on sp sq t.second t.third;
    fourth = corresponding_on so sr t.first t.fourth;
    forth = m.precedes so sp t.forth;
    back = m.precedes sq sr t.back;
  }

  pub corresponding_stale : {o i o' i' : ℕ} → Same o o' → Same i i' → Stale h o i → Stale k o' i'
  corresponding_stale {o' = o'} s s' t = record {
    value = k.value o';
    written = corresponding_written s t.on t.written;
    on = corresponding_on s s t.on t.on;
    reads = (corresponding_is m s').0 t.reads;
    before = m.precedes s s' t.before;
  }
