-- Where no pattern occurs in a cell's history, the search finds a legal order.
use Prim.Native.Nat.{ℕ}
use native.Mathlib.Omega.{arith}
use native.Mathlib.Decide.{dec_lt}
use mathlib.Core.Path.{◌≡◌, refl}
use mathlib.Core.Logic.Dec
use mathlib.Core.Logic.{◌⊎◌, inl, inr}
use mathlib.Core.List.{List, [], ◌∷◌}
use Rattle.history.specs.Object.{Cell}
use Rattle.history.specs.History.{History, write, read, Precedes, Lawful}
use Rattle.history.proofs.Deciding.{all_below?, implies?, equivalent?}
use Rattle.violations.specs.Operation.{Is}
use Rattle.violations.specs.Cells.{On, Written}
use Rattle.violations.specs.Violations.{unwritten, premature, crossed, stale, NoViolation}
use Rattle.violations.specs.Verdict.{JudgedLinearization}
use Rattle.violations.specs.Greedy.{Continues}
use Rattle.violations.specs.CellSearch.{Current, nothing, wrote, Reads, AllRead, Safe, Serves, reads, writes, Sound, Searched}
use Rattle.violations.proofs.Operations.{is?}
use Rattle.violations.proofs.Greedy.{left?, enabled?, Search, search_finds}
use Rattle.violations.proofs.CellOperations.{read_on}
use Rattle.violations.proofs.CellDeciding.{written?, on?}
use Rattle.violations.proofs.CellPlacing.{cell_starts, cell_places, cell_ends}
use Rattle.violations.proofs.CellProgress.{reads?, cell_goes_on}

module _ {h : History} (lawful : Lawful h) (clean : NoViolation Cell h) where
  -- an operation on a value has that value written
  on_written : {v o : ℕ} → On h v o → Written h v
  on_written {v} {o} on = go on.kinds (written? h v)
    where
      go : (h.kind o ≡ write) ⊎ (h.kind o ≡ read) → Dec (Written h v) → Written h v
      go k (yes w) = w
      go (inl k) (no n) = record { by = o; writes = record { known = on.known; kinds = k }; is = on.is }
      go (inr k) (no n) = absurd (clean 7 (o ∷ []) (unwritten (record { reads = record { known = on.known; kinds = k }; never = λ w. n (rw on.is at w) })))

  pub clean_sound : Sound h
  clean_sound = record {
    named = λ r is. on_written (read_on is refl);
    timely = λ r w is is' same.
        let not_before : Precedes h r w → ⊥ = λ before. clean 8 (r ∷ w ∷ []) (premature (record { reads = is; writes = is'; same = same; before = before })) in
        let apart : h.ret r ≡ h.call w → ⊥ = lawful.apart r w is.known is'.known in
        omega arith;
    uncrossed = λ a b o p q r different on-o on-p on-q on-r forth back.
        clean 9 (o ∷ p ∷ q ∷ r ∷ []) (crossed (record {
          a = a;
          b = b;
          different = different;
          a_written = on_written on-o;
          b_written = on_written on-p;
          first = on-o;
          second = on-p;
          third = on-q;
          fourth = on-r;
          forth = forth;
          back = back;
        }));
    fresh = λ o i on is before. clean 10 (o ∷ i ∷ []) (stale (record { value = h.value o; written = on_written on; on = on; reads = is; before = before }));
  }

-- whether an operation may be placed, as far as the cell is concerned
module _ (h : History) (order : List ℕ) where
  safe? : (w : ℕ) → Dec (Safe h order w)
  safe? w =
      equivalent? (λ p. record { calls = λ x y on e n. p x on.known y e.left.due.known on e n }) (λ s x l y m. s.calls x y)
      (all_below? (λ x. all_below? (λ y. implies? (on? h (h.value w) x)
      (implies? (enabled? h order y) (implies? (Dec.not (on? h (h.value w) y)) (dec_lt _ _)))) h.count) h.count)

  all_read? : (c : Current) → Dec (AllRead h order c)
  all_read? c = equivalent? (λ p x l. p x l.due.known l) (λ n x l. n x) (all_below? (λ x. implies? (left? h order x) (Dec.not (reads? h c x))) h.count)

  serves? : (o : ℕ) (c : Current) → Dec ((c' : Current) × Serves h order o c c')
  serves? o c = go (reads? h c o) (Dec.and (is? h write o) (Dec.and (all_read? c) (safe? o)))
    where
      go : Dec (Reads h o c) → Dec (Is h write o × (AllRead h order c × Safe h order o)) → Dec ((c' : Current) × Serves h order o c c')
      go (yes r) d = yes (c, reads r)
      go (no m) (yes (w, (n, s))) = yes (wrote o, writes w n s)
      go (no m) (no n) = no (λ p. by p.1)
        where
          by : {c' : Current} → Serves h order o c c' → ⊥
          by (reads r) = m r
          by (writes is all safe) = n (is, (all, safe))

-- The search for an order of a cell's history.
cell_search : {h : History} → Lawful h → Sound h → Search h (Serves h) (Searched h)
cell_search {h} lawful sound = record {
  begun = λ order c s. s.begun;
  places_more = λ order c c' o s. cell_places lawful s;
  goes_on = λ order c o s. cell_goes_on lawful sound s;
  serves? = serves? h;
}

-- Where no pattern occurs, it finds a legal order.
pub cell_found_exists : {h : History} → Lawful h → NoViolation Cell h
    → (order : List ℕ) × JudgedLinearization Cell h order × Continues h (Serves h) [] nothing order
cell_found_exists lawful clean =
    let f = search_finds (cell_search lawful (clean_sound lawful clean)) nothing cell_starts in
    (f.more, cell_ends lawful f.searched f.none_left, f.continues)
