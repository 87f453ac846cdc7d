-- The search for an order of a cell's history, step by step: it starts, it may place any operation that is placeable, and where
-- nothing is left it has listed a legal order.
use Prim.Native.Nat.{ℕ, ◌<◌}
use native.Mathlib.Omega.{arith}
use native.Mathlib.Decide.{ℕ_discrete, dec_lt}
use mathlib.Core.Path.{◌≡◌, refl, sym, ap, ◌∙◌}
use mathlib.Core.Logic.{◌⊎◌, inl, inr}
use mathlib.Core.List.{List, [], ◌∷◌, append-nil}
use lib.Seq.{append_snoc}
use Rattle.history.specs.Object.{Cell}
use Rattle.history.specs.History.{History, write, read, initial_read, Precedes, Lawful}
use Rattle.history.specs.RunFrom.{done, then}
use Rattle.history.specs.Register.{Stores, Register}
use Rattle.history.specs.Register as cell
use Rattle.history.specs.Linearization.{Listed}
use Rattle.history.proofs.Running.{run_first}
use Rattle.history.proofs.Registers.{stores_one}
use Rattle.violations.specs.Operation.{Is}
use Rattle.violations.specs.Cells.{On}
use Rattle.violations.specs.Verdict.{JudgedLinearization}
use Rattle.violations.specs.Greedy.{Left, Placeable}
use Rattle.violations.specs.CellSearch.{Current, nothing, wrote, content_of, Reads, of_initial, of_written, AllRead, Safe, Serves, reads, writes, Sound, Searched}
use Rattle.violations.proofs.Lists.{snoc, listed_none, listed_old, listed_new}
use Rattle.violations.proofs.Operations.{precedes_unless_after}
use Rattle.violations.proofs.Greedy.{left_before, left_still, Earliest, earliest, called_enabled, earliest_enabled, begun_none, begun_more, begun_judged}
use Rattle.violations.proofs.CellRuns.{initial_apart}
use Rattle.violations.proofs.CellOperations.{read_on, due_on}
use Rattle.violations.proofs.CellDeciding.{on?}

-- what placing an operation makes of the cell
serves_stores : {h : History} {order : List ℕ} {o : ℕ} {c c' : Current} → Serves h order o c c' → Stores h o (content_of h c) (content_of h c')
serves_stores (reads (of_initial i)) = cell.reads_initial i.kinds
serves_stores (reads (of_written r e)) = cell.reads r.kinds e
serves_stores (writes w all safe) = cell.writes w.kinds

-- nothing is written, or there is a latest write, and only one
nothing_apart : (h : History) {w : ℕ} → nothing ≡ wrote w → ⊥
nothing_apart h e = initial_apart (ap (content_of h) e)

wrote_one : {v w : ℕ} → wrote v ≡ wrote w → v ≡ w
wrote_one {v} {w} e = cc

-- the search starts with nothing placed
pub cell_starts : {h : History} → Searched h [] nothing
cell_starts {h} = record {
  begun = begun_none;
  runs = λ more r. r;
  follows = λ more r. r;
  current = λ w e. absurd (nothing_apart h e);
  served = λ r w is l is' same. inl (record {
    due = record { known = is'.known; kinded = omega (arith, is'.kinds); listed = inr (r, record { removes = is; same = same }) };
    unplaced = listed_none;
  });
  initials = λ i is l. refl;
  block = λ sound w x y e. absurd (nothing_apart h e);
}

-- where no read of what the cell holds is left, no initial read is
pub no_initial : {h : History} {order : List ℕ} {c : Current} → Searched h order c → AllRead h order c → {y : ℕ} → Left h order y → h.kind y ≡ initial_read → ⊥
no_initial {h} s all {y} l k = let i : Is h initial_read y = record { known = l.due.known; kinds = k } in all y l (rw (s.initials y i l) (of_initial i))

module _ {h : History} (lawful : Lawful h) {order : List ℕ} {c : Current} (s : Searched h order c) where
  -- A write that is safe against what is enabled is safe against all that is left, if no pattern occurs. Let p be the first of
  -- what is left to return, and y left and not enabled, so that p precedes y. If p is on the value of the write and y preceded
  -- an operation x on it, the two values would cross; if p is not, x is called before p returns, and so before y does.
  safe_for_all : Sound h → {o : ℕ} → AllRead h order c → Safe h order o → (x y : ℕ) → On h (h.value o) x → Left h order y
      → (On h (h.value o) y → ⊥) → h.call x < h.ret y
  safe_for_all sound {o} all safe x y on l other = let (p, soonest) = earliest l in go p soonest (dec_lt (h.call y) (h.ret p))
    where
      on_y : On h (h.value y) y
      on_y = due_on lawful l.due (no_initial s all l)

      behind : (p : ℕ) → Earliest h order p → Precedes h p y → Dec (On h (h.value o) p) → h.call x < h.ret y
      behind p soonest before (yes on-p) =
          let no-cross : Precedes h y x → ⊥ = sound.uncrossed (h.value o) (h.value y) p y y x (λ e. other (rw e on_y)) on-p on_y on_y on before in
          let apart : h.ret y ≡ h.call x → ⊥ = lawful.apart y x l.due.known on.known in
          omega arith
      behind p soonest before (no n) = omega (arith, safe.calls x p on (earliest_enabled lawful soonest) n, lawful.spans y l.due.known)

      go : (p : ℕ) → Earliest h order p → Dec (h.call y < h.ret p) → h.call x < h.ret y
      go p soonest (yes b) = safe.calls x y on (called_enabled soonest l b) other
      go p soonest (no b) = behind p soonest (precedes_unless_after lawful soonest.left.due.known l.due.known (omega arith)) (on? h (h.value o) p)

  -- any placeable operation may be placed
  pub cell_places : {c' : Current} {o : ℕ} → Placeable h (Serves h) order c o c' → Searched h (snoc order o) c'
  cell_places {c'} {o} p = record {
    begun = begun_more s.begun p.enabled;
    runs = λ more r. rw (append_snoc order o more) (s.runs (o ∷ more) (then (serves_stores p.serves) r));
    follows = λ more r. follows p.serves (s.follows (o ∷ more) (rw (append_snoc order o more) at r));
    current = λ w e. current p.serves w e;
    served = λ r w is l is' same. served p.serves r w is l is' same;
    initials = λ i is l. initials p.serves i is l;
    block = λ sound w x y e lx rx same ly n. block p.serves sound w x y e lx rx same ly n;
  }
    where
      follows : {c' : Current} {more : List ℕ} → Serves h order o c c' → Register h (o ∷ more) (content_of h c) → Register h more (content_of h c')
      follows serves run = let (there, stored, rest) = run_first run in rw (stores_one (serves_stores serves) stored) rest

      current : {c' : Current} → Serves h order o c c' → (w : ℕ) → c' ≡ wrote w → Is h write w × Listed (snoc order o) w
      current (reads x) w e = ((s.current w e).0, listed_old order o (s.current w e).1)
      current (writes is all safe) w e = rw (← (wrote_one e)) (is, listed_new order o)

      served : {c' : Current} → Serves h order o c c' → (r w : ℕ) → Is h read r → Left h (snoc order o) r → Is h write w → h.value r ≡ h.value w
          → Left h (snoc order o) w ⊎ (c' ≡ wrote w)
      served (reads x) r w is l is' same = go (s.served r w is (left_before order o l) is' same)
        where
          other : {d : Current} → Reads h o d → o ≡ w → ⊥
          other (of_initial i) e = omega (arith, ap h.kind e, i.kinds, is'.kinds)
          other (of_written i q) e = omega (arith, ap h.kind e, i.kinds, is'.kinds)

          go : Left h order w ⊎ (c ≡ wrote w) → Left h (snoc order o) w ⊎ (c ≡ wrote w)
          go (inl m) = inl (left_still order o m (other x))
          go (inr e) = inr e
      served (writes is'' all safe) r w is l is' same = go (s.served r w is (left_before order o l) is' same) (ℕ_discrete o w)
        where
          go : Left h order w ⊎ (c ≡ wrote w) → Dec (o ≡ w) → Left h (snoc order o) w ⊎ (wrote o ≡ wrote w)
          go d (yes e) = inr (ap wrote e)
          go (inl m) (no n) = inl (left_still order o m n)
          go (inr e) (no n) = absurd (all r (left_before order o l) (rw e (of_written is same)))

      initials : {c' : Current} → Serves h order o c c' → (i : ℕ) → Is h initial_read i → Left h (snoc order o) i → c' ≡ nothing
      initials (reads x) i is l = s.initials i is (left_before order o l)
      initials (writes is' all safe) i is l = absurd (no_initial s all (left_before order o l) is.kinds)

      block : {c' : Current} → Serves h order o c c' → Sound h → (w x y : ℕ) → c' ≡ wrote w → Left h (snoc order o) x → Is h read x → h.value x ≡ h.value w
          → Left h (snoc order o) y → (On h (h.value w) y → ⊥) → h.call x < h.ret y
      block (reads r) sound w x y e lx rx same ly n = s.block sound w x y e (left_before order o lx) rx same (left_before order o ly) n
      block (writes is all safe) sound w x y e lx rx same ly n =
          let value : h.value o ≡ h.value w = ap h.value (wrote_one e) in
          safe_for_all sound all safe x y (read_on rx (same ∙ sym value)) (left_before order o ly) (λ on. n (rw value at on))

  -- where nothing is left, a legal order is listed, with an open write exactly if its value was read
  pub cell_ends : ((o : ℕ) → Left h order o → ⊥) → JudgedLinearization Cell h order
  cell_ends none = begun_judged Cell lawful s.begun (rw (append-nil order) at (s.runs [] done)) none
