-- A legal order with a remove that has not returned exists exactly if there is one with it left out, or one with one of its fates.
use Prim.Native.Nat.{ℕ, suc, ◌≤◌, ◌<◌}
use native.Mathlib.Omega.{arith}
use native.Mathlib.Decide.{ℕ_discrete}
use mathlib.Core.Path.{◌≡◌, refl, sym, ap, ◌∙◌}
use mathlib.Core.Logic.{◌⊎◌, inl, inr, ◌↔◌}
use mathlib.Core.List.{List, [], ◌∷◌}
use lib.ListN.{length}
use borrow.Author.Tests.{eq-eqb}
use Rattle.reader.specs.Search.{None}
use Rattle.reader.proofs.Search.{Lowest, lowest}
use Rattle.history.specs.Object.{Queue}
use Rattle.history.specs.History.{History, add, remove, empty_remove, no_kind, Returned, Precedes, Lawful, Lone}
use Rattle.history.specs.RunFrom.{RunFrom, done, then}
use Rattle.history.specs.Linearization.{Makes, puts, takes, meets, Fifo, Moves, makes, takes_front, finds_none, placed, Listed, Ordering, Linearization, CompleteLinearization}
use Rattle.history.proofs.Running.{run_over}
use Rattle.history.proofs.Queues.{makes_kind, complete_linearization, linearization_complete}
use Rattle.violations.specs.Violations.{Is, RemoveOf, NoViolation}
use Rattle.violations.specs.Verdict.{SomeViolation}
use Rattle.violations.specs.Fates.{taking, Free, Fate, takes_value, Succeeds}
use Rattle.violations.proofs.Lists.{listed_here, listed_behind}
use Rattle.violations.proofs.Operations.{is?}
use Rattle.violations.proofs.FirstViolations.{first_violation}
use Rattle.violations.proofs.Excluding.{Served, served, single}
use Rattle.violations.proofs.CompleteVerdicts.{complete_exactly}
use Rattle.violations.proofs.Fates.{coming_back, ComesBack, coming_back_lem, taking_back, comes_back_lawful, is_here, remove_there, mends}

module _ {h k : History} {o : ℕ} (c : ComesBack h k o) where
  -- an operation other than o makes the same of a queue in both
  makes_there : {p : ℕ} {queue queue' : List ℕ} → (p ≡ o → ⊥) → Makes h p queue queue' → Makes k p queue queue'
  makes_there {p} n (puts e) = rw (← (c.value p n)) (puts (c.kind p n ∙ e))
  makes_there {p} n (takes e f) = takes (c.kind p n ∙ e) (c.value p n ∙ f)
  makes_there {p} n (meets e) = meets (c.kind p n ∙ e)

  makes_here : {p : ℕ} {queue queue' : List ℕ} → (p ≡ o → ⊥) → Makes k p queue queue' → Makes h p queue queue'
  makes_here {p} n (puts e) = rw (c.value p n) (puts (sym (c.kind p n) ∙ e))
  makes_here {p} n (takes e f) = takes (sym (c.kind p n) ∙ e) (sym (c.value p n) ∙ f)
  makes_here {p} n (meets e) = meets (sym (c.kind p n) ∙ e)

  -- where it comes back, it takes the front, or meets an empty queue
  back_moves : {p : ℕ} {queue queue' : List ℕ} → Makes k p queue queue' → Dec (p ≡ o) → Moves h p queue queue'
  back_moves made (no n) = makes (makes_here n made)
  back_moves {p} (puts a) (yes e) = absurd (omega (arith, ap k.kind e, c.kinded))
  back_moves {p} (takes r v) (yes e) = takes_front (ap h.kind e ∙ c.pending.kinds)
  back_moves {p} (meets r) (yes e) = finds_none (ap h.kind e ∙ c.pending.kinds)

  -- an order with it back is legal
  pub back_linearization : Lawful h → {order : List ℕ} → CompleteLinearization k order → Linearization Queue h order
  back_linearization lawful {order} legal = record {
    ordering = record {
      known = λ i l. omega (arith, o'.known i l, c.count);
      every = λ p l r.
          let n : p ≡ o → ⊥ = λ e. lawful.unreturned p l (ap h.kind e ∙ c.pending.kinds) r in
          o'.every p (omega (arith, c.count)) (omega (arith, c.ret p n, c.end));
      once = o'.once;
      keeps = λ i j l m before. o'.keeps i j l m (still (placed order j) (placed order i) (omega (arith, o'.known i (omega arith), c.count)) before);
    };
    runs = run_over (λ i l queue queue' made. back_moves made (ℕ_discrete (placed order i) o)) legal.runs;
  }
    where
      o' : Ordering k order
      o' = legal.ordering

      still : (p q : ℕ) → q < h.count → Precedes h p q → Precedes k p q
      still p q l before =
          let unreturned : h.ret o < h.end → ⊥ = lawful.unreturned o c.pending.known c.pending.kinds in
          let n : p ≡ o → ⊥ = λ e. omega (arith, ap h.ret e, lawful.spans q l, lawful.ends q l) in
          omega (arith, c.ret p n, c.call q)

  -- an order that lists it, and can be run with it back, is legal there
  back_complete : {order : List ℕ} → Ordering h order → Listed order o → Fifo k order [] → CompleteLinearization k order
  back_complete {order} ordering listed run = record {
    ordering = record {
      known = λ i l. omega (arith, ordering.known i l, c.count);
      every = λ p l r. every p (omega (arith, c.count)) r (ℕ_discrete p o);
      once = ordering.once;
      keeps = λ i j l m before.
          ordering.keeps i j l m (still (placed order j) (placed order i) (ordering.known i (omega arith)) before (ℕ_discrete (placed order j) o));
    };
    runs = run;
  }
    where
      every : (p : ℕ) → p < h.count → Returned k p → Dec (p ≡ o) → Listed order p
      every p l r (yes e) = rw e listed
      every p l r (no n) = ordering.every p l (omega (arith, c.ret p n, c.end))

      still : (p q : ℕ) → q < h.count → Precedes k p q → Dec (p ≡ o) → Precedes h p q
      still p q l before (yes e) = absurd (omega (arith, c.last q l, c.call q, ap k.ret e))
      still p q l before (no n) = omega (arith, c.ret p n, c.call q)

module _ {h : History} (lawful : Lawful h) (lone : Lone h) {o : ℕ} (pending : Is h no_kind o) where
  -- How operations are run: without it, or with it back as what it does where it stands.
  data Run (order queue : List ℕ) : Type 0 where
    without : Fifo h order queue → Run order queue
    with_back : (kind value : ℕ) → add < kind → kind ≤ empty_remove → Listed order o → Fifo (coming_back h o kind value) order queue → Run order queue

  -- an operation that has no kind is this one
  pending_one : {p : ℕ} → p < h.count → h.kind p ≡ no_kind → p ≡ o
  pending_one {p} known e = lone.one p o known pending.known e pending.kinds

  -- where it is not listed, operations are run alike with it back
  run_others : {k : History} → ComesBack h k o → {order queue : List ℕ} → ((i : ℕ) → i < length order → placed order i < h.count)
      → ((i : ℕ) → i < length order → placed order i ≡ o → ⊥)
      → RunFrom (Moves h) order queue → Fifo k order queue
  run_others {k} c {order} known other run = run_over (λ i l queue queue' moved. there (known i l) (other i l) moved) run
    where
      there : {p : ℕ} {queue queue' : List ℕ} → p < h.count → (p ≡ o → ⊥) → Moves h p queue queue' → Makes k p queue queue'
      there l n (makes made) = makes_there c n made
      there l n (takes_front e) = absurd (n (pending_one l e))
      there l n (finds_none e) = absurd (n (pending_one l e))

  run_of : {order queue : List ℕ} → ((i : ℕ) → i < length order → placed order i < h.count)
      → ((i j : ℕ) → i < j → j < length order → placed order i ≡ placed order j → ⊥)
      → RunFrom (Moves h) order queue → Run order queue
  run_of known once done = without done
  run_of known once (then {o = p} {order = order} moved rest) =
      go moved rest (run_of (λ i l. known (suc i) (omega arith)) (λ i j l m. once (suc i) (suc j) (omega arith) (omega arith)) rest)
    where
      behind : {queue queue' : List ℕ} → Makes h p queue queue' → Run order queue' → Run (p ∷ order) queue
      behind made (without run) = without (then made run)
      behind made (with_back kind value l m at run) =
          let other : p ≡ o → ⊥ = λ e. omega (arith, makes_kind made, ap h.kind e, pending.kinds) in
          with_back kind value l m (listed_behind p order at) (then (makes_there (coming_back_lem lone pending kind value l m) other made) run)

      -- it is this one, and stands nowhere else
      comes : (kind value : ℕ) → add < kind → kind ≤ empty_remove → p ≡ o → {queue queue' : List ℕ} → Makes (coming_back h o kind value) p queue queue'
          → RunFrom (Moves h) order queue' → Run (p ∷ order) queue
      comes kind value l m e made rest =
          with_back kind value l m (rw (← e) (listed_here p order))
          (then made (run_others (coming_back_lem lone pending kind value l m) (λ i b. known (suc i) (omega arith))
          (λ i b same. once 0 (suc i) (omega arith) (omega arith) (e ∙ sym same)) rest))

      go : {queue queue' : List ℕ} → Moves h p queue queue' → RunFrom (Moves h) order queue' → Run order queue' → Run (p ∷ order) queue
      go (makes made) rest further = behind made further
      go (takes_front {v = v} z) rest further =
          let e = pending_one (known 0 (omega arith)) z in
          comes remove v (omega arith) (omega arith) e (takes (rw (eq-eqb p o e) refl) (rw (eq-eqb p o e) refl)) rest
      go (finds_none z) rest further =
          let e = pending_one (known 0 (omega arith)) z in
          comes empty_remove 0 (omega arith) (omega arith) e (meets (rw (eq-eqb p o e) refl)) rest

  retaken : {a v : ℕ} → h.value a ≡ v → Succeeds (coming_back h o remove v) → Succeeds (taking h o a)
  retaken e success = rw (← e) at success

  -- Back with a value, it has taken that of an add that is not removed otherwise.
  back_taken : (v : ℕ) → Succeeds (coming_back h o remove v) → (a : ℕ) × Free h a × Succeeds (taking h o a)
  back_taken v (order, legal) = (s.adder, record { adds = adds; unremoved = λ r. otherwise r.0 r.1 }, retaken value (order, legal))
    where
      c : ComesBack h (coming_back h o remove v) o
      c = coming_back_lem lone pending remove v (omega arith) (omega arith)

      s : Served (comes_back_lawful lawful c) legal o
      s = served (comes_back_lawful lawful c) legal (record { known = pending.known; kinds = rw (eq-eqb o o refl) refl })

      other : s.adder ≡ o → ⊥
      other e = omega (arith, ap (coming_back h o remove v).kind e, s.adds.kinds, c.kinded)

      adds : Is h add s.adder
      adds = is_here c s.adds other

      value : h.value s.adder ≡ v
      value = sym (c.value s.adder other) ∙ sym s.removes.same ∙ rw (eq-eqb o o refl) refl

      otherwise : (r : ℕ) → RemoveOf h s.adder r → ⊥
      otherwise r out =
          let there = remove_there c adds out in
          let same : r ≡ o = single (comes_back_lawful lawful c) legal there.removes s.removes.removes (there.same ∙ sym s.removes.same) in
          omega (arith, ap h.kind same, out.removes.kinds, pending.kinds)

  -- Back empty, it has changed nothing, so there is an order with it left out.
  back_empty : (value : ℕ) → Succeeds (coming_back h o empty_remove value) → Succeeds h
  back_empty value success = go (first_violation Queue h)
    where
      c : ComesBack h (coming_back h o empty_remove value) o
      c = coming_back_lem lone pending empty_remove value (omega arith) (omega arith)

      go : SomeViolation Queue h ⊎ NoViolation Queue h → Succeeds h
      go (inl (n, listed, first)) =
          let (x, m) = mends lawful c ((complete_exactly (comes_back_lawful lawful c)).0 success) first.occurs in
          let empty : (coming_back h o empty_remove value).kind o ≡ empty_remove = rw (eq-eqb o o refl) refl in
          absurd (omega (arith, m.takes.removes.kinds))
      go (inr clean) = (complete_exactly lawful).1 clean

  from_run : {order : List ℕ} → Ordering h order → Run order [] → Succeeds h ⊎ ((a : ℕ) × Free h a × Succeeds (taking h o a))
  from_run {order} ordering (without run) = inl (order, record { ordering = ordering; runs = run })
  from_run {order} ordering (with_back kind value l m at run) =
      let legal : CompleteLinearization (coming_back h o kind value) order = back_complete (coming_back_lem lone pending kind value l m) ordering at run in
      go (ℕ_discrete kind remove) (order, legal)
    where
      go : Dec (kind ≡ remove) → Succeeds (coming_back h o kind value) → Succeeds h ⊎ ((a : ℕ) × Free h a × Succeeds (taking h o a))
      go (yes e) success = inr (back_taken value (rw e at success))
      go (no n) success = inl (back_empty value (let empty : kind ≡ empty_remove = omega arith in rw empty at success))

-- "some legal order exists in this wider sense" exactly if there is one with the remove left out, or with one of its fates.
pub linearization_exactly : {h : History} → Lawful h → Lone h
    → ((order : List ℕ) × Linearization Queue h order) ↔ (Succeeds h ⊎ ((fate : History) × Fate Queue h fate × Succeeds fate))
linearization_exactly {h} lawful lone = (λ (order, legal). from order legal (lowest (Is h no_kind) (is? h no_kind) h.count), to)
  where
    from : (order : List ℕ) → Linearization Queue h order → Lowest (Is h no_kind) h.count ⊎ None (Is h no_kind) h.count
        → Succeeds h ⊎ ((fate : History) × Fate Queue h fate × Succeeds fate)
    from order legal (inl s) =
        let run = run_of lawful lone s.holds legal.ordering.known legal.ordering.once legal.runs in
        go (from_run lawful lone s.holds legal.ordering run)
      where
        go : Succeeds h ⊎ ((a : ℕ) × Free h a × Succeeds (taking h s.at a)) → Succeeds h ⊎ ((fate : History) × Fate Queue h fate × Succeeds fate)
        go (inl success) = inl success
        go (inr (a, free, success)) = inr (taking h s.at a, takes_value s.holds free, success)
    from order legal (inr none) = inl (order, linearization_complete (λ i l. omega (arith, some i l)) legal)
      where
        some : (i : ℕ) → i < length order → h.kind (placed order i) ≡ no_kind → ⊥
        some i l e = none (placed order i) (legal.ordering.known i l) (record { known = legal.ordering.known i l; kinds = e })

    to : Succeeds h ⊎ ((fate : History) × Fate Queue h fate × Succeeds fate) → (order : List ℕ) × Linearization Queue h order
    to (inl (order, legal)) = (order, complete_linearization legal)
    to (inr (fate, takes_value {a = a} is free, (order, legal))) = (order, back_linearization (taking_back lone is a) lawful legal)
