-- Whether a list is a legal order of a history is decided, in a form that computes.
use Prim.Native.Nat.{ℕ, zero, suc, ◌<◌}
use native.Mathlib.Omega.{arith}
use native.Mathlib.Decide.{ℕ_discrete, dec_lt}
use mathlib.Core.Path.{◌≡◌}
use mathlib.Core.Logic.Dec
use mathlib.Core.Logic.{◌⊎◌, inl, inr, ⊎_elim}
use mathlib.Core.List.{List, [], ◌∷◌, ◌++◌}
use lib.ListN.{length}
use Rattle.reader.specs.Search.{None}
use Rattle.reader.proofs.Search.{Lowest, lowest}
use Rattle.history.specs.History.{History, add, remove, empty_remove, no_kind, Returned, Precedes}
use Rattle.history.specs.Object.{Object, Queue, Cell}
use Rattle.history.specs.Register.{Content, initial, holds, Stores, writes, reads, reads_initial}
use Rattle.history.specs.Linearization.{Makes, puts, takes, meets, Moves, makes, takes_front, finds_none, Runnable, placed, Listed, Linearization}
use Rattle.history.proofs.Basics.{up_to}
use Rattle.history.proofs.Running.{run?}
use Rattle.history.proofs.Queues.{moves_one}
use Rattle.history.proofs.Registers.{stores_one}

-- a statement on all numbers below a bound is decided by deciding it for each
unfoldable pub all_below? : {P : ℕ → Type 0} → ((i : ℕ) → Dec (P i)) → (n : ℕ) → Dec ((i : ℕ) → i < n → P i)
all_below? d zero = yes (λ i h. absurd (omega arith))
all_below? {P} d (suc n) = go (all_below? d n) (d n)
  where
    go : Dec ((i : ℕ) → i < n → P i) → Dec (P n) → Dec ((i : ℕ) → i < suc n → P i)
    go (yes all) (yes p) = yes (λ i h. up_to all p i (omega arith))
    go (yes all) (no q) = no (λ more. q (more n (omega arith)))
    go (no q) e = no (λ more. q (λ i h. more i (omega arith)))

-- that one statement follows from another is decided by deciding both
unfoldable pub implies? : {P Q : Type 0} → Dec P → Dec Q → Dec (P → Q)
implies? (yes p) (yes q) = yes (λ h. q)
implies? (yes p) (no n) = no (λ f. n (f p))
implies? (no n) e = yes (λ p. absurd (n p))

-- a statement is decided by deciding one that is equivalent
unfoldable pub equivalent? : {P Q : Type 0} → (P → Q) → (Q → P) → Dec P → Dec Q
equivalent? to from (yes p) = yes (to p)
equivalent? to from (no n) = no (λ q. n (from q))

-- that one of two statements holds is decided by deciding both
unfoldable pub either? : {P Q : Type 0} → Dec P → Dec Q → Dec (P ⊎ Q)
either? (yes p) e = yes (inl p)
either? (no n) (yes q) = yes (inr q)
either? (no n) (no m) = no (⊎_elim n m)

-- whether some number has a property, if only numbers below a bound have it
unfoldable pub some? : (P : ℕ → Type 0) → ((m : ℕ) → Dec (P m)) → (n : ℕ) → ((m : ℕ) → P m → m < n) → Dec ((m : ℕ) × P m)
unfolding lowest
some? P d n bounded = go (lowest P d n)
  where
    go : Lowest P n ⊎ None P n → Dec ((m : ℕ) × P m)
    go (inl s) = yes (s.at, s.holds)
    go (inr none) = no (λ s. none s.0 (bounded s.0 s.1) s.1)

-- whether an operation stands in an order
unfoldable pub listed? : (order : List ℕ) (o : ℕ) → Dec (Listed order o)
listed? [] o = no (λ l. omega (arith, l.below))
listed? (p ∷ order) o = go (ℕ_discrete p o) (listed? order o)
  where
    further : (p ≡ o → ⊥) → (i : ℕ) → i < length (p ∷ order) → placed (p ∷ order) i ≡ o → Listed order o
    further n zero below here = absurd (n here)
    further n (suc i) below here = record { at = i; below = omega arith; here = here }

    go : Dec (p ≡ o) → Dec (Listed order o) → Dec (Listed (p ∷ order) o)
    go (yes e) d = yes (record { at = 0; below = omega arith; here = e })
    go (no n) (yes l) = yes (record { at = suc l.at; below = omega (arith, l.below); here = l.here })
    go (no n) (no m) = no (λ l. m (further n l.at l.below l.here))

-- whether there is something that an operation makes of a queue
unfoldable pub makes? : (h : History) (o : ℕ) (queue : List ℕ) → Dec ((queue' : List ℕ) × Makes h o queue queue')
makes? h o [] = go (ℕ_discrete (h.kind o) add) (ℕ_discrete (h.kind o) empty_remove)
  where
    neither : (h.kind o ≡ add → ⊥) → (h.kind o ≡ empty_remove → ⊥) → {queue' : List ℕ} → Makes h o [] queue' → ⊥
    neither n m (puts a) = n a
    neither n m (meets e) = m e

    go : Dec (h.kind o ≡ add) → Dec (h.kind o ≡ empty_remove) → Dec ((queue' : List ℕ) × Makes h o [] queue')
    go (yes a) d = yes (h.value o ∷ [], puts a)
    go (no n) (yes e) = yes ([], meets e)
    go (no n) (no m) = no (λ made. neither n m made.1)
makes? h o (v ∷ queue) = go (ℕ_discrete (h.kind o) add) (Dec.and (ℕ_discrete (h.kind o) remove) (ℕ_discrete (h.value o) v))
  where
    neither : (h.kind o ≡ add → ⊥) → ((h.kind o ≡ remove) × (h.value o ≡ v) → ⊥) → {queue' : List ℕ} → Makes h o (v ∷ queue) queue' → ⊥
    neither n m (puts a) = n a
    neither n m (takes r e) = m (r, e)

    go : Dec (h.kind o ≡ add) → Dec ((h.kind o ≡ remove) × (h.value o ≡ v)) → Dec ((queue' : List ℕ) × Makes h o (v ∷ queue) queue')
    go (yes a) d = yes (v ∷ queue ++ (h.value o ∷ []), puts a)
    go (no n) (yes t) = yes (queue, takes t.0 t.1)
    go (no n) (no m) = no (λ made. neither n m made.1)

-- whether there is something that an operation may do to a queue
unfoldable pub moves? : (h : History) (o : ℕ) (queue : List ℕ) → Dec ((queue' : List ℕ) × Moves h o queue queue')
unfolding makes?
moves? h o queue = go queue (makes? h o queue) (ℕ_discrete (h.kind o) no_kind)
  where
    pending : (queue : List ℕ) → h.kind o ≡ no_kind → (queue' : List ℕ) × Moves h o queue queue'
    pending [] e = ([], finds_none e)
    pending (v ∷ queue) e = (queue, takes_front e)

    neither : {queue : List ℕ} → ((queue' : List ℕ) × Makes h o queue queue' → ⊥) → (h.kind o ≡ no_kind → ⊥) → {queue' : List ℕ} → Moves h o queue queue' → ⊥
    neither n m (makes {queue' = queue'} made) = n (queue', made)
    neither n m (takes_front e) = m e
    neither n m (finds_none e) = m e

    go : (queue : List ℕ) → Dec ((queue' : List ℕ) × Makes h o queue queue') → Dec (h.kind o ≡ no_kind) → Dec ((queue' : List ℕ) × Moves h o queue queue')
    go queue (yes made) d = yes (made.0, makes made.1)
    go queue (no n) (yes e) = yes (pending queue e)
    go queue (no n) (no m) = no (λ moved. neither n m moved.1)

-- whether there is something that an operation makes of a cell
unfoldable pub stores? : (h : History) (o : ℕ) (c : Content) → Dec ((c' : Content) × Stores h o c c')
stores? h o initial = go (ℕ_discrete (h.kind o) add) (ℕ_discrete (h.kind o) empty_remove)
  where
    neither : (h.kind o ≡ add → ⊥) → (h.kind o ≡ empty_remove → ⊥) → {c' : Content} → Stores h o initial c' → ⊥
    neither n m (writes a) = n a
    neither n m (reads_initial e) = m e

    go : Dec (h.kind o ≡ add) → Dec (h.kind o ≡ empty_remove) → Dec ((c' : Content) × Stores h o initial c')
    go (yes a) d = yes (holds (h.value o), writes a)
    go (no n) (yes e) = yes (initial, reads_initial e)
    go (no n) (no m) = no (λ made. neither n m made.1)
stores? h o (holds v) = go (ℕ_discrete (h.kind o) add) (Dec.and (ℕ_discrete (h.kind o) remove) (ℕ_discrete (h.value o) v))
  where
    neither : (h.kind o ≡ add → ⊥) → ((h.kind o ≡ remove) × (h.value o ≡ v) → ⊥) → {c' : Content} → Stores h o (holds v) c' → ⊥
    neither n m (writes a) = n a
    neither n m (reads r e) = m (r, e)

    go : Dec (h.kind o ≡ add) → Dec ((h.kind o ≡ remove) × (h.value o ≡ v)) → Dec ((c' : Content) × Stores h o (holds v) c')
    go (yes a) d = yes (holds (h.value o), writes a)
    go (no n) (yes t) = yes (holds v, reads t.0 t.1)
    go (no n) (no m) = no (λ made. neither n m made.1)

-- whether an order can be run from the start
unfoldable pub runs? : (object : Object) (h : History) (order : List ℕ) → Dec (Runnable object h order)
unfolding run? moves? stores?
runs? Queue h order = run? (λ o queue left right. moves_one) (moves? h) order []
runs? Cell h order = run? (λ o c left right. stores_one) (stores? h) order initial

-- whether an order lists every returned operation
unfoldable pub every? : (h : History) (order : List ℕ) → Dec ((o : ℕ) → o < h.count → Returned h o → Listed order o)
unfolding all_below? implies? listed? dec_lt
every? h order = all_below? (λ o. implies? (dec_lt _ _) (listed? order o)) h.count

-- whether no operation comes before one that precedes it
unfoldable pub keeps? : (h : History) (order : List ℕ) → Dec ((j : ℕ) → j < length order → (i : ℕ) → i < j → Precedes h (placed order j) (placed order i) → ⊥)
unfolding all_below? dec_lt Dec.not
keeps? h order = all_below? (λ j. all_below? (λ i. Dec.not (dec_lt _ _)) j) (length order)

-- whether a list is a legal order of a history
unfoldable pub linearization? : (object : Object) (h : History) (order : List ℕ) → Dec (Linearization object h order)
unfolding all_below? equivalent? every? keeps? makes? moves? stores? run? runs? ℕ_discrete dec_lt Dec.and Dec.not
linearization? object h order =
    equivalent?
    (λ p. record {
      ordering = record { known = p.0; every = p.1.0; once = λ i j l m. p.1.1.0 j m i l; keeps = λ i j l m. p.1.1.1.0 j m i l };
      runs = p.1.1.1.1;
    })
    (λ l. let o = l.ordering in (o.known, (o.every, (λ j m i k. o.once i j k m, (λ j m i k. o.keeps i j k m, l.runs)))))
    (Dec.and (all_below? (λ i. dec_lt (placed order i) h.count) (length order))
    (Dec.and (every? h order)
    (Dec.and (all_below? (λ j. all_below? (λ i. Dec.not (ℕ_discrete (placed order i) (placed order j))) j) (length order))
    (Dec.and (keeps? h order)
    (runs? object h order)))))
