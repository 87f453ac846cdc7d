-- In a run from an empty queue the x-th remove with a value takes the value of the x-th add, and at an empty remove as many
-- values were removed as added. That a legal order rules the patterns out rests on this.
use Prim.Native.Nat.{ℕ, zero, suc, ◌+◌, ◌-◌, ◌≤◌, ◌<◌}
use native.Mathlib.Omega.{arith}
use native.Mathlib.Decide.{dec_lt, ℕ_discrete}
use mathlib.Core.Path.{◌≡◌, refl, sym, ap, ◌∙◌}
use mathlib.Core.List.{List, [], ◌∷◌, ◌++◌}
use lib.ListN.{length, get_or, drop, length-append, get_or-append}
use lib.Seq.{drop-cons, get_or-append_seam}
use lib.Dec.{eqb}
use borrow.Author.Tests.{eq-eqb, ne_eqb}
use Rattle.std.specs.Prelude.{if◌then◌else◌}
use Rattle.history.specs.History.{History, add, remove, empty_remove}
use Rattle.history.specs.Linearization.{Makes, puts, takes, meets, Fifo, placed}
use Rattle.history.proofs.Queues.{makes_empty}
use Rattle.history.proofs.Running.{run_first}

-- how many of the first k operations are of a kind
pub rank : History → List ℕ → ℕ → ℕ → ℕ
rank h order kind zero = 0
rank h order kind (suc k) = if eqb (h.kind (placed order k)) kind then suc (rank h order kind k) else rank h order kind k

module _ (h : History) (order : List ℕ) (kind : ℕ) where
  rank_here : (k : ℕ) → h.kind (placed order k) ≡ kind → rank h order kind (suc k) ≡ suc (rank h order kind k)
  unfolding rank
  rank_here k e = rw (eq-eqb _ _ e) refl

  rank_other : (k : ℕ) → (h.kind (placed order k) ≡ kind → ⊥) → rank h order kind (suc k) ≡ rank h order kind k
  unfolding rank
  rank_other k n = rw (ne_eqb _ _ n) refl

  -- ranks rise, from one operation of the kind to the next
  rank_step : (k : ℕ) → rank h order kind k ≤ rank h order kind (suc k)
  rank_step k = go (ℕ_discrete (h.kind (placed order k)) kind)
    where
      go : Dec (h.kind (placed order k) ≡ kind) → rank h order kind k ≤ rank h order kind (suc k)
      go (yes e) = omega (arith, rank_here k e)
      go (no n) = omega (arith, rank_other k n)

  rank_rises : (i k : ℕ) → i ≤ k → rank h order kind i ≤ rank h order kind k
  rank_rises i zero l = let e : i ≡ 0 = omega arith in rw e (omega arith)
  rank_rises i (suc k) l = go (dec_lt i (suc k)) (rank_rises i k)
    where
      go : Dec (i < suc k) → (i ≤ k → rank h order kind i ≤ rank h order kind k) → rank h order kind i ≤ rank h order kind (suc k)
      go (yes m) lower = omega (arith, lower (omega arith), rank_step k)
      go (no m) lower = let e : i ≡ suc k = omega arith in rw e (omega arith)

  pub rank_passed : (i k : ℕ) → i < k → h.kind (placed order i) ≡ kind → rank h order kind i < rank h order kind k
  rank_passed i k l e = omega (arith, rank_here i e, rank_rises (suc i) k (omega arith))

  -- the operation with a rank
  record Ranked (x k : ℕ) : Type 0 where
    at : ℕ
    below : at < k
    kinds : h.kind (placed order at) ≡ kind
    ranks : rank h order kind at ≡ x

  ranked : (x k : ℕ) → x < rank h order kind k → Ranked x k
  unfolding rank
  ranked x zero l = absurd (omega arith)
  ranked x (suc k) l = go (ℕ_discrete (h.kind (placed order k)) kind) (dec_lt x (rank h order kind k)) (ranked x k)
    where
      go : Dec (h.kind (placed order k) ≡ kind) → Dec (x < rank h order kind k) → (x < rank h order kind k → Ranked x k) → Ranked x (suc k)
      go d (yes m) lower = let r : Ranked x k = lower m in record { at = r.at; below = omega (arith, r.below); kinds = r.kinds; ranks = r.ranks }
      go (yes e) (no m) lower = record { at = k; below = omega arith; kinds = e; ranks = omega (arith, rank_here k e) }
      go (no n) (no m) lower = absurd (omega (arith, rank_other k n))

module _ (h : History) (order : List ℕ) where
  abbrev adds : ℕ → ℕ
  adds k = rank h order add k

  abbrev removes : ℕ → ℕ
  removes k = rank h order remove k

  abbrev kind_at : ℕ → ℕ
  kind_at i = h.kind (placed order i)

  abbrev value_at : ℕ → ℕ
  value_at i = h.value (placed order i)

  -- The queue after the first k operations: what was added and not removed, in the order of the adds.
  record Paired (k : ℕ) (queue : List ℕ) : Type 0 where
    count : adds k ≡ removes k + length queue
    waits : (i : ℕ) → i < k → kind_at i ≡ add → removes k ≤ adds i → get_or queue (adds i - removes k) 0 ≡ value_at i
    taken : (i l : ℕ) → i < k → l < k → kind_at i ≡ add → kind_at l ≡ remove → adds i ≡ removes l → value_at i ≡ value_at l

  paired_none : Paired 0 []
  unfolding rank
  paired_none = record { count = refl; waits = λ i l. absurd (omega arith); taken = λ i j l. absurd (omega arith) }

  -- an add has the rank that is next, and is behind all that wait
  paired_add : (k : ℕ) (queue : List ℕ) → Paired k queue → kind_at k ≡ add → Paired (suc k) (queue ++ (value_at k ∷ []))
  paired_add k queue m e = record {
    count = omega (arith, m.count, more, same, length-append queue (value_at k ∷ []));
    waits = λ i l a r. waits i l a (omega (arith, same)) (dec_lt i k);
    taken = λ i j l l' a r f. taken i j l l' a r f (dec_lt i k) (dec_lt j k);
  }
    where
      more : adds (suc k) ≡ suc (adds k)
      more = rank_here h order add k e

      same : removes (suc k) ≡ removes k
      same = rank_other h order remove k (λ f. omega arith)

      last : adds k - removes k ≡ length queue
      last = omega (arith, m.count)

      waits : (i : ℕ) → i < suc k → kind_at i ≡ add → removes k ≤ adds i → Dec (i < k) → get_or (queue ++ (value_at k ∷ [])) (adds i - removes (suc k)) 0 ≡ value_at i
      waits i l a r (yes b) = rw same (get_or-append queue (value_at k ∷ []) 0 (adds i - removes k) (omega (arith, m.count, rank_passed h order add i k b a)) ∙ m.waits i b a r)
      waits i l a r (no b) = let z : i ≡ k = omega arith in rw (z, same, last) (get_or-append_seam queue (value_at k) [] 0)

      taken : (i j : ℕ) → i < suc k → j < suc k → kind_at i ≡ add → kind_at j ≡ remove → adds i ≡ removes j → Dec (i < k) → Dec (j < k) → value_at i ≡ value_at j
      taken i j l l' a r f (yes b) (yes c) = m.taken i j b c a r f
      taken i j l l' a r f (no b) (yes c) = let z : i ≡ k = omega arith in absurd (omega (arith, ap adds z, m.count, rank_passed h order remove j k c r))
      taken i j l l' a r f d (no c) = let z : j ≡ k = omega arith in absurd (omega (arith, ap kind_at z))

  -- a remove has the rank of the add at the front
  paired_remove : (k v : ℕ) (queue : List ℕ) → Paired k (v ∷ queue) → kind_at k ≡ remove → value_at k ≡ v → Paired (suc k) queue
  paired_remove k v queue m e f = record {
    count = omega (arith, m.count, more, same);
    waits = λ i l a r. waits i l a (omega (arith, more)) (dec_lt i k);
    taken = λ i j l l' a r g. taken i j l l' a r g (dec_lt i k) (dec_lt j k);
  }
    where
      more : removes (suc k) ≡ suc (removes k)
      more = rank_here h order remove k e

      same : adds (suc k) ≡ adds k
      same = rank_other h order add k (λ g. omega arith)

      waits : (i : ℕ) → i < suc k → kind_at i ≡ add → suc (removes k) ≤ adds i → Dec (i < k) → get_or queue (adds i - removes (suc k)) 0 ≡ value_at i
      waits i l a r (yes b) = let next : adds i - removes k ≡ suc (adds i - removes (suc k)) = omega (arith, more) in rw next at (m.waits i b a (omega arith))
      waits i l a r (no b) = let z : i ≡ k = omega arith in absurd (omega (arith, ap kind_at z))

      taken : (i j : ℕ) → i < suc k → j < suc k → kind_at i ≡ add → kind_at j ≡ remove → adds i ≡ removes j → Dec (i < k) → Dec (j < k) → value_at i ≡ value_at j
      taken i j l l' a r g (yes b) (yes c) = m.taken i j b c a r g
      taken i j l l' a r g (yes b) (no c) =
          let z : j ≡ k = omega arith in
          let front : adds i - removes k ≡ 0 = omega (arith, ap removes z) in
          sym (m.waits i b a (omega (arith, ap removes z))) ∙ ap (λ x. get_or (v ∷ queue) x 0) front ∙ sym f ∙ ap value_at (sym z)
      taken i j l l' a r g (no b) d = let z : i ≡ k = omega arith in absurd (omega (arith, ap kind_at z))

  -- an empty remove changes nothing
  paired_empty : (k : ℕ) (queue : List ℕ) → Paired k queue → kind_at k ≡ empty_remove → Paired (suc k) queue
  paired_empty k queue m e = record {
    count = omega (arith, m.count, same_adds, same_removes);
    waits = λ i l a r. rw same_removes (m.waits i (earlier i l (λ f. omega arith)) a (omega (arith, same_removes)));
    taken = λ i j l l' a r. m.taken i j (earlier i l (λ f. omega arith)) (earlier j l' (λ f. omega arith)) a r;
  }
    where
      same_adds : adds (suc k) ≡ adds k
      same_adds = rank_other h order add k (λ f. omega arith)

      same_removes : removes (suc k) ≡ removes k
      same_removes = rank_other h order remove k (λ f. omega arith)

      earlier : (i : ℕ) → i < suc k → (kind_at i ≡ empty_remove → ⊥) → i < k
      earlier i l n = go (dec_lt i k)
        where
          go : Dec (i < k) → i < k
          go (yes b) = b
          go (no b) = let z : i ≡ k = omega arith in absurd (n (ap kind_at z ∙ e))

  paired_step : (k : ℕ) {queue queue' : List ℕ} → Paired k queue → Makes h (placed order k) queue queue' → Paired (suc k) queue'
  paired_step k m (puts {queue = queue} e) = paired_add k queue m e
  paired_step k m (takes {v = v} {queue = queue} e f) = paired_remove k v queue m e f
  paired_step k m (meets e) = paired_empty k [] m e

  -- how a run stands before the operation at k
  record Standing (k : ℕ) : Type 0 where
    queue : List ℕ
    paired : Paired k queue
    rest : Fifo h (drop k order) queue

  -- the add whose value a remove takes
  pub record Source (l : ℕ) : Type 0 where
    pub at : ℕ
    pub below : at < l
    pub adds_here : kind_at at ≡ add
    pub same : value_at at ≡ value_at l
    pub ranks : adds at ≡ removes l

  -- the remove that has taken the value of an add
  pub record Taken (i k : ℕ) : Type 0 where
    pub at : ℕ
    pub below : at < k
    pub removes_here : kind_at at ≡ remove
    pub same : value_at at ≡ value_at i

  module _ (run : Fifo h order []) where
    standing : (k : ℕ) → k ≤ length order → Standing k
    standing zero l = record { queue = []; paired = paired_none; rest = run }
    standing (suc k) l = next (standing k (omega arith))
      where
        next : Standing k → Standing (suc k)
        next s =
            let (queue', made, rest) = run_first (rw (drop-cons order k 0 (omega arith)) at s.rest) in
            record { queue = queue'; paired = paired_step k s.paired made; rest = rest }

    pub source : (l : ℕ) → l < length order → kind_at l ≡ remove → Source l
    source l b e = record { at = r.at; below = r.below; adds_here = r.kinds; same = after.taken r.at l (omega (arith, r.below)) (omega arith) r.kinds e r.ranks; ranks = r.ranks }
      where
        after : Paired (suc l) (standing (suc l) b).queue
        after = (standing (suc l) b).paired

        r : Ranked h order add (removes l) l
        r = ranked h order add (removes l) l (omega (arith, after.count, rank_here h order remove l e, rank_other h order add l (λ f. omega arith)))

    pub taken : (i k : ℕ) → i < k → k ≤ length order → kind_at i ≡ add → adds i < removes k → Taken i k
    taken i k l b e more = record { at = r.at; below = r.below; removes_here = r.kinds; same = sym ((standing k b).paired.taken i r.at l r.below e r.kinds (sym r.ranks)) }
      where
        r : Ranked h order remove (adds i) k
        r = ranked h order remove (adds i) k more

    -- before an empty remove all that was added is taken
    pub taken_before_empty : (i k : ℕ) → i < k → k < length order → kind_at i ≡ add → kind_at k ≡ empty_remove → Taken i k
    taken_before_empty i k l b a e = taken i k l (omega arith) a (omega (arith, rank_passed h order add i k l a, s.paired.count, ap length none))
      where
        s : Standing k
        s = standing k (omega arith)

        none : s.queue ≡ []
        none = makes_empty (run_first (rw (drop-cons order k 0 b) at s.rest)).1 e
