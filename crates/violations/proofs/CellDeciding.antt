-- Whether one of the patterns 7 to 10 occurs with a list of operations, in a form that computes.
use Prim.Native.Nat.{ℕ}
use native.Mathlib.Decide.{ℕ_discrete, dec_lt}
use mathlib.Core.Path.{◌≡◌, refl}
use mathlib.Core.Logic.Dec
use mathlib.Core.Logic.{◌⊎◌, inl, inr}
use mathlib.Core.List.{List, [], ◌∷◌}
use Rattle.history.specs.Object.{Cell}
use Rattle.history.specs.History.{History, write, initial_read, Precedes}
use Rattle.history.proofs.Deciding.{equivalent?, some?, either?}
use Rattle.violations.specs.Cells.{On, Written, Unwritten, Premature, Crossed, Stale}
use Rattle.violations.specs.Violations.{Is, Occurs, unwritten, premature, crossed, stale}
use Rattle.violations.proofs.Operations.{is?}

-- whether a value is written, and whether an operation is on it
unfoldable pub written? : (h : History) (v : ℕ) → Dec (Written h v)
unfolding equivalent? Dec.and some? is? ℕ_discrete
written? h v =
    equivalent? (λ (w : (w : ℕ) × (Is h write w × (h.value w ≡ v))). record { by = w.0; writes = w.1.0; is = w.1.1 }) (λ w. (w.by, (w.writes, w.is)))
    (some? (λ w. Is h write w × (h.value w ≡ v)) (λ w. Dec.and (is? _ _ _) (ℕ_discrete _ _)) h.count (λ w p. p.0.known))

unfoldable pub on? : (h : History) (v o : ℕ) → Dec (On h v o)
unfolding equivalent? Dec.and either? ℕ_discrete dec_lt
on? h v o =
    equivalent? {P = _ × (_ × _)} (λ p. record { known = p.0; kinds = p.1.0; is = p.1.1 }) (λ on. (on.known, (on.kinds, on.is)))
    (Dec.and (dec_lt _ _) (Dec.and (either? (ℕ_discrete _ _) (ℕ_discrete _ _)) (ℕ_discrete _ _)))

-- whether operations are an occurrence of a pattern, for each of the four
unwritten? : (h : History) (r : ℕ) → Dec (Unwritten h r)
unfolding equivalent? Dec.and Dec.not is? written?
unwritten? h r =
    equivalent? {P = _ × (_ → ⊥)} (λ p. record { reads = p.0; never = p.1 }) (λ t. (t.reads, t.never))
    (Dec.and (is? _ _ _) (Dec.not (written? _ _)))

premature? : (h : History) (r w : ℕ) → Dec (Premature h r w)
unfolding equivalent? Dec.and is? ℕ_discrete dec_lt
premature? h r w =
    equivalent? {P = _ × (_ × (_ × _))} (λ p. record { reads = p.0; writes = p.1.0; same = p.1.1.0; before = p.1.1.1 })
    (λ t. (t.reads, (t.writes, (t.same, t.before))))
    (Dec.and (is? _ _ _) (Dec.and (is? _ _ _) (Dec.and (ℕ_discrete _ _) (dec_lt _ _))))

-- The values of a crossing are those of its first two operations. What is quickly tested comes first, so that rows are computed
-- quickly.
crossed? : (h : History) (o p q r : ℕ) → Dec (Crossed h o p q r)
unfolding equivalent? Dec.and Dec.not ℕ_discrete written? on? dec_lt
crossed? h o p q r =
    equivalent? {P = Parts} (λ t. record {
      a = h.value o;
      b = h.value p;
      forth = t.0;
      back = t.1.0;
      different = t.1.1.0;
      first = t.1.1.1.0;
      second = t.1.1.1.1.0;
      third = t.1.1.1.1.1.0;
      fourth = t.1.1.1.1.1.1.0;
      a_written = t.1.1.1.1.1.1.1.0;
      b_written = t.1.1.1.1.1.1.1.1;
    }) back
    (Dec.and (dec_lt _ _) (Dec.and (dec_lt _ _) (Dec.and (Dec.not (ℕ_discrete _ _)) (Dec.and (on? _ _ _) (Dec.and (on? _ _ _)
    (Dec.and (on? _ _ _) (Dec.and (on? _ _ _) (Dec.and (written? _ _) (written? _ _)))))))))
  where
    Parts : Type 0
    Parts = Precedes h o p × (Precedes h q r × ((h.value o ≡ h.value p → ⊥) × (On h (h.value o) o × (On h (h.value p) p
        × (On h (h.value p) q × (On h (h.value o) r × (Written h (h.value o) × Written h (h.value p))))))))

    back : Crossed h o p q r → Parts
    back t = rw (t.first.is, t.second.is) (t.forth, (t.back, (t.different, (t.first, (t.second, (t.third, (t.fourth, (t.a_written, t.b_written))))))))

stale? : (h : History) (o i : ℕ) → Dec (Stale h o i)
unfolding equivalent? Dec.and written? on? is? dec_lt
stale? h o i =
    equivalent? {P = Written h (h.value o) × (On h (h.value o) o × (Is h initial_read i × Precedes h o i))}
    (λ p. record { value = h.value o; written = p.0; on = p.1.0; reads = p.1.1.0; before = p.1.1.1 })
    (λ t. (rw t.on.is t.written, (record { known = t.on.known; kinds = t.on.kinds; is = refl }, (t.reads, t.before))))
    (Dec.and (written? _ _) (Dec.and (on? _ _ _) (Dec.and (is? _ _ _) (dec_lt _ _))))

-- One of the four patterns occurs with a list of operations: the length of the list tells which one it may be.
abbrev Fits : History → ℕ → List ℕ → Type 0
Fits h n [] = ⊥
Fits h n (o ∷ []) = (n ≡ 7) × Unwritten h o
Fits h n (o ∷ p ∷ []) = ((n ≡ 8) × Premature h o p) ⊎ ((n ≡ 10) × Stale h o p)
Fits h n (o ∷ p ∷ q ∷ []) = ⊥
Fits h n (o ∷ p ∷ q ∷ r ∷ []) = (n ≡ 9) × Crossed h o p q r
Fits h n (o ∷ p ∷ q ∷ r ∷ s ∷ listed) = ⊥

-- whether it does
fits? : (h : History) (n : ℕ) (listed : List ℕ) → Dec (Fits h n listed)
unfolding either? Dec.and ℕ_discrete unwritten? premature? crossed? stale?
fits? h n [] = no (λ f. f)
fits? h n (o ∷ []) = Dec.and (ℕ_discrete _ _) (unwritten? _ _)
fits? h n (o ∷ p ∷ []) = either? (Dec.and (ℕ_discrete _ _) (premature? _ _ _)) (Dec.and (ℕ_discrete _ _) (stale? _ _ _))
fits? h n (o ∷ p ∷ q ∷ []) = no (λ f. f)
fits? h n (o ∷ p ∷ q ∷ r ∷ []) = Dec.and (ℕ_discrete _ _) (crossed? _ _ _ _ _)
fits? h n (o ∷ p ∷ q ∷ r ∷ s ∷ listed) = no (λ f. f)

-- this says that the pattern occurs, and the other way round
pub fits_occurs : {h : History} {n : ℕ} (listed : List ℕ) → Fits h n listed → Occurs Cell h n listed
fits_occurs [] f = absurd f
fits_occurs (o ∷ []) f = rw f.0 (unwritten f.1)
fits_occurs (o ∷ p ∷ []) (inl f) = rw f.0 (premature f.1)
fits_occurs (o ∷ p ∷ []) (inr f) = rw f.0 (stale f.1)
fits_occurs (o ∷ p ∷ q ∷ []) f = absurd f
fits_occurs (o ∷ p ∷ q ∷ r ∷ []) f = rw f.0 (crossed f.1)
fits_occurs (o ∷ p ∷ q ∷ r ∷ s ∷ listed) f = absurd f

pub occurs_fits : {h : History} {n : ℕ} {listed : List ℕ} → Occurs Cell h n listed → Fits h n listed
occurs_fits (unwritten t) = (refl, t)
occurs_fits (premature t) = inl (refl, t)
occurs_fits (crossed t) = (refl, t)
occurs_fits (stale t) = inr (refl, t)

unfoldable pub cell_occurs? : (h : History) (n : ℕ) (listed : List ℕ) → Dec (Occurs Cell h n listed)
unfolding equivalent? fits?
cell_occurs? h n listed = equivalent? (fits_occurs listed) occurs_fits (fits? h n listed)
