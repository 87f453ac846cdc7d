-- Whether one of the patterns 1 to 5 occurs with a list of operations, in a form that computes.
use Prim.Native.Nat.{ℕ}
use native.Mathlib.Decide.{ℕ_discrete, dec_lt}
use mathlib.Core.Path.{◌≡◌, refl}
use mathlib.Core.Logic.Dec
use mathlib.Core.Logic.{◌⊎◌, inl, inr}
use mathlib.Core.List.{List, [], ◌∷◌}
use Rattle.history.specs.Object.{Queue}
use Rattle.history.specs.History.{History, add}
use Rattle.history.proofs.Deciding.{equivalent?, some?, either?}
use Rattle.violations.specs.Violations.{Is, RemoveOf, Unknown, Twice, Early, Stuck, Overtaken, Occurs, unknown, twice, early, stuck, overtaken, false_empty}
use Rattle.violations.proofs.Operations.{is?, remove_of?, removed?}

-- whether operations are an occurrence of a pattern, for each of the patterns 1 to 5
unknown? : (h : History) (r : ℕ) → Dec (Unknown h r)
unfolding equivalent? Dec.and Dec.not some? is? remove_of?
unknown? h r =
    equivalent? {P = _ × (_ → ⊥)} (λ p. record { removes = p.0; unnamed = λ a i q. p.1 (a, (i, q)) }) (λ u. (u.removes, λ s. u.unnamed s.0 s.1.0 s.1.1))
    (Dec.and (is? _ _ _) (Dec.not (some? (λ a. Is h add a × RemoveOf h a r) (λ a. Dec.and (is? _ _ _) (remove_of? _ _ _)) h.count (λ a p. p.0.known))))

twice? : (h : History) (r s : ℕ) → Dec (Twice h r s)
unfolding equivalent? Dec.and is? dec_lt ℕ_discrete
twice? h r s =
    equivalent? {P = _ × (_ × (_ × _))} (λ p. record { first = p.0; second = p.1.0; lower = p.1.1.0; same = p.1.1.1 }) (λ t. (t.first, (t.second, (t.lower, t.same))))
    (Dec.and (is? _ _ _) (Dec.and (is? _ _ _) (Dec.and (dec_lt _ _) (ℕ_discrete _ _))))

early? : (h : History) (r a : ℕ) → Dec (Early h r a)
unfolding equivalent? Dec.and is? remove_of? dec_lt
early? h r a =
    equivalent? {P = _ × (_ × _)} (λ p. record { adds = p.0; removes = p.1.0; before = p.1.1 }) (λ t. (t.adds, (t.removes, t.before)))
    (Dec.and (is? _ _ _) (Dec.and (remove_of? _ _ _) (dec_lt _ _)))

stuck? : (h : History) (a b r : ℕ) → Dec (Stuck h a b r)
unfolding equivalent? Dec.and Dec.not is? remove_of? removed? dec_lt
stuck? h a b r =
    equivalent? {P = _ × (_ × (_ × (_ × _)))} (λ p. record { first = p.0; second = p.1.0; before = p.1.1.0; removes = p.1.1.1.0; never = p.1.1.1.1 })
    (λ t. (t.first, (t.second, (t.before, (t.removes, t.never)))))
    (Dec.and (is? _ _ _) (Dec.and (is? _ _ _) (Dec.and (dec_lt _ _) (Dec.and (remove_of? _ _ _) (Dec.not (removed? _ _))))))

overtaken? : (h : History) (a b r s : ℕ) → Dec (Overtaken h a b r s)
unfolding equivalent? Dec.and is? remove_of? dec_lt
overtaken? h a b r s =
    equivalent? {P = _ × (_ × (_ × (_ × (_ × _))))}
    (λ p. record { first = p.0; second = p.1.0; added_before = p.1.1.0; removes = p.1.1.1.0; removes_late = p.1.1.1.1.0; overtakes = p.1.1.1.1.1 })
    (λ t. (t.first, (t.second, (t.added_before, (t.removes, (t.removes_late, t.overtakes))))))
    (Dec.and (is? _ _ _) (Dec.and (is? _ _ _) (Dec.and (dec_lt _ _) (Dec.and (remove_of? _ _ _) (Dec.and (remove_of? _ _ _) (dec_lt _ _))))))

-- One of the patterns 1 to 5 occurs with a list of operations: the length of the list tells which one it may be.
abbrev Fits : History → ℕ → List ℕ → Type 0
Fits h n [] = ⊥
Fits h n (o ∷ []) = (n ≡ 1) × Unknown h o
Fits h n (o ∷ p ∷ []) = ((n ≡ 2) × Twice h o p) ⊎ ((n ≡ 3) × Early h o p)
Fits h n (o ∷ p ∷ q ∷ []) = (n ≡ 4) × Stuck h o p q
Fits h n (o ∷ p ∷ q ∷ r ∷ []) = (n ≡ 5) × Overtaken h o p q r
Fits h n (o ∷ p ∷ q ∷ r ∷ s ∷ listed) = ⊥

-- whether it does
fits? : (h : History) (n : ℕ) (listed : List ℕ) → Dec (Fits h n listed)
unfolding either? Dec.and ℕ_discrete unknown? twice? early? stuck? overtaken?
fits? h n [] = no (λ f. f)
fits? h n (o ∷ []) = Dec.and (ℕ_discrete _ _) (unknown? _ _)
fits? h n (o ∷ p ∷ []) = either? (Dec.and (ℕ_discrete _ _) (twice? _ _ _)) (Dec.and (ℕ_discrete _ _) (early? _ _ _))
fits? h n (o ∷ p ∷ q ∷ []) = Dec.and (ℕ_discrete _ _) (stuck? _ _ _ _)
fits? h n (o ∷ p ∷ q ∷ r ∷ []) = Dec.and (ℕ_discrete _ _) (overtaken? _ _ _ _ _)
fits? h n (o ∷ p ∷ q ∷ r ∷ s ∷ listed) = no (λ f. f)

-- this says that the pattern occurs, and the other way round
pub fits_occurs : {h : History} {n : ℕ} (listed : List ℕ) → Fits h n listed → Occurs Queue h n listed
fits_occurs [] f = absurd f
fits_occurs (o ∷ []) f = rw f.0 (unknown f.1)
fits_occurs (o ∷ p ∷ []) (inl f) = rw f.0 (twice f.1)
fits_occurs (o ∷ p ∷ []) (inr f) = rw f.0 (early f.1)
fits_occurs (o ∷ p ∷ q ∷ []) f = rw f.0 (stuck f.1)
fits_occurs (o ∷ p ∷ q ∷ r ∷ []) f = rw f.0 (overtaken f.1)
fits_occurs (o ∷ p ∷ q ∷ r ∷ s ∷ listed) f = absurd f

pub occurs_fits : {h : History} {n : ℕ} {listed : List ℕ} → (n ≡ 6 → ⊥) → Occurs Queue h n listed → Fits h n listed
occurs_fits other (unknown u) = (refl, u)
occurs_fits other (twice t) = inl (refl, t)
occurs_fits other (early t) = inr (refl, t)
occurs_fits other (stuck t) = (refl, t)
occurs_fits other (overtaken t) = (refl, t)
occurs_fits other (false_empty t) = absurd (other refl)

unfoldable pub queue_occurs? : (h : History) (n : ℕ) → (n ≡ 6 → ⊥) → (listed : List ℕ) → Dec (Occurs Queue h n listed)
unfolding equivalent? fits?
queue_occurs? h n other listed = equivalent? (fits_occurs listed) (occurs_fits other) (fits? h n listed)
