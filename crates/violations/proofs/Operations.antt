-- Laws of single operations: when they return, whose value they have, and whether they are of a kind.
use Prim.Native.Nat.{ℕ, ◌≤◌, ◌<◌}
use native.Mathlib.Omega.{arith}
use native.Mathlib.Decide.{ℕ_discrete, dec_lt}
use mathlib.Core.Path.{◌≡◌, sym, ◌∙◌}
use mathlib.Core.Logic.Dec
use Rattle.history.specs.History.{History, add, empty_remove, Returned, Precedes, Lawful}
use Rattle.history.proofs.Deciding.{some?, equivalent?}
use Rattle.violations.specs.Violations.{Is, RemoveOf, Removed}
use Rattle.violations.specs.Parts.{HasValue}

-- what does not return after a call precedes it
pub precedes_unless_after : {h : History} → Lawful h → {o p : ℕ} → o < h.count → p < h.count → h.ret o ≤ h.call p → Precedes h o p
precedes_unless_after {h} lawful {o} {p} known known' l = let apart : h.ret o ≡ h.call p → ⊥ = lawful.apart o p known known' in omega arith

-- what is no add has returned
pub is_returned : {h : History} → Lawful h → {kind o : ℕ} → Is h kind o → add < kind → Returned h o
is_returned lawful {o = o} is more = lawful.returned o is.known (omega (arith, is.kinds))

-- a remove has one add
pub same_adder : {h : History} → Lawful h → {a b r : ℕ} → Is h add a → Is h add b → RemoveOf h a r → RemoveOf h b r → a ≡ b
same_adder lawful {a} {b} is is' out out' = lawful.once a b is.known is'.known is.kinds is'.kinds (sym out.same ∙ out'.same)

-- An operation that is no empty remove has a value.
pub has_value : {h : History} {o : ℕ} → o < h.count → add ≤ h.kind o → h.kind o < empty_remove → HasValue h o
has_value known kinded valued = record { known = known; valued = (kinded, valued) }

-- So an add has one, and a remove.
pub is_valued : {h : History} {kind o : ℕ} → Is h kind o → add ≤ kind → kind < empty_remove → HasValue h o
is_valued x kinded valued = has_value x.known (omega (arith, x.kinds)) (omega (arith, x.kinds))

-- whether an operation is of a kind, and whether it is a remove of an add's value
unfoldable pub is? : (h : History) (kind o : ℕ) → Dec (Is h kind o)
unfolding equivalent? Dec.and dec_lt ℕ_discrete
is? h kind o = equivalent? {P = _ × _} (λ p. record { known = p.0; kinds = p.1 }) (λ i. (i.known, i.kinds)) (Dec.and (dec_lt _ _) (ℕ_discrete _ _))

unfoldable pub remove_of? : (h : History) (a r : ℕ) → Dec (RemoveOf h a r)
unfolding equivalent? Dec.and is? ℕ_discrete
remove_of? h a r = equivalent? {P = _ × _} (λ p. record { removes = p.0; same = p.1 }) (λ q. (q.removes, q.same)) (Dec.and (is? _ _ _) (ℕ_discrete _ _))

-- whether the value of an add is removed
unfoldable pub removed? : (h : History) (a : ℕ) → Dec (Removed h a)
unfolding some? remove_of?
removed? h a = some? (RemoveOf h a) (remove_of? h a) h.count (λ r q. q.removes.known)
