-- Which operations a projection keeps: some empty removes, and all operations on some values; an excerpt keeps all that is listed.
use Prim.Native.Nat.{ℕ, ◌≤◌}
use native.Mathlib.Omega.{arith}
use native.Mathlib.Decide.{ℕ_discrete}
use mathlib.Core.Path.{◌≡◌, refl, sym, ap, ◌∙◌}
use mathlib.Core.Bool.{Bool, true, false}
use mathlib.Core.List.{List, [], ◌∷◌}
use lib.Dec.{eqb}
use borrow.Author.Tests.{eq-eqb, ne_eqb}
use Rattle.std.specs.Prelude.{if◌then◌else◌}
use Rattle.table.specs.Table.{is_in}
use Rattle.history.specs.Each.{Each}
use Rattle.history.specs.History.{History, add, empty_remove, no_kind}
use Rattle.violations.specs.Parts.{HasValue}
use Rattle.projection.specs.Projection.{values_of, keeps}

-- What has no kind is never kept, whatever is named.
pub keeps_kinded : (h : History) (empties values : List ℕ) (o : ℕ) → keeps h empties values o ≡ true → add ≤ h.kind o
keeps_kinded h empties values o k = by (ℕ_discrete (h.kind o) no_kind)
  where
    by : Dec (h.kind o ≡ no_kind) → add ≤ h.kind o
    by (yes e) = let none : false ≡ true = rw (eq-eqb (h.kind o) no_kind e) at k in let z : ◌≡◌ {A = ℕ} 0 1 = cc in absurd (omega arith)
    by (no n) = omega arith

-- an empty remove is kept by its number, any other operation that has a kind by its value
keeps_empty : (h : History) (empties values : List ℕ) (o : ℕ) → h.kind o ≡ empty_remove → keeps h empties values o ≡ is_in o empties
keeps_empty h empties values o e = rw e refl

keeps_value : (h : History) (empties values : List ℕ) (o : ℕ) → add ≤ h.kind o → (h.kind o ≡ empty_remove → ⊥)
    → keeps h empties values o ≡ is_in (h.value o) values
keeps_value h empties values o k n = rw (ne_eqb (h.kind o) no_kind (λ e. omega arith), ne_eqb _ _ n)

-- so with an operation all operations on its value are kept
pub keeps_all_of_value : (h : History) (empties values : List ℕ) (o q : ℕ) → HasValue h o → HasValue h q → h.value o ≡ h.value q → keeps h empties values q ≡ true → keeps h empties values o ≡ true
keeps_all_of_value h empties values o q x y e k = own o x ∙ ap (λ v. is_in v values) e ∙ sym (own q y) ∙ k
  where
    own : (p : ℕ) → HasValue h p → keeps h empties values p ≡ is_in (h.value p) values
    own p z = keeps_value h empties values p z.valued.0 (λ e. omega arith)

-- the first of a list is in it, and what is in the rest
in_first : (x : ℕ) (xs : List ℕ) → is_in x (x ∷ xs) ≡ true
unfolding is_in
in_first x xs = rw (eq-eqb x x refl)

in_rest : (v x : ℕ) (xs : List ℕ) → is_in v xs ≡ true → is_in v (x ∷ xs) ≡ true
unfolding is_in
in_rest v x xs i = by (eqb x v)
  where
    by : (b : Bool) → (if b then true else is_in v xs) ≡ true
    by true = refl
    by false = i

-- what follows from a property for each that is in a list follows for each of the list
pub each_in : {P Q : ℕ → Type 0} (xs : List ℕ) → ((x : ℕ) → is_in x xs ≡ true → P x → Q x) → Each P xs → Each Q xs
each_in [] f ps = tt
each_in (x ∷ xs) f ps = (f x (in_first x xs) ps.0, each_in xs (λ y i. f y (in_rest y x xs i)) ps.1)

-- a value of the listed operations is one of the values of one more
in_more : (h : History) (v x : ℕ) (listed : List ℕ) → is_in v (values_of h listed) ≡ true → is_in v (values_of h (x ∷ listed)) ≡ true
unfolding values_of
in_more h v x listed i = by (eqb (h.kind x) no_kind) (eqb (h.kind x) empty_remove)
  where
    by : (none empty : Bool) → is_in v (if none then values_of h listed else if empty then values_of h listed else h.value x ∷ values_of h listed) ≡ true
    by true empty = i
    by false true = i
    by false false = in_rest v (h.value x) (values_of h listed) i

-- the value of a listed operation is among the values of the listed ones
value_listed : (h : History) (listed : List ℕ) (o : ℕ) → add ≤ h.kind o → (h.kind o ≡ empty_remove → ⊥)
    → is_in o listed ≡ true → is_in (h.value o) (values_of h listed) ≡ true
unfolding is_in values_of
value_listed h [] o k n i = let z : ◌≡◌ {A = ℕ} 0 1 = cc in absurd (omega arith)
value_listed h (x ∷ listed) o k n i = by (ℕ_discrete x o) (value_listed h listed o k n)
  where
    by : Dec (x ≡ o) → (is_in o listed ≡ true → is_in (h.value o) (values_of h listed) ≡ true) → is_in (h.value o) (values_of h (x ∷ listed)) ≡ true
    by (yes e) rest =
        rw (ap h.kind e, ap h.value e, ne_eqb (h.kind o) no_kind (λ z. omega arith), ne_eqb _ _ n)
        (in_first (h.value o) (values_of h listed))
    by (no d) rest = in_more h (h.value o) x listed (rest (rw (ne_eqb x o d) at i))

-- so what is listed is kept, if it has a kind
pub keeps_listed : (h : History) (listed : List ℕ) (o : ℕ) → add ≤ h.kind o → is_in o listed ≡ true → keeps h listed (values_of h listed) o ≡ true
keeps_listed h listed o k i = by (ℕ_discrete (h.kind o) empty_remove)
  where
    by : Dec (h.kind o ≡ empty_remove) → keeps h listed (values_of h listed) o ≡ true
    by (yes e) = keeps_empty h listed (values_of h listed) o e ∙ i
    by (no n) = keeps_value h listed (values_of h listed) o k n ∙ value_listed h listed o k n i
