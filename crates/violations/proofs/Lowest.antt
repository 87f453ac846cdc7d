-- Lists compared left to right, and searches for the lowest list that has a property, in a form that computes.
use Prim.Native.Nat.{ℕ, ◌<◌}
use native.Mathlib.Omega.{arith}
use native.Mathlib.Decide.{dec_lt}
use mathlib.Core.Path.{◌≡◌, refl, sym}
use mathlib.Core.Logic.{◌⊎◌, inl, inr}
use mathlib.Core.List.{List, [], ◌∷◌}
use Rattle.reader.specs.Search.{None}
use Rattle.reader.proofs.Search.{Lowest, lowest}
use Rattle.violations.specs.Verdict.{Lower, ends, here, further}

-- How two lists compare: one is lower, or they are the same.
abbrev pub Compared : List ℕ → List ℕ → Type 0
Compared xs ys = Lower xs ys ⊎ ((xs ≡ ys) ⊎ Lower ys xs)

-- any two lists compare
pub lower_total : (xs ys : List ℕ) → Compared xs ys
unfolding dec_lt
lower_total [] [] = inr (inl refl)
lower_total [] (y ∷ ys) = inl ends
lower_total (x ∷ xs) [] = inr (inr ends)
lower_total (x ∷ xs) (y ∷ ys) = go (dec_lt x y) (dec_lt y x) (lower_total xs ys)
  where
    behind : x ≡ y → Compared xs ys → Compared (x ∷ xs) (y ∷ ys)
    behind e (inl lower) = inl (further e lower)
    behind e (inr (inl same)) = inr (inl (cc))
    behind e (inr (inr higher)) = inr (inr (further (sym e) higher))

    go : Dec (x < y) → Dec (y < x) → Compared xs ys → Compared (x ∷ xs) (y ∷ ys)
    go (yes less) d rest = inl (here less)
    go (no n) (yes more) rest = inr (inr (here more))
    go (no n) (no m) rest = behind (omega arith) rest

-- a list is not lower than itself
pub lower_differs : {xs ys : List ℕ} → Lower xs ys → xs ≡ ys → ⊥
lower_differs ends e = let z : ◌≡◌ {A = ℕ} 0 1 = cc in absurd (omega arith)
lower_differs (here {x} {y} l) e = let z : x ≡ y = cc in absurd (omega arith)
lower_differs (further {xs} {ys} z l) e = lower_differs l (cc)

-- whether two lists are the same
unfoldable pub same? : (xs ys : List ℕ) → Dec (xs ≡ ys)
unfolding lower_total
same? xs ys = go (lower_total xs ys)
  where
    go : Compared xs ys → Dec (xs ≡ ys)
    go (inl lower) = no (lower_differs lower)
    go (inr (inl e)) = yes e
    go (inr (inr higher)) = no (λ e. lower_differs higher (sym e))

-- The lowest list that has a property; that no list has it; and that one of the two is known.
pub record LowestList (P : List ℕ → Type 0) : Type 0 where
  pub list : List ℕ
  pub holds : P list
  pub none_lower : (other : List ℕ) → P other → Lower other list → ⊥

abbrev NoList : (List ℕ → Type 0) → Type 0
NoList P = (list : List ℕ) → P list → ⊥

abbrev pub Sought : (List ℕ → Type 0) → Type 0
Sought P = LowestList P ⊎ NoList P

-- the only list that has a property is the lowest
unfoldable pub only_lowest : {P : List ℕ → Type 0} {list : List ℕ} → P list → ((other : List ℕ) → P other → other ≡ list) → LowestList P
only_lowest {P} {list} p one = record { list = list; holds = p; none_lower = λ other q l. lower_differs l (one other q) }

-- The lowest number that has a property with some list, and the lowest such list.
pub record LowestPair (P : ℕ → List ℕ → Type 0) : Type 0 where
  pub number : ℕ
  pub lists : LowestList (P number)
  pub none_lower : (n : ℕ) (other : List ℕ) → n < number → P n other → ⊥

-- if it is known for each number which list is the lowest, the lowest number that has one is found; only numbers below a bound have one
unfoldable pub lowest_pair : (P : ℕ → List ℕ → Type 0) → ((n : ℕ) → Sought (P n)) → (bound : ℕ) → ((n : ℕ) (list : List ℕ) → P n list → n < bound)
    → LowestPair P ⊎ ((n : ℕ) → NoList (P n))
unfolding lowest
lowest_pair P search bound bounded = go (lowest (λ n. LowestList (P n)) (λ n. found? (search n)) bound)
  where
    found? : {n : ℕ} → Sought (P n) → Dec (LowestList (P n))
    found? (inl s) = yes s
    found? (inr none) = no (λ s. none s.list s.holds)

    unfound : {n : ℕ} → (LowestList (P n) → ⊥) → Sought (P n) → NoList (P n)
    unfound n (inl s) = absurd (n s)
    unfound n (inr none) = none

    go : Lowest (λ n. LowestList (P n)) bound ⊎ None (λ n. LowestList (P n)) bound → LowestPair P ⊎ ((n : ℕ) → NoList (P n))
    go (inl s) = inl (record { number = s.at; lists = s.holds; none_lower = λ n other l. unfound (s.none_lower n l) (search n) other })
    go (inr none) = inr (λ n list p. unfound (none n (bounded n list p)) (search n) list p)

-- the lowest list is its first number in front of the lowest rest
unfoldable pub lowest_cons : {P : List ℕ → Type 0} → (P [] → ⊥) → LowestPair (λ x xs. P (x ∷ xs)) ⊎ ((x : ℕ) → NoList (λ xs. P (x ∷ xs))) → Sought P
lowest_cons {P} nonempty (inl s) = inl (record { list = s.number ∷ s.lists.list; holds = s.lists.holds; none_lower = none })
  where
    none : (other : List ℕ) → P other → Lower other (s.number ∷ s.lists.list) → ⊥
    none _ p ends = nonempty p
    none _ p (here {x} {y} {xs} l) = s.none_lower x xs l p
    none _ p (further {x} {y} {xs} {ys} e l) = s.lists.none_lower xs (rw e at p) l
lowest_cons {P} nonempty (inr none) = inr go
  where
    go : NoList P
    go [] p = nonempty p
    go (x ∷ xs) p = none x xs p

-- The numbers of a list pass these tests, one after the other.
abbrev pub Passing : {A : Type 0} → (A → ℕ → Type 0) → List A → List ℕ → Type 0
Passing Passes [] [] = Unit {0}
Passing Passes [] (x ∷ xs) = ⊥
Passing Passes (t ∷ ts) [] = ⊥
Passing Passes (t ∷ ts) (x ∷ xs) = Passes t x × Passing Passes ts xs

-- the lowest list is sought that has a property, if only lists that pass some tests have it, and only numbers below a bound pass one
unfoldable pub lowest_passing : {A : Type 0} (Passes : A → ℕ → Type 0) → ((t : A) (x : ℕ) → Dec (Passes t x)) → (bound : ℕ)
    → ((t : A) (x : ℕ) → Passes t x → x < bound)
    → (ts : List A) (P : List ℕ → Type 0) → ((xs : List ℕ) → Dec (P xs)) → ((xs : List ℕ) → P xs → Passing Passes ts xs) → Sought P
unfolding only_lowest lowest_pair lowest_cons
lowest_passing Passes passes? bound below [] P d passing = go (d [])
  where
    empty : (xs : List ℕ) → Passing Passes [] xs → xs ≡ []
    empty [] p = refl
    empty (x ∷ xs) p = absurd p

    go : Dec (P []) → Sought P
    go (yes p) = inl (only_lowest p (λ xs q. empty xs (passing xs q)))
    go (no n) = inr (λ xs p. n (rw (empty xs (passing xs p)) at p))
lowest_passing {A} Passes passes? bound below (t ∷ ts) P d passing =
    lowest_cons (passing [])
    (lowest_pair (λ x xs. P (x ∷ xs))
    (λ x. go (passes? t x) (lowest_passing Passes passes? bound below ts (λ xs. P (x ∷ xs)) (λ xs. d (x ∷ xs)) (λ xs p. (passing (x ∷ xs) p).1)))
    bound (λ x xs p. below t x (passing (x ∷ xs) p).0))
  where
    go : {x : ℕ} → Dec (Passes t x) → Sought (λ xs. P (x ∷ xs)) → Sought (λ xs. P (x ∷ xs))
    go (yes pass) rest = rest
    go {x} (no n) rest = inr (λ xs p. n (passing (x ∷ xs) p).0)
