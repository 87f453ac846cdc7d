-- A legal order lists no more operations than there are: a list of different numbers below n has at most n of them.
use Prim.Native.Nat.{ℕ, zero, suc, ◌≤◌, ◌<◌}
use native.Mathlib.Omega.{arith}
use native.Mathlib.Decide.{dec_lt, ℕ_discrete}
use mathlib.Core.Path.{◌≡◌, sym, ◌∙◌}
use mathlib.Core.Logic.{◌⊎◌, inl, inr}
use mathlib.Core.List.{List}
use lib.ListN.{length}
use lib.Dec.{ltb}
use borrow.Author.Tests.{lt-ltb, le-ltb}
use Rattle.std.specs.Prelude.{if◌then◌else◌}
use Rattle.reader.specs.Search.{None}
use Rattle.reader.proofs.Search.{Lowest, lowest}
use Rattle.history.specs.History.{History}
use Rattle.history.specs.Linearization.{placed, Ordering}

-- the numbers other than i, in their order
skip : ℕ → ℕ → ℕ
skip i j = if ltb j i then j else suc j

skip_is : (i j : ℕ) → ((j < i) × (skip i j ≡ j)) ⊎ ((i ≤ j) × (skip i j ≡ suc j))
unfolding skip
skip_is i j = go (dec_lt j i)
  where
    go : Dec (j < i) → ((j < i) × (skip i j ≡ j)) ⊎ ((i ≤ j) × (skip i j ≡ suc j))
    go (yes l) = inl (l, rw (lt-ltb j i l))
    go (no l) = let m : i ≤ j = omega arith in inr (m, rw (le-ltb j i m))

skip_rises : (i j k : ℕ) → j < k → skip i j < skip i k
skip_rises i j k l = go (skip_is i j) (skip_is i k)
  where
    go : ((j < i) × (skip i j ≡ j)) ⊎ ((i ≤ j) × (skip i j ≡ suc j)) → ((k < i) × (skip i k ≡ k)) ⊎ ((i ≤ k) × (skip i k ≡ suc k)) → skip i j < skip i k
    go (inl a) (inl b) = omega (arith, a.1, b.1)
    go (inl a) (inr b) = omega (arith, a.1, b.1)
    go (inr a) (inl b) = absurd (omega (arith, a.0, b.0))
    go (inr a) (inr b) = omega (arith, a.1, b.1)

skip_misses : (i j : ℕ) → skip i j ≡ i → ⊥
skip_misses i j e = go (skip_is i j)
  where
    go : ((j < i) × (skip i j ≡ j)) ⊎ ((i ≤ j) × (skip i j ≡ suc j)) → ⊥
    go (inl a) = omega (arith, a.0, a.1)
    go (inr a) = omega (arith, a.0, a.1)

skip_below : (i j k : ℕ) → j < k → skip i j < suc k
skip_below i j k l = go (skip_is i j)
  where
    go : ((j < i) × (skip i j ≡ j)) ⊎ ((i ≤ j) × (skip i j ≡ suc j)) → skip i j < suc k
    go (inl a) = omega (arith, a.1)
    go (inr a) = omega (arith, a.1)

-- of different numbers below n there are at most n: either n - 1 is not among them, or without it there is one less, all below
-- n - 1
pub different_are_few : (f : ℕ → ℕ) (k n : ℕ) → ((i : ℕ) → i < k → f i < n) → ((i j : ℕ) → i < j → j < k → f i ≡ f j → ⊥) → k ≤ n
different_are_few f zero n small apart = omega arith
different_are_few f (suc k) zero small apart = absurd (omega (arith, small 0 (omega arith)))
different_are_few f (suc k) (suc n) small apart = go (lowest (λ i. f i ≡ n) (λ i. ℕ_discrete (f i) n) (suc k)) (different_are_few f (suc k) n) (λ i. different_are_few (λ j. f (skip i j)) k n)
  where
    alone : (i j : ℕ) → i < suc k → j < suc k → f i ≡ f j → Dec (i < j) → Dec (j < i) → i ≡ j
    alone i j a b e (yes l) d = absurd (apart i j l b e)
    alone i j a b e (no l) (yes m) = absurd (apart j i m a (sym e))
    alone i j a b e (no l) (no m) = omega arith

    go : Lowest (λ i. f i ≡ n) (suc k) ⊎ None (λ i. f i ≡ n) (suc k)
        → (((i : ℕ) → i < suc k → f i < n) → ((i j : ℕ) → i < j → j < suc k → f i ≡ f j → ⊥) → suc k ≤ n)
        → ((i : ℕ) → ((j : ℕ) → j < k → f (skip i j) < n) → ((j m : ℕ) → j < m → m < k → f (skip i j) ≡ f (skip i m) → ⊥) → k ≤ n)
        → suc k ≤ suc n
    go (inr none) all less = omega (arith, all (λ i l. let other : f i ≡ n → ⊥ = none i l in omega (arith, small i l)) apart)
    go (inl s) all less =
        let others : (j : ℕ) → j < k → f (skip s.at j) ≡ n → ⊥ = λ j l e.
        skip_misses s.at j (alone (skip s.at j) s.at (skip_below s.at j k l) s.below (e ∙ sym s.holds) (dec_lt (skip s.at j) s.at) (dec_lt s.at (skip s.at j))) in
        omega (
          arith,
          less s.at
              (λ j l. let other : f (skip s.at j) ≡ n → ⊥ = others j l in omega (arith, small (skip s.at j) (skip_below s.at j k l)))
              (λ j m l h. apart (skip s.at j) (skip s.at m) (skip_rises s.at j m l) (skip_below s.at m k h)),
        )

-- so if each of k numbers has a partner below n, and no two have the same one, then k is at most n
pub partners_are_few : (R : ℕ → ℕ → Type 0) (k n : ℕ) → ((i : ℕ) → i < k → (p : ℕ) × (p < n) × R i p) → ((i j p : ℕ) → i < j → j < k → R i p → R j p → ⊥) → k ≤ n
partners_are_few R k n some apart =
    different_are_few (λ i. partner i (dec_lt i k)) k n
    (λ i l. partner_below i l (dec_lt i k))
    (λ i j l m e. apart i j (partner j (dec_lt j k)) l m (rw (← e) (partner_is i (omega arith) (dec_lt i k))) (partner_is j m (dec_lt j k)))
  where
    partner : (i : ℕ) → Dec (i < k) → ℕ
    partner i (yes l) = (some i l).0
    partner i (no n) = 0

    partner_below : (i : ℕ) → i < k → (d : Dec (i < k)) → partner i d < n
    partner_below i l (yes m) = (some i m).1
    partner_below i l (no n) = absurd (n l)

    partner_is : (i : ℕ) → i < k → (d : Dec (i < k)) → R i (partner i d)
    partner_is i l (yes m) = (some i m).2
    partner_is i l (no n) = absurd (n l)

pub ordering_short : {h : History} {order : List ℕ} → Ordering h order → length order ≤ h.count
ordering_short {h} {order} o = different_are_few (placed order) (length order) h.count o.known o.once
