-- How far values cover, and the chains of pattern 6, found by bounded searches in a form that computes.
use Prim.Native.Nat.{ℕ, zero, suc, ◌+◌, ◌≤◌, ◌<◌}
use native.Mathlib.Omega.{arith}
use native.Mathlib.Decide.{dec_le, dec_lt}
use mathlib.Core.Path.{◌≡◌, refl}
use mathlib.Core.Logic.Dec
use mathlib.Core.Logic.{◌⊎◌, inl, inr, ◌↔◌}
use mathlib.Core.List.{List, [], ◌∷◌}
use lib.ListN.{length}
use Rattle.reader.specs.Search.{None}
use Rattle.history.specs.History.{History, add, empty_remove}
use Rattle.history.specs.Linearization.{placed}
use Rattle.history.proofs.Deciding.{equivalent?}
use Rattle.violations.specs.Violations.{Is, RemoveOf, Gap, Reaches, removed, never, Covers, Covered, AllCovered, Furthest, Chain, all, link, FalseEmpty}
use Rattle.violations.specs.Found.{LastGap}
use Rattle.violations.proofs.Choosing.{Best, best, greater, Ahead, ahead_at_least, ahead_of_less, ahead}
use Rattle.violations.proofs.Operations.{is?, remove_of?}

-- The furthest that the value of an add reaches. A value that is removed twice reaches two calls, and the later one counts.
pub record Reach (h : History) (a : ℕ) : Type 0 where
  pub to : ℕ
  pub reaches : Reaches h a to
  pub furthest : (far : ℕ) → Reaches h a far → far ≤ to

-- there is one for each operation; it means something for adds
pub reach_of : (h : History) (a : ℕ) → Reach h a
unfolding best greater remove_of?
reach_of h a = go (best (RemoveOf h a) (λ r s. h.call s ≤ h.call r) (greater h.call) (remove_of? h a) h.count)
  where
    Latest : Type 0
    Latest = Best (RemoveOf h a) (λ r s. h.call s ≤ h.call r) h.count

    Never : Type 0
    Never = None (RemoveOf h a) h.count

    to_latest : (s : Latest) (far : ℕ) → Reaches h a far → far ≤ h.call s.at
    to_latest s far (removed r q e) = omega (arith, s.best r q.removes.known q)
    to_latest s far (never n e) = absurd (n (s.at, s.holds))

    to_end : Never → (far : ℕ) → Reaches h a far → far ≤ h.end
    to_end none far (removed r q e) = absurd (none r q.removes.known q)
    to_end none far (never n e) = omega arith

    go : Latest ⊎ Never → Reach h a
    go (inl s) = record { to = h.call s.at; reaches = removed s.at s.holds refl; furthest = to_latest s }
    go (inr none) = record { to = h.end; reaches = never (λ r. none r.0 r.1.removes.known r.1) refl; furthest = to_end none }

-- The value of an add covers a gap, if it is taken as far as it reaches.
abbrev CoversFully : History → ℕ → ℕ → Type 0
CoversFully h g a = Covers h a (reach_of h a).to g

-- whether it does
covers_fully? : (h : History) (g a : ℕ) → Dec (CoversFully h g a)
unfolding reach_of equivalent? Dec.and is? dec_le dec_lt
covers_fully? h g a =
    equivalent? {P = _ × (_ × _)} (λ p. record { adds = p.0; reaches = (reach_of h a).reaches; from = p.1.0; until = p.1.1 }) (λ c. (c.adds, (c.from, c.until)))
    (Dec.and (is? _ _ _) (Dec.and (dec_le _ _) (dec_lt _ _)))

-- what covers a gap covers it as far as it reaches
pub covers_fully : {h : History} {a far g : ℕ} → Covers h a far g → CoversFully h g a
covers_fully {h} {a} {far} c = record { adds = c.adds; reaches = (reach_of h a).reaches; from = c.from; until = omega (arith, c.until, (reach_of h a).furthest far c.reaches) }

-- Some value is the one covering a gap that reaches furthest.
abbrev SomeFurthest : History → ℕ → Type 0
SomeFurthest h g = (a : ℕ) × (reach : ℕ) × Furthest h a reach g

-- that value is found, or none covers the gap
furthest_of : (h : History) (g : ℕ) → SomeFurthest h g ⊎ (Covered h g → ⊥)
unfolding best ahead covers_fully? reach_of
furthest_of h g = go (best (CoversFully h g) Further (ahead (λ a. (reach_of h a).to)) (covers_fully? h g) h.count)
  where
    Further : ℕ → ℕ → Type 0
    Further a b = Ahead a (reach_of h a).to b (reach_of h b).to

    go : Best (CoversFully h g) Further h.count ⊎ None (CoversFully h g) h.count → SomeFurthest h g ⊎ (Covered h g → ⊥)
    go (inl s) =
        inl (
          s.at,
          (reach_of h s.at).to,
          record {
            covers = s.holds;
            furthest = λ b far c. ahead_of_less ((reach_of h b).furthest far c.reaches) (s.best b c.adds.known (covers_fully c));
          },
        )
    go (inr none) = inr (λ c. none c.0 c.2.adds.known (covers_fully c.2))

-- whether some value covers a gap
covered? : (h : History) (g : ℕ) → Dec (Covered h g)
unfolding furthest_of
covered? h g = go (furthest_of h g)
  where
    go : SomeFurthest h g ⊎ (Covered h g → ⊥) → Dec (Covered h g)
    go (inl f) = yes (f.0, f.1, f.2.covers)
    go (inr n) = no n

-- of the values that cover a gap one reaches furthest
covered_furthest : {h : History} {g : ℕ} → Covered h g → SomeFurthest h g
unfolding furthest_of
covered_furthest {h} {g} c = go (furthest_of h g)
  where
    go : SomeFurthest h g ⊎ (Covered h g → ⊥) → SomeFurthest h g
    go (inl f) = f
    go (inr n) = absurd (n c)

-- only one value reaches furthest
furthest_one : {h : History} {a b c d g : ℕ} → Furthest h a c g → Furthest h b d g → (a ≡ b) × (c ≡ d)
furthest_one {h} {a} {b} {c} {d} f k = go (f.furthest b d k.covers) (k.furthest a c f.covers)
  where
    go : Ahead a c b d → Ahead b d a c → (a ≡ b) × (c ≡ d)
    go (inl less) e = omega (arith, ahead_at_least e)
    go (inr same) (inl less) = omega (arith, same.0)
    go (inr same) (inr back) = omega (arith, same.0, same.1, back.1)

-- so there is only one chain from a gap on
pub chain_one : {h : History} {return g : ℕ} {xs ys : List ℕ} → Chain h return g xs → Chain h return g ys → xs ≡ ys
chain_one (all l) (all k) = refl
chain_one (all l) (link k f c) = absurd (omega arith)
chain_one (link l f c) (all k) = absurd (omega arith)
chain_one (link l f c) (link k f' c') = let e = furthest_one f f' in cc (e.0, chain_one c (rw (← e.1) at c'))

-- All gaps from g up to a return are covered; there is a chain for them.
abbrev CoveredUntil : History → ℕ → ℕ → Type 0
CoveredUntil h return g = (i : ℕ) → g ≤ i → i < return → Covered h i

abbrev pub SomeChain : History → ℕ → ℕ → Type 0
SomeChain h return g = (chain : List ℕ) × Chain h return g chain

-- the gaps of a chain are covered
pub chain_covers : {h : History} {return g : ℕ} {chain : List ℕ} → Chain h return g chain → CoveredUntil h return g
chain_covers (all l) i from until = absurd (omega arith)
chain_covers {h} {return} (link {g} {a} {reach} l f c) i from until = go (dec_lt i reach) (chain_covers c i)
  where
    go : Dec (i < reach) → (reach ≤ i → i < return → Covered h i) → Covered h i
    go (yes before) rest = (a, reach, record { adds = f.covers.adds; reaches = f.covers.reaches; from = omega (arith, f.covers.from); until = before })
    go (no n) rest = rest (omega arith) until

-- covered gaps have a chain: each link reaches behind the gap that it covers, so as many links as there are gaps are enough
chain_within : (h : History) (return links g : ℕ) → return ≤ g + links → CoveredUntil h return g → SomeChain h return g
unfolding covered_furthest dec_lt
chain_within h return zero g enough covered = ([], all {g = g} (omega arith))
chain_within h return (suc links) g enough covered = go (dec_lt g return) (chain_within h return links)
  where
    before : g < return → (f : SomeFurthest h g) → SomeChain h return f.1 → SomeChain h return g
    before l f rest = (f.0 ∷ rest.0, link l f.2 rest.1)

    go : Dec (g < return) → ((reach : ℕ) → return ≤ reach + links → CoveredUntil h return reach → SomeChain h return reach) → SomeChain h return g
    go (yes l) rest =
        let f = covered_furthest (covered g (omega arith) l) in before l f (rest f.1 (omega (arith, f.2.covers.until)) (λ i from. covered i (omega (arith, f.2.covers.until))))
    go (no n) rest = ([], all {g = g} (omega arith))

-- The gaps of an empty remove are all covered exactly if there is a chain for them.
pub chained_exactly : (h : History) (e : ℕ) → AllCovered h e ↔ SomeChain h (h.ret e) (h.call e)
unfolding chain_within
chained_exactly h e = (
  λ covered. chain_within h (h.ret e) (h.ret e) (h.call e) (omega arith) (λ g from until. covered g (record { from = from; until = until })),
  λ chained g gap. chain_covers chained.1 g gap.from gap.until,
)

-- an empty remove is a false one if all its gaps are covered
unfoldable pub false_empty_lem : {h : History} {e : ℕ} → Is h empty_remove e → AllCovered h e → (chain : List ℕ) × FalseEmpty h e chain
unfolding chained_exactly
false_empty_lem {h} {e} is covered = let c = (chained_exactly h e).0 covered in (c.0, record { empties = is; covered = covered; chained = c.1 })

-- whether a gap is one of an empty remove
gap? : (h : History) (e g : ℕ) → Dec (Gap h e g)
unfolding equivalent? Dec.and dec_le dec_lt
gap? h e g = equivalent? {P = _ × _} (λ p. record { from = p.0; until = p.1 }) (λ l. (l.from, l.until)) (Dec.and (dec_le _ _) (dec_lt _ _))

-- all gaps of an empty remove are covered, or the last that is not is found
unfoldable pub last_gap : (h : History) (e : ℕ) → AllCovered h e ⊎ ((g : ℕ) × LastGap h e g)
unfolding best greater gap? covered? Dec.and Dec.not
last_gap h e = go (best Uncovered (λ g f. f ≤ g) (greater (λ g. g)) (λ g. Dec.and (gap? h e g) (Dec.not (covered? h g))) (h.ret e))
  where
    Uncovered : ℕ → Type 0
    Uncovered g = Gap h e g × (Covered h g → ⊥)

    covered_unless : {g : ℕ} → (Uncovered g → ⊥) → Gap h e g → Dec (Covered h g) → Covered h g
    covered_unless n l (yes c) = c
    covered_unless n l (no q) = absurd (n (l, q))

    go : Best Uncovered (λ g f. f ≤ g) (h.ret e) ⊎ None Uncovered (h.ret e) → AllCovered h e ⊎ ((g : ℕ) × LastGap h e g)
    go (inl s) =
        inr (
          s.at,
          record {
            lies = s.holds.0;
            uncovered = s.holds.1;
            last = λ later l lies. covered_unless (λ u. omega (arith, s.best later lies.until u)) lies (covered? h later);
          },
        )
    go (inr none) = inl (λ g l. covered_unless (none g l.until) l (covered? h g))

-- What is known of an add of a chain for the gaps from g up to a return: it returns before that, and its value reaches beyond g.
pub record Linked (h : History) (return g a : ℕ) : Type 0 where
  pub adds : Is h add a
  pub before : h.ret a < return
  pub reach : ℕ
  pub reaches : Reaches h a reach
  pub beyond : g < reach

pub chain_linked : {h : History} {return g : ℕ} {chain : List ℕ} → Chain h return g chain → (i : ℕ) → i < length chain → Linked h return g (placed chain i)
chain_linked (all l) i m = absurd (omega arith)
chain_linked (link {reach = reach} l f rest) zero m = record { adds = f.covers.adds; before = omega (arith, f.covers.from); reach = reach; reaches = f.covers.reaches; beyond = f.covers.until }
chain_linked (link l f rest) (suc i) m =
    let later = chain_linked rest i (omega arith) in
    record { adds = later.adds; before = later.before; reach = later.reach; reaches = later.reaches; beyond = omega (arith, later.beyond, f.covers.until) }

-- the value covering a gap that reaches furthest does not reach further
furthest_ends : {h : History} {return g a reach : ℕ} → Furthest h a reach g → Linked h return reach a → ⊥
furthest_ends {g = g} {a} {reach} f later =
    omega (arith, later.beyond, ahead_at_least (f.furthest a later.reach (record { adds = later.adds; reaches = later.reaches; from = f.covers.from; until = omega (arith, later.beyond, f.covers.until) })))

-- so the adds of a chain are different
pub chain_once : {h : History} {return g : ℕ} {chain : List ℕ} → Chain h return g chain → (i j : ℕ) → i < j → j < length chain → placed chain i ≡ placed chain j → ⊥
chain_once (all l) i j m n e = omega arith
chain_once (link l f rest) i zero m n e = omega arith
chain_once (link l f rest) zero (suc j) m n e = furthest_ends f (rw (← e) at (chain_linked rest j (omega arith)))
chain_once (link l f rest) (suc i) (suc j) m n e = chain_once rest i j (omega arith) (omega arith) e
