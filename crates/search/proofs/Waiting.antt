-- The operations that wait: how more of them are admitted, and that they are just the enabled ones.
use Prim.Native.Nat.{ℕ, ◌+◌, ◌≤◌, ◌<◌}
use native.Mathlib.Omega.{arith}
use native.Mathlib.Decide.{dec_lt}
use mathlib.Core.Path.{◌≡◌, refl, ap}
use mathlib.Core.Logic.{◌⊎◌, inl, inr}
use mathlib.Core.List.{List, []}
use lib.ListN.{length}
use Rattle.history.specs.History.{History, Lawful}
use Rattle.history.specs.Linearization.{placed, Listed}
use Rattle.violations.specs.Greedy.{Due, Left, Enabled}
use Rattle.violations.proofs.Lists.{snoc, listed_none, listed_old, listed_new, listed_either, pairs_snoc}
use Rattle.search.specs.Searching.{Waits, LeastReturn, Enabling}

pub waits_none : (h : History) → Waits h [] 0 []
waits_none h = record { are = λ o at. absurd (listed_none at); all = λ o l left. absurd (omega arith); rise = λ i j l m. absurd (omega arith); overlap = λ o p at. absurd (listed_none at) }

module _ {h : History} (lawful : Lawful h) {order : List ℕ} {next : ℕ} {waiting : List ℕ} (waits : Waits h order next waiting) where
  -- an operation that is not listed does not wait
  pub waits_skip : (Due h next → ⊥) → Waits h order (next + 1) waiting
  waits_skip idle = record { are = are; all = λ o l left. waits.all o (below o l left (dec_lt o next)) left; rise = waits.rise; overlap = waits.overlap }
    where
      are : (o : ℕ) → Listed waiting o → (o < next + 1) × Left h order o
      are o at = let (below, left) = waits.are o at in (omega arith, left)

      below : (o : ℕ) → o < next + 1 → Left h order o → Dec (o < next) → o < next
      below o l left (yes m) = m
      below o l left (no m) = let last : o ≡ next = omega arith in absurd (idle (rw last at left.due))

  -- any other waits, behind those that wait already
  module _ (known : next < h.count) {least : ℕ} (is_least : LeastReturn h waiting least) (enabled : h.call next < least) where
    waits_over : (o p : ℕ) → Listed waiting o ⊎ (next ≡ o) → Listed waiting p ⊎ (next ≡ p) → h.call o < h.ret p
    waits_over o p (inl a) (inl b) = waits.overlap o p a b
    waits_over o p (inl a) (inr e) = omega (arith, lawful.numbered o next (waits.are o a).0 known, lawful.spans next known, ap h.ret e)
    waits_over o p (inr e) (inl b) = omega (arith, is_least.below p b, ap h.call e)
    waits_over o p (inr e) (inr f) = omega (arith, lawful.spans next known, ap h.call e, ap h.ret f)

    pub waits_more : Due h next → ((o : ℕ) → Listed order o → o < next) → Waits h order (next + 1) (snoc waiting next)
    waits_more due below = record {
      are = λ o at. are o (listed_either waiting next at);
      all = λ o l left. all o left (dec_lt o next) l;
      rise = pairs_snoc waiting next (λ x y. x < y) waits.rise (λ i l. (waits.are (placed waiting i) (record { at = i; below = l; here = refl })).0);
      overlap = λ o p a b. waits_over o p (listed_either waiting next a) (listed_either waiting next b);
    }
      where
        itself : Left h order next
        itself = record { due = due; unplaced = λ at. omega (arith, below next at) }

        are : (o : ℕ) → Listed waiting o ⊎ (next ≡ o) → (o < next + 1) × Left h order o
        are o (inl at) = let (l, left) = waits.are o at in (omega arith, left)
        are o (inr e) = (omega arith, rw e at itself)

        all : (o : ℕ) → Left h order o → Dec (o < next) → o < next + 1 → Listed (snoc waiting next) o
        all o left (yes m) l = listed_old waiting next (waits.all o m left)
        all o left (no m) l = let last : o ≡ next = omega arith in rw last (listed_new waiting next)

  -- where the next operation is not called before the least return, all that is enabled waits
  pub waits_enabling : next ≤ h.count → {least : ℕ} → LeastReturn h waiting least → ((next < h.count) × (h.call next < least) → ⊥) → Enabling h next waiting
  waits_enabling within {least} is_least closed = record { least = least; is_least = is_least; before = λ o at. before o at is_least.met; behind = λ o l m. behind o m (dec_lt next o) l }
    where
      before : (o : ℕ) → Listed waiting o → (least ≡ h.end) ⊎ ((p : ℕ) × Listed waiting p × (h.ret p ≡ least)) → h.call o < least
      before o at (inl e) = let known : o < h.count = omega (arith, (waits.are o at).0) in omega (arith, lawful.spans o known, lawful.ends o known)
      before o at (inr (p, there, e)) = omega (arith, waits.overlap o p at there)

      not_before : next < h.count → least ≤ h.call next
      not_before known = let no : h.call next < least → ⊥ = λ l. closed (known, l) in omega arith

      behind : (o : ℕ) → o < h.count → Dec (next < o) → next ≤ o → least ≤ h.call o
      behind o known (yes l) m = omega (arith, not_before (omega arith), lawful.numbered next o l known)
      behind o known (no l) m = let same : next ≡ o = omega arith in rw same at (not_before (omega arith))

  module _ (enabling : Enabling h next waiting) where
    -- what waits is enabled
    pub waits_enabled : {o : ℕ} → Listed waiting o → Enabled h order o
    waits_enabled {o} at = record { left = (waits.are o at).1; first = λ p left. first p left (dec_lt p next) }
      where
        first : (p : ℕ) → Left h order p → Dec (p < next) → h.call o < h.ret p
        first p left (yes l) = waits.overlap o p at (waits.all p l left)
        first p left (no l) = omega (arith, enabling.before o at, enabling.behind p (omega arith) left.due.known, lawful.spans p left.due.known)

    -- what is enabled waits
    pub enabled_waits : {o : ℕ} → Enabled h order o → Listed waiting o
    enabled_waits {o} enabled = go (dec_lt o next) enabling.is_least.met
      where
        known : o < h.count
        known = enabled.left.due.known

        go : Dec (o < next) → (enabling.least ≡ h.end) ⊎ ((p : ℕ) × Listed waiting p × (h.ret p ≡ enabling.least)) → Listed waiting o
        go (yes l) m = waits.all o l enabled.left
        go (no l) (inl e) = absurd (omega (arith, enabling.behind o (omega arith) known, lawful.spans o known, lawful.ends o known))
        go (no l) (inr (p, at, e)) = absurd (omega (arith, enabling.behind o (omega arith) known, enabled.first p (waits.are p at).1))

    -- if nothing waits, nothing is left
    pub none_waits : length waiting ≡ 0 → (o : ℕ) → Left h order o → ⊥
    none_waits none o left = go (dec_lt o next) enabling.is_least.met
      where
        known : o < h.count
        known = left.due.known

        go : Dec (o < next) → (enabling.least ≡ h.end) ⊎ ((p : ℕ) × Listed waiting p × (h.ret p ≡ enabling.least)) → ⊥
        go (yes l) m = omega (arith, (waits.all o l left).below)
        go (no l) (inl e) = omega (arith, enabling.behind o (omega arith) known, lawful.spans o known, lawful.ends o known)
        go (no l) (inr (p, at, e)) = omega (arith, at.below)
