-- The gaps that values cover.
use Prim.Native.Nat.{ℕ, ◌+◌, ◌-◌, ◌≤◌, ◌<◌}
use native.Mathlib.Omega.{arith}
use mathlib.Core.Path.{◌≡◌, ◌∙◌}
use mathlib.Core.Logic.{◌⊎◌, inl, inr}
use mathlib.Core.List.{List}
use lib.ListN.{length, get_or, set, length-set}
use lib.Seq.{get_or-set_other}
use Rattle.history.specs.Positions.{max_positions}
use Rattle.history.specs.History.{History}
use Rattle.history.proofs.Basics.{up_to}
use Rattle.matching.specs.Returns.{NotedAt, ReturnsNoted}
use Rattle.matching.proofs.Numbers.{Larger}
use Rattle.matching.proofs.Returning.{Highest, highest_more}
use Rattle.matching.proofs.Storing.{entry_stored}
use Rattle.search.specs.Gaps.{CoversIn, LastUncovered, Swept}

-- The sweep has come to position g, for the values of a history.
pub record Sweeping (h : History) (reach : List ℕ) (g furthest last : ℕ) (gaps : List ℕ) : Type 0 where
  -- the entries below g are those of the table of gaps
  pub lasts : (f : ℕ) → f < g → LastUncovered h reach f (get_or gaps f 0)
  -- furthest is how far a value reaches at most whose add returns below g
  pub highest : Highest h reach g furthest
  -- last is 1 above the last gap below g that no value covers
  pub within : last ≤ g
  pub uncovered : 0 < last → (a : ℕ) → CoversIn h reach a (last - 1) → ⊥
  pub covered : (f : ℕ) → last ≤ f → f < g → (a : ℕ) × CoversIn h reach a f

-- one position more: x is how far a value reaches that is noted at g, and y how far one does that is noted up to there
module _ {h : History} {reach : List ℕ} {g furthest last : ℕ} {gaps : List ℕ} (s : Sweeping h reach g furthest last gaps) (in_gaps : g < length gaps)
    {x y : ℕ} (at : NotedAt h reach h.count g x) (larger : Larger furthest x y) where
  highest' : Highest h reach (g + 1) y
  highest' = highest_more s.highest at larger

  noted : {last' : ℕ} → LastUncovered h reach g last' → Sweeping h reach (g + 1) y last' (set gaps g last')
  noted {last'} now = record {
    lasts = λ f l. entry_stored (LastUncovered h reach f) gaps g last' f in_gaps (λ e. rw e now) (λ d. s.lasts f (omega arith));
    highest = highest';
    within = now.within;
    uncovered = now.uncovered;
    covered = λ f b l. now.covered f b (omega arith);
  }

  -- no value covers gap g
  sweeping_uncovered : y ≤ g → Sweeping h reach (g + 1) y (g + 1) (set gaps g (g + 1))
  sweeping_uncovered short = noted (record {
    within = omega arith;
    uncovered = λ p a covers. omega (arith, covers.until, highest'.over a covers.adds (omega (arith, covers.from)));
    covered = λ f b l. absurd (omega arith);
  })

  -- the value that reaches furthest covers it
  sweeping_covered : g < y → Sweeping h reach (g + 1) y last (set gaps g last)
  sweeping_covered long = noted (record {
    within = omega (arith, s.within);
    uncovered = s.uncovered;
    covered = λ f b l. up_to {P = λ f. last ≤ f → (a : ℕ) × CoversIn h reach a f} (λ f m b. s.covered f b m) here f (omega arith) b;
  })
    where
      here : last ≤ g → (a : ℕ) × CoversIn h reach a g
      here b = let (a, is, l, e) = highest'.met (omega arith) in (a, record { adds = is; from = omega arith; until = omega arith })

-- The sweep has come to position g, whatever history the table that it began with is of.
pub record SweptTo (end : ℕ) (gaps₀ gaps : List ℕ) (furthest last g : ℕ) : Type 0 where
  pub below : g ≤ end
  pub sized : length gaps ≡ max_positions
  -- the entries from g on are as they were
  pub rest : (f : ℕ) → g ≤ f → get_or gaps f 0 ≡ get_or gaps₀ f 0
  pub sweeping : (h : History) (reach : List ℕ) → h.end ≡ end → ReturnsNoted h reach h.count gaps₀ → Sweeping h reach g furthest last gaps

module _ {end : ℕ} {gaps₀ gaps : List ℕ} {furthest last g : ℕ} (swept : SweptTo end gaps₀ gaps furthest last g) where
  -- it goes on by one position
  pub swept_more : g < end → end ≤ max_positions → {y : ℕ} → Larger furthest (get_or gaps g 0) y → {last' : ℕ} → ((y ≤ g) × (last' ≡ g + 1)) ⊎ ((g < y) × (last' ≡ last)) → SweptTo end gaps₀ (set gaps g last') y last' (g + 1)
  swept_more l short {y} larger {last'} by = record {
    below = omega arith;
    sized = simp length-set swept.sized;
    rest = λ f m. get_or-set_other gaps g f last' 0 (λ e. omega arith) ∙ swept.rest f (omega arith);
    sweeping = λ h reach e noted. step h reach (swept.sweeping h reach e noted) (rw (swept.rest g (omega arith)) (noted.highest g (omega arith))) by;
  }
    where
      in_gaps : g < length gaps
      in_gaps = omega (arith, swept.sized)

      step : (h : History) (reach : List ℕ) → Sweeping h reach g furthest last gaps → NotedAt h reach h.count g (get_or gaps g 0) → ((y ≤ g) × (last' ≡ g + 1)) ⊎ ((g < y) × (last' ≡ last))
          → Sweeping h reach (g + 1) y last' (set gaps g last')
      step h reach s at (inl (b, e)) = rw e (sweeping_uncovered s in_gaps at larger b)
      step h reach s at (inr (b, e)) = rw e (sweeping_covered s in_gaps at larger b)

  -- it has come to the end
  pub swept_all : end ≤ g → Swept end gaps₀ gaps
  swept_all l = record {
    uncovered = λ h reach e noted. record { sized = swept.sized; lasts = λ f m. (swept.sweeping h reach e noted).lasts f (omega arith) };
  }
