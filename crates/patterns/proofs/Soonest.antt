-- The table of the soonest returns is filled, from the last position down.
use Prim.Native.Nat.{ℕ, ◌-◌, ◌≤◌, ◌<◌}
use native.Mathlib.Omega.{arith}
use native.Mathlib.Decide.{ℕ_discrete}
use mathlib.Core.Path.{◌≡◌}
use mathlib.Core.List.{List}
use lib.ListN.{length, set, length-set}
use Rattle.history.specs.History.{History}
use Rattle.matching.specs.Answers.{First, LeastFrom}
use Rattle.matching.specs.Held.{Held}
use Rattle.matching.proofs.Numbers.{Smaller, least_back}
use Rattle.matching.proofs.Storing.{filled_back}
use Rattle.patterns.specs.Blocked.{removal_by, Soonest, SoonestTable}

-- The first operation called from a position on.
abbrev CalledFrom : History → ℕ → ℕ → Type 0
CalledFrom h p o = First (λ b. p ≤ h.call b) h.count o

module _ {h : History} (held : Held h) where
  module _ {p o : ℕ} (called : CalledFrom h p o) where
    -- those after it are called from there on too
    pub called_after : {b : ℕ} → o ≤ b → b < h.count → p ≤ h.call b
    called_after {b} after known = go (ℕ_discrete o b)
      where
        go : Dec (o ≡ b) → p ≤ h.call b
        go (yes e) = rw e at (called.holds (omega arith))
        go (no n) = omega (arith, called.holds (omega arith), held.lawful.numbered o b (omega arith) known)

    -- from one position more on: the one before it, if it is called there
    called_here : 0 < o → h.call (o - 1) ≡ p - 1 → CalledFrom h (p - 1) (o - 1)
    called_here some e = record {
      within = omega (arith, called.within);
      holds = λ l. omega arith;
      none_lower = λ b l late. omega (arith, held.lawful.numbered b (o - 1) l (omega (arith, called.within)));
    }

    -- or the same
    called_on : (0 < o → h.call (o - 1) ≡ p - 1 → ⊥) → CalledFrom h (p - 1) o
    called_on other = record {
      within = called.within;
      holds = λ l. omega (arith, called.holds l);
      none_lower = λ b l late. go b l late (ℕ_discrete b (o - 1));
    }
      where
        before : (b : ℕ) → b < o → h.call b < p
        before b l = let not_late : p ≤ h.call b → ⊥ = called.none_lower b l in omega arith

        go : (b : ℕ) → b < o → p - 1 ≤ h.call b → Dec (b ≡ o - 1) → ⊥
        go b l late (yes e) = let here : h.call b ≡ p - 1 = omega (arith, before b l) in other (omega arith) (rw e at here)
        go b l late (no n) = omega (arith, before (o - 1) (omega arith), held.lawful.numbered b (o - 1) (omega arith) (omega (arith, called.within)))

-- The table is filled from position p on: o is the first operation called from there on, and `least` the entry for p.
pub record Filling (h : History) (partner soonest : List ℕ) (least o p : ℕ) : Type 0 where
  pub within : p ≤ h.end
  pub called : CalledFrom h p o
  pub entry : LeastFrom (removal_by h partner) h.end h.count o least
  pub filled : SoonestTable h partner p soonest

module _ {h : History} {partner soonest : List ℕ} {least o p : ℕ} (held : Held h) (so_far : Filling h partner soonest least o p) (some : 0 < p) where
  -- one entry more
  filling_more : {least' o' : ℕ} → CalledFrom h (p - 1) o' → LeastFrom (removal_by h partner) h.end h.count o' least'
      → Filling h partner (set soonest (p - 1) least') least' o' (p - 1)
  filling_more {o' = o'} called entry = record {
    within = omega (arith, so_far.within);
    called = called;
    entry = entry;
    filled = record {
      sized = simp length-set so_far.filled.sized;
      returns = filled_back (Soonest h partner) soonest some fits so_far.filled.returns (record { from = o'; called = called; least = entry });
    };
  }
    where
      fits : p ≤ length soonest
      fits = omega (arith, so_far.within, held.short, so_far.filled.sized)

  -- an operation is called there
  pub filling_call : 0 < o → h.call (o - 1) ≡ p - 1 → {least' : ℕ} → Smaller (removal_by h partner (o - 1)) least least'
      → Filling h partner (set soonest (p - 1) least') least' (o - 1) (p - 1)
  filling_call l e smaller = filling_more (called_here held so_far.called l e) (least_back l so_far.called.within so_far.entry smaller)

  -- none is
  pub filling_on : (0 < o → h.call (o - 1) ≡ p - 1 → ⊥) → Filling h partner (set soonest (p - 1) least) least o (p - 1)
  filling_on other = filling_more (called_on held so_far.called other) so_far.entry
