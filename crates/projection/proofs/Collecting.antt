-- The values of listed operations, collected one after the other.
use Prim.Native.Nat.{ℕ, ◌+◌, ◌≤◌, ◌<◌}
use native.Mathlib.Omega.{arith}
use native.Mathlib.Numerals.{add-one}
use mathlib.Core.Path.{◌≡◌, refl, sym, ap}
use mathlib.Core.Bool.{Bool, true, false}
use mathlib.Core.Logic.{◌⊎◌, inl, inr}
use mathlib.Core.List.{List, [], ◌∷◌, ◌++◌, append-nil}
use lib.ListN.{length, get_or, take}
use lib.Dec.{eqb}
use lib.Seq.{take-suc}
use borrow.Author.Tests.{ne_eqb}
use Rattle.std.specs.Prelude.{if◌then◌else◌}
use Rattle.reader.specs.Log.{max_records}
use Rattle.table.specs.Table.{Pushed}
use Rattle.history.specs.History.{History, empty_remove, no_kind}
use Rattle.history.specs.Table.{kind_at, value_at}
use Rattle.projection.specs.Projection.{values_of}
use Rattle.projection.specs.Marks.{entries_of}
use Rattle.projection.specs.Listed.{ValueAdded}

-- The loop of `collect` has come to the listed operation at index i.
pub record Collecting (table listed values : List ℕ) (count i : ℕ) : Type 0 where
  -- it has come no further than their end
  pub within : i ≤ length listed
  -- there are no more values than operations before it, and the table has its length
  pub few : count ≤ i
  pub sized : length values ≡ max_records
  -- they are the values of those operations
  pub holds : take count values ≡ values_of (entries_of table) (take i listed)

-- what has no kind has no value, nor has an empty remove, and any other operation has its own
module _ {table values : List ℕ} {o count : ℕ} where
  pub value_none : length values ≡ max_records → (kind_at table o ≡ no_kind) ⊎ (kind_at table o ≡ empty_remove) → ValueAdded table o count values count values
  unfolding values_of
  value_none sized valueless = record { few = omega arith; sized = sized; holds = rw (skipped valueless) (sym (append-nil (take count values))) }
    where
      skipped : (kind_at table o ≡ no_kind) ⊎ (kind_at table o ≡ empty_remove) → values_of (entries_of table) (o ∷ []) ≡ []
      skipped (inl k) = rw k refl
      skipped (inr k) = rw k refl

  pub value_own : {values' : List ℕ} → (kind_at table o ≡ no_kind → ⊥) → (kind_at table o ≡ empty_remove → ⊥) → Pushed count (value_at table o) values values'
      → ValueAdded table o count values (count + 1) values'
  unfolding values_of
  value_own n k pushed = record { few = omega arith; sized = pushed.sized; holds = rw (ne_eqb _ _ n, ne_eqb _ _ k) pushed.holds }

-- the values of operations and of those behind them
values_append : (h : History) (os ps : List ℕ) → values_of h (os ++ ps) ≡ values_of h os ++ values_of h ps
unfolding values_of
values_append h [] ps = refl
values_append h (o ∷ os) ps = go (eqb (h.kind o) no_kind) (eqb (h.kind o) empty_remove) (values_append h os ps)
  where
    go : (none empty : Bool) → values_of h (os ++ ps) ≡ values_of h os ++ values_of h ps
        → (if none then values_of h (os ++ ps) else if empty then values_of h (os ++ ps) else h.value o ∷ values_of h (os ++ ps))
        ≡ (if none then values_of h os else if empty then values_of h os else h.value o ∷ values_of h os) ++ values_of h ps
    go true empty e = e
    go false true e = e
    go false false e = ap (λ vs. h.value o ∷ vs) e

pub collecting_starts : (table listed : List ℕ) {values : List ℕ} → length values ≡ max_records → Collecting table listed values 0 0
unfolding values_of
collecting_starts table listed sized = record { within = omega arith; few = omega arith; sized = sized; holds = refl }

module _ {table listed values : List ℕ} {count i : ℕ} (collecting : Collecting table listed values count i) where
  pub collecting_next : i < length listed → {count' : ℕ} {values' : List ℕ} → ValueAdded table (get_or listed i 0) count values count' values' → Collecting table listed values' count' (i + 1)
  collecting_next l added = record {
    within = omega arith;
    few = omega (arith, collecting.few, added.few);
    sized = added.sized;
    holds = rw (add-one, take-suc listed i 0 l, values_append (entries_of table) (take i listed) (get_or listed i 0 ∷ []), ← collecting.holds) added.holds;
  }
