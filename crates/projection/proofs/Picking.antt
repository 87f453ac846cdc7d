-- Records picked out of records, in their places: where each comes from.
use Prim.Native.Nat.{ℕ, zero, suc, ◌≤◌, ◌<◌}
use native.Mathlib.Omega.{arith}
use native.Mathlib.Decide.{dec_lt}
use mathlib.Core.Path.{◌≡◌, refl, sym, ap, ◌∙◌}
use mathlib.Core.Bool.{Bool, true, false}
use mathlib.Core.Logic.{◌↔◌}
use mathlib.Core.List.{List, [], ◌∷◌}
use lib.ListN.{length}
use Rattle.record.specs.declared.record.Record.{Record}
use Rattle.reader.specs.Readable.{record_of, Next}

-- record i is picked, and stands at place j of those picked
pub record PickedAt (source : ℕ → ℕ) (kept : List Record) (i j : ℕ) : Type 0 where
  pub below : j < length kept
  pub is : source j ≡ i

-- `kept` are the records with a marked index, in their places: each has a source, an index that is marked, and each such index is one.
pub record Picked (marked : ℕ → Bool) (records kept : List Record) : Type 0 where
  pub source : ℕ → ℕ
  pub fewer : length kept ≤ length records
  pub below : (j : ℕ) → j < length kept → source j < length records
  pub rises : (i j : ℕ) → i < j → j < length kept → source i < source j
  pub same : (j : ℕ) → j < length kept → record_of kept j ≡ record_of records (source j)
  pub only : (j : ℕ) → j < length kept → marked (source j) ≡ true
  pub every : (i : ℕ) → i < length records → marked i ≡ true → (j : ℕ) × PickedAt source kept i j

-- out of none
pub picked_none : (marked : ℕ → Bool) → Picked marked [] []
picked_none marked = record {
  source = λ j. j;
  fewer = omega arith;
  below = λ j h. h;
  rises = λ i j l h. l;
  same = λ j h. refl;
  only = λ j h. absurd (omega arith);
  every = λ i h m. absurd (omega arith);
}

-- the sources behind a first record that is picked
abbrev with_first : (ℕ → ℕ) → ℕ → ℕ
with_first source zero = zero
with_first source (suc j) = suc (source j)

-- one record more in front, which is picked
pub picked_first : (marked : ℕ → Bool) {records kept : List Record} (r : Record) → marked 0 ≡ true → Picked (λ i. marked (suc i)) records kept → Picked marked (r ∷ records) (r ∷ kept)
picked_first marked {records} {kept} r first p = record {
  source = with_first p.source;
  fewer = omega (arith, p.fewer);
  below = below;
  rises = rises;
  same = same;
  only = only;
  every = every;
}
  where
    below : (j : ℕ) → j < length (r ∷ kept) → with_first p.source j < length (r ∷ records)
    below zero h = omega arith
    below (suc j) h = omega (arith, p.below j (omega arith))

    rises : (i j : ℕ) → i < j → j < length (r ∷ kept) → with_first p.source i < with_first p.source j
    rises zero zero l h = absurd (omega arith)
    rises zero (suc j) l h = omega arith
    rises (suc i) zero l h = absurd (omega arith)
    rises (suc i) (suc j) l h = omega (arith, p.rises i j (omega arith) (omega arith))

    same : (j : ℕ) → j < length (r ∷ kept) → record_of (r ∷ kept) j ≡ record_of (r ∷ records) (with_first p.source j)
    same zero h = refl
    same (suc j) h = p.same j (omega arith)

    only : (j : ℕ) → j < length (r ∷ kept) → marked (with_first p.source j) ≡ true
    only zero h = first
    only (suc j) h = p.only j (omega arith)

    every : (i : ℕ) → i < length (r ∷ records) → marked i ≡ true → (j : ℕ) × PickedAt (with_first p.source) (r ∷ kept) i j
    every zero h m = (0, record { below = omega arith; is = refl })
    every (suc i) h m = let (j, at) = p.every i (omega arith) m in (suc j, record { below = omega (arith, at.below); is = ap suc at.is })

-- one record more in front, which is not picked
pub picked_others : (marked : ℕ → Bool) {records kept : List Record} (r : Record) → marked 0 ≡ false → Picked (λ i. marked (suc i)) records kept → Picked marked (r ∷ records) kept
picked_others marked {records} {kept} r first p = record {
  source = λ j. suc (p.source j);
  fewer = omega (arith, p.fewer);
  below = λ j h. omega (arith, p.below j h);
  rises = λ i j l h. omega (arith, p.rises i j l h);
  same = p.same;
  only = p.only;
  every = every;
}
  where
    every : (i : ℕ) → i < length (r ∷ records) → marked i ≡ true → (j : ℕ) × PickedAt (λ j. suc (p.source j)) kept i j
    every zero h m = let z : ◌≡◌ {A = ℕ} 0 1 = cc in absurd (omega arith)
    every (suc i) h m = let (j, at) = p.every i (omega arith) m in (j, record { below = at.below; is = ap suc at.is })

module _ {marked : ℕ → Bool} {records kept : List Record} (p : Picked marked records kept) where
  -- places compare as their sources do
  pub source_order : (i j : ℕ) → i < length kept → j < length kept → (p.source i < p.source j) ↔ (i < j)
  source_order i j h k = (by (dec_lt i j) (dec_lt j i), λ l. p.rises i j l k)
    where
      by : Dec (i < j) → Dec (j < i) → p.source i < p.source j → i < j
      by (yes l) d m = l
      by (no l) (yes d) m = absurd (omega (arith, p.rises j i d h))
      by (no l) (no d) m = let e : i ≡ j = omega arith in absurd (omega (arith, ap p.source e))

  -- no two places have one source
  pub source_one : (i j : ℕ) → i < length kept → j < length kept → p.source i ≡ p.source j → i ≡ j
  source_one i j h k e = by (dec_lt i j) (dec_lt j i)
    where
      by : Dec (i < j) → Dec (j < i) → i ≡ j
      by (yes l) d = absurd (omega (arith, p.rises i j l k))
      by (no l) (yes d) = absurd (omega (arith, p.rises j i d h))
      by (no l) (no d) = omega arith

  -- a picked record has the client and the event of its source
  pub client_same : (j : ℕ) → j < length kept → (record_of kept j).client ≡ (record_of records (p.source j)).client
  client_same j h = ap (λ r. r.client) (p.same j h)

  pub event_same : (j : ℕ) → j < length kept → (record_of kept j).event ≡ (record_of records (p.source j)).event
  event_same j h = ap (λ r. r.event) (p.same j h)

  -- a client's next record is its next one among those picked, if it is one of them
  pub next_picked : (i j : ℕ) → i < length kept → j < length kept → Next records (p.source i) (p.source j) → Next kept i j
  next_picked i j h k next = record {
    later = (source_order i j h k).0 next.later;
    there = k;
    same = client_same j k ∙ next.same ∙ sym (client_same i h);
    between = λ b l m e. next.between (p.source b) (p.rises i b l (omega arith)) (p.rises b j m k) (sym (client_same b (omega arith)) ∙ e ∙ client_same i h);
  }
