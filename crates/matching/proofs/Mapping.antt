-- The values of the adds are put into a map, and the add of a value is found there.
use Prim.Native.Nat.{ℕ, ◌+◌, ◌≤◌, ◌<◌}
use native.Mathlib.Omega.{arith}
use mathlib.Core.Path.{◌≡◌, refl, sym, ap, ◌∙◌}
use mathlib.Core.List.{List}
use lib.ListN.{length, get_or, set, length-set}
use Rattle.map.specs.Map.{Latest}
use Rattle.map.proofs.Laws.{key_new, key_old}
use Rattle.reader.specs.Log.{max_records}
use Rattle.history.specs.History.{add}
use Rattle.history.specs.Table.{kind_at, value_at}
use Rattle.history.proofs.Basics.{up_to}
use Rattle.matching.specs.Matching.{AddOf, AddsMapped}
use Rattle.matching.specs.declared.values.Adds.{Adds}

module _ {table : List ℕ} {m : ℕ} {adds : Adds} (mapped : AddsMapped table m adds) where
  -- operation m is no add
  pub mapped_other : (kind_at table m ≡ add → ⊥) → AddsMapped table (m + 1) adds
  mapped_other other = record {
    sized = mapped.sized;
    within = omega (arith, mapped.within);
    are = λ i l. let (below, of) = mapped.are i l in (omega arith, of);
    all = up_to mapped.all (λ k. absurd (other k));
  }

  -- operation m is an add, and its value is put in
  pub mapped_more : m < max_records → kind_at table m ≡ add → {adds' : Adds} → adds'.values.keys ≡ set adds.values.keys adds.values.count (value_at table m)
      → adds'.values.count ≡ adds.values.count + 1 → adds'.indices ≡ set adds.indices adds.values.count m → AddsMapped table (m + 1) adds'
  mapped_more room k {adds'} values count indices = record {
    sized = ap length indices ∙ length-set adds.indices adds.values.count m ∙ mapped.sized;
    within = omega (arith, count, mapped.within);
    are = rw count (up_to
        (λ i l. rw (value_old i l, add_old i l) (let (below, of) = mapped.are i l in (omega arith, of)))
        (rw (value_new, add_new) (omega arith, record { adds = k; values = refl })));
    all = up_to (λ a l b. let (i, h, e) = mapped.all a l b in (i, omega (arith, count), add_old i h ∙ e)) (λ b. (adds.values.count, omega (arith, count), add_new));
  }
    where
      value_new : get_or adds'.values.keys adds.values.count 0 ≡ value_at table m
      value_new = key_new adds.values.keys adds.values.count (value_at table m) values (omega (arith, adds.values.linked.keys_sized, mapped.within))

      value_old : (i : ℕ) → i < adds.values.count → get_or adds'.values.keys i 0 ≡ get_or adds.values.keys i 0
      value_old = key_old adds.values.keys adds.values.count (value_at table m) values

      add_new : get_or adds'.indices adds.values.count 0 ≡ m
      add_new = key_new adds.indices adds.values.count m indices (omega (arith, mapped.sized, mapped.within))

      add_old : (i : ℕ) → i < adds.values.count → get_or adds'.indices i 0 ≡ get_or adds.indices i 0
      add_old = key_old adds.indices adds.values.count m indices

  -- the add of a value is found by the value's entry; without an entry there is none
  module _ {value i : ℕ} (latest : Latest adds.values.keys adds.values.count value i) where
    pub add_found : i < adds.values.count → (get_or adds.indices i 0 < m) × AddOf table value (get_or adds.indices i 0)
    add_found l = let (below, of) = mapped.are i l in (below, record { adds = of.adds; values = of.values ∙ latest.holds l })

    pub add_unknown : adds.values.count ≤ i → (a : ℕ) → a < m → AddOf table value a → ⊥
    add_unknown l a b of =
        let (j, h, e) = mapped.all a b of.adds in
        omega (arith, (latest.last j h (sym (mapped.are j h).1.values ∙ ap (value_at table) e ∙ of.values)).0)
