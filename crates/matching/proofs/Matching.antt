-- Removes are matched with the adds of their values, one after the other.
use Prim.Native.Nat.{ℕ, ◌+◌, ◌≤◌, ◌<◌}
use native.Mathlib.Omega.{arith}
use native.Mathlib.Nat.{add-sub_cancel}
use native.Mathlib.Decide.{ℕ_discrete}
use mathlib.Core.Path.{◌≡◌, sym, ap, ◌∙◌}
use mathlib.Core.List.{List}
use lib.ListN.{length, get_or, set, length-set}
use Rattle.reader.specs.Log.{max_records}
use Rattle.history.specs.History.{add, remove}
use Rattle.history.specs.Table.{kind_at, value_at}
use Rattle.history.proofs.Basics.{up_to}
use Rattle.matching.specs.Matching.{AddOf, Takes, partner_at, Adder, Remover, Matching, Partners, AddedOnce, Noted}
use Rattle.matching.proofs.Storing.{entry_stored}

-- an operation that does not remove the value of an add leaves its remover as it is
remover_more : {table : List ℕ} {n a x : ℕ} → Remover table n a x → (Takes table a n → ⊥) → Remover table (n + 1) a x
remover_more {table} {a = a} {x = x} remover other = record {
  some = λ p. (omega (arith, (remover.some p).0), (remover.some p).1);
  latest = up_to {P = λ r. Takes table a r → r < x} remover.latest (λ takes. absurd (other takes));
}

module _ (table : List ℕ) (count r : ℕ) (partner : List ℕ) where
  -- an operation that is no remove, or whose value no add has, leaves the table as it is
  noted_nothing : (kind_at table r ≡ remove → (a : ℕ) → a < count → AddOf table (value_at table r) a → ⊥) → Noted table count r partner partner
  noted_nothing none = record {
    matched = λ once matching. record {
      sized = matching.sized;
      adders = up_to matching.adders (λ k. record { some = λ p. absurd (omega (arith, matching.unmatched r (λ a. omega arith) (λ k. omega arith))); none = λ z. none k });
      removers = λ a l k. remover_more (matching.removers a l k) (λ takes. none takes.removes a l (record { adds = k; values = sym takes.same }));
      unmatched = λ o n m. matching.unmatched o n (λ k. omega (arith, m k));
    };
  }

  pub noted_other : (kind_at table r ≡ remove → ⊥) → Noted table count r partner partner
  noted_other other = noted_nothing (λ k. absurd (other k))

  pub noted_unknown : ((a : ℕ) → a < count → AddOf table (value_at table r) a → ⊥) → Noted table count r partner partner
  noted_unknown none = noted_nothing (λ k. none)

  -- a remove and the add of its value are made partners
  module _ (k : kind_at table r ≡ remove) (few : count ≤ max_records) (here : r < count) (sized : length partner ≡ max_records) {a : ℕ} (l : a < count) (of : AddOf table (value_at table r) a) where
    abbrev partner' : List ℕ
    partner' = set (set partner r (a + 1)) a (r + 1)

    -- an entry of the new table: the add's, the remove's, or another, which is as it was
    entry : (P : ℕ → Type 0) (o : ℕ) → (o ≡ a → P (r + 1)) → (o ≡ r → P (a + 1)) → ((o ≡ a → ⊥) → (o ≡ r → ⊥) → P (get_or partner o 0)) → P (get_or partner' o 0)
    entry P o adds removes other = entry_stored P (set partner r (a + 1)) a (r + 1) o (simp length-set (omega arith)) adds (λ n. entry_stored P partner r (a + 1) o (omega arith) removes (other n))

    module _ (once : AddedOnce table count) (matching : Matching table count r partner) where
      adder : (s : ℕ) → s < r + 1 → kind_at table s ≡ remove → Adder table count s (get_or partner' s 0)
      adder s m ks = entry (Adder table count s) s
          (λ e. absurd (omega (arith, ap (kind_at table) e, of.adds)))
          (λ e. rw e (record { some = λ p. (omega arith, rw (add-sub_cancel a 1) of); none = λ z. absurd (omega arith) }))
          (λ n d. matching.adders s (omega arith) ks)

      remover : (b : ℕ) → b < count → kind_at table b ≡ add → Remover table (r + 1) b (get_or partner' b 0)
      remover b m kb = entry (Remover table (r + 1) b) b
          (λ e. rw e (record { some = λ p. (omega arith, rw (add-sub_cancel r 1) (record { removes = k; same = sym of.values })); latest = λ s l t. l }))
          (λ e. absurd (omega (arith, ap (kind_at table) e)))
          (λ n d. remover_more (matching.removers b m kb) (λ takes. n (once b a m l kb of.adds (sym takes.same ∙ sym of.values))))

      unmatched' : (o : ℕ) → (kind_at table o ≡ add → ⊥) → (kind_at table o ≡ remove → r + 1 ≤ o) → get_or partner' o 0 ≡ 0
      unmatched' o n m = entry (λ x. x ≡ 0) o
          (λ e. absurd (n (ap (kind_at table) e ∙ of.adds)))
          (λ e. absurd (omega (arith, m (ap (kind_at table) e ∙ k))))
          (λ d f. matching.unmatched o n (λ s. omega (arith, m s)))

    pub noted_pair : Noted table count r partner partner'
    noted_pair = record { matched = λ once matching. record { sized = simp length-set sized; adders = adder once matching; removers = remover once matching; unmatched = unmatched' once matching } }

-- a partner is an operation
pub partner_within : {table : List ℕ} {count : ℕ} {partner : List ℕ} → Partners table count partner → {o : ℕ} → o < count → partner_at partner o ≤ count
partner_within {table} {count} {partner} partners {o} l = by (ℕ_discrete (kind_at table o) add) (ℕ_discrete (kind_at table o) remove) (ℕ_discrete (partner_at partner o) 0)
  where
    by : Dec (kind_at table o ≡ add) → Dec (kind_at table o ≡ remove) → Dec (partner_at partner o ≡ 0) → partner_at partner o ≤ count
    by a r (yes z) = omega arith
    by (yes k) r (no z) = omega (arith, ((partners.removers o l k).some (omega arith)).0)
    by (no n) (yes k) (no z) = omega (arith, ((partners.adders o l k).some (omega arith)).0)
    by (no n) (no m) (no z) = omega (arith, partners.unmatched o n (λ k. absurd (m k)))
