-- The laws of this crate: which fate is tried of a remove that has not returned, and that the table holds its history.
use Prim.Native.Nat.{ℕ, ◌-◌, ◌≤◌, ◌<◌}
use native.Mathlib.Omega.{arith}
use native.Mathlib.Decide.{ℕ_discrete}
use mathlib.Core.Path.{◌≡◌, refl, sym, ◌∙◌}
use mathlib.Core.List.{List}
use borrow.Author.Tests.{eq-eqb, ne_eqb}
use Rattle.reader.specs.Log.{max_records}
use Rattle.history.specs.History.{History, add, remove, empty_remove, no_kind, Returned, Lone}
use Rattle.history.specs.Table.{value_at, call_at, tabled, Agree, Entered}
use Rattle.history.proofs.Agreeing.{agree_sym}
use Rattle.violations.specs.Violations.{Is}
use Rattle.violations.specs.Fates.{taking, Free}
use Rattle.violations.proofs.Laws.{agree_lawful, comes_back_lawful, taking_back}
use Rattle.matching.specs.Held.{Held}
use Rattle.matching.specs.Matching.{partner_at, Partners}
use Rattle.matching.proofs.Partnering.{unpartnered_never, never_unpartnered}
use Rattle.fates.specs.Fates.{free_return, LeastAt}

-- the table with the entry of a remove that takes the value of an add holds the history in which it does
pub entered_taking : (count a : ℕ) {end o : ℕ} {table table' : List ℕ} → Entered table o remove (value_at table a) (call_at table o) (end - 1) table'
    → Agree (tabled count end table') (taking (tabled count end table) o a)
entered_taking count a {end} {o} {table} {table'} entered = record {
  count = refl;
  end = refl;
  kind = λ p l. kind p (ℕ_discrete p o);
  value = λ p l. value p (ℕ_discrete p o);
  call = λ p l. call p (ℕ_discrete p o);
  ret = λ p l. ret p (ℕ_discrete p o);
}
  where
    k : History
    k = tabled count end table'

    fate : History
    fate = taking (tabled count end table) o a

    kind : (p : ℕ) → Dec (p ≡ o) → k.kind p ≡ fate.kind p
    kind p (yes e) = rw (eq-eqb p o e, e) entered.entry.kind_is
    kind p (no n) = rw (ne_eqb p o n) (entered.others p 0 (omega arith) n)

    value : (p : ℕ) → Dec (p ≡ o) → k.value p ≡ fate.value p
    value p (yes e) = rw (eq-eqb p o e, e) entered.entry.value_is
    value p (no n) = rw (ne_eqb p o n) (entered.others p 1 (omega arith) n)

    call : (p : ℕ) → Dec (p ≡ o) → k.call p ≡ fate.call p
    call p (yes e) = rw e entered.entry.call_is
    call p (no n) = entered.others p 2 (omega arith) n

    ret : (p : ℕ) → Dec (p ≡ o) → k.ret p ≡ fate.ret p
    ret p (yes e) = rw (eq-eqb p o e, e) entered.entry.ret_is
    ret p (no n) = rw (ne_eqb p o n) (entered.others p 3 (omega arith) n)

module _ {count end : ℕ} {table partner : List ℕ} (held : Held (tabled count end table)) (partners : Partners table count partner) where
  abbrev h : History
  h = tabled count end table

  -- an add that is never removed returns where the table of partners says so
  free_returns : {b : ℕ} → Free h b → free_return h partner b ≡ h.ret b
  free_returns {b} free =
      rw (eq-eqb _ _ free.adds.kinds, eq-eqb _ _ (never_unpartnered held partners free.adds free.unremoved)) refl

  -- and what returns there is one
  returns_free : {b : ℕ} → b < count → free_return h partner b < end → Free h b
  returns_free {b} known back = by (ℕ_discrete (h.kind b) add) (ℕ_discrete (partner_at partner b) 0)
    where
      by : Dec (h.kind b ≡ add) → Dec (partner_at partner b ≡ 0) → Free h b
      by (yes kind) (yes none) =
          let adds : Is h add b = record { known = known; kinds = kind } in
          record { adds = adds; unremoved = unpartnered_never held partners adds none }
      by (yes kind) (no some) = absurd (omega (arith, rw (eq-eqb _ _ kind, ne_eqb _ _ some) at back))
      by (no other) d = absurd (omega (arith, rw (ne_eqb _ _ other) at back))

  -- What is found is the add that returns first of those that are never removed, if one of them has returned.
  module _ {a : ℕ} (soonest : LeastAt (free_return h partner) end count a) where
    pub none_free : count ≤ a → (b : ℕ) → Free h b → Returned h b → ⊥
    none_free none b free back = omega (arith, soonest.least b free.adds.known (omega (arith, free_returns free)))

    pub soonest_is_free : a < count → Free h a
    soonest_is_free some = returns_free some (soonest.below some)

    pub soonest_is_first : a < count → (b : ℕ) → Free h b → Returned h b → h.ret a ≤ h.ret b
    soonest_is_first some b free back =
        let least = (soonest.least b free.adds.known (omega (arith, free_returns free))).1 in
        omega (arith, free_returns (soonest_is_free some), free_returns free)

-- The table with the entry of a remove that takes a value holds what may be decided.
pub fate_held : (a : ℕ) {count end o : ℕ} {table table' : List ℕ} → Held (tabled count end table) → Lone (tabled count end table) → Is (tabled count end table) no_kind o
    → Entered table o remove (value_at table a) (call_at table o) (end - 1) table' → Held (tabled count end table')
fate_held a {count} {end} {o} {table} {table'} held lone pending entered = record {
  lawful = agree_lawful (agree_sym (entered_taking count a entered)) (comes_back_lawful held.lawful (taking_back lone pending a));
  few = held.few;
  short = held.short;
  empties = λ e l kind. empties e l kind (ℕ_discrete e o);
}
  where
    empties : (e : ℕ) → e < count → (tabled count end table').kind e ≡ empty_remove → Dec (e ≡ o) → (tabled count end table').ret e < max_records
    empties e l kind (yes same) = absurd (omega (arith, kind, rw (← same) at entered.entry.kind_is))
    empties e l kind (no other) =
        let was : (tabled count end table).kind e ≡ empty_remove = sym (entered.others e 0 (omega arith) other) ∙ kind in
        omega (arith, held.empties e l was, entered.others e 3 (omega arith) other)
