-- What the code of a client says: the call that is pending, and whether the client has returned at a tick.
use Prim.Native.Nat.{ℕ, suc, ◌+◌, ◌*◌, ◌/◌, ◌%◌, ◌≤◌, ◌<◌}
use native.Mathlib.Omega.{arith}
use native.Mathlib.Decide.{dec_lt}
use mathlib.Core.Path.{◌≡◌, refl, sym, ◌∙◌}
use mathlib.Core.Bool.{Bool, true, false, not}
use mathlib.Core.List.{List, [], ◌∷◌}
use lib.ListN.{length, get_or}
use lib.Dec.{ltb, eqb}
use borrow.Author.Tests.{lt-ltb, le-ltb, eq-eqb, ne_eqb, eqb-true, eqb-false}
use Rattle.std.specs.Prelude.{Option, Some, None, unwrap_or, min, if◌then◌else◌}
use Rattle.record.specs.declared.record.Record.{Record}
use Rattle.reader.specs.Log.{is_call, leaves, pending_kind, returned_at, last_tick}
use Rattle.reader.specs.Tables.{code_of, start_of, Rising, first, more, LeastRemove}
use Rattle.reader.proofs.Events.{call_or_return}

-- the kind of the pending call
pub kind_code : (past : List Record) (client : ℕ) → pending_kind past client ≡ code_of past client % 4
unfolding pending_kind code_of
kind_code [] client = refl
kind_code (r ∷ past) client = go (eqb r.client client) (kind_code past client)
  where
    go : (b : Bool) → pending_kind past client ≡ code_of past client % 4
        → (if b then leaves r.event else pending_kind past client) ≡ (if b then suc (length past) * 4 + leaves r.event else code_of past client) % 4
    go true ih = omega (arith, call_or_return r.event)
    go false ih = ih

-- no more records come up to a client's latest one than there are
pub code_few : (past : List Record) (client : ℕ) → code_of past client / 4 ≤ length past
unfolding code_of
code_few [] client = omega arith
code_few (r ∷ past) client = go (eqb r.client client) (code_few past client)
  where
    go : (b : Bool) → code_of past client / 4 ≤ length past → (if b then suc (length past) * 4 + leaves r.event else code_of past client) / 4 ≤ suc (length past)
    go true ih = omega (arith, call_or_return r.event)
    go false ih = omega arith

start_few : (past : List Record) (tick : ℕ) → start_of past tick ≤ length past
unfolding start_of
start_few [] tick = omega arith
start_few (r ∷ past) tick = go (eqb r.tick tick) (start_few past tick)
  where
    go : (b : Bool) → start_of past tick ≤ length past → (if b then start_of past tick else suc (length past)) ≤ suc (length past)
    go true ih = omega arith
    go false ih = omega arith

-- a record of its client decides whether that has returned at a tick, if it is a return; and one of another client does not
module _ (r : Record) (past : List Record) (client tick : ℕ) where
  pub returned_own : r.client ≡ client → is_call r.event ≡ 0 → returned_at (r ∷ past) client tick ≡ eqb r.tick tick
  unfolding returned_at
  returned_own e c = rw (eq-eqb r.client client e, c) refl

  pub returned_other : (r.client ≡ client → ⊥) → returned_at (r ∷ past) client tick ≡ returned_at past client tick
  unfolding returned_at
  returned_other n = rw (ne_eqb r.client client n) refl

-- nobody has returned at a tick to come
returned_never : {past : List Record} → Rising past → (client tick : ℕ) → last_tick past < tick → returned_at past client tick ≡ false
unfolding returned_at
returned_never first client tick l = refl
returned_never (more {r} {past} rise rest) client tick l = go (eqb r.client client) (eqb (is_call r.event) 1) (returned_never rest client tick (omega arith))
  where
    go : (b c : Bool) → returned_at past client tick ≡ false
        → (if not b then returned_at past client tick else if c then returned_at past client tick else eqb r.tick tick) ≡ false
    go false c ih = ih
    go true true ih = ih
    go true false ih = ne_eqb r.tick tick (λ e. omega arith)

-- A client without a pending call has returned at the tick of the next record exactly if its latest record is one of that tick.
pub returned_code : {past : List Record} → Rising past → (client tick : ℕ) → last_tick past ≤ tick → code_of past client % 4 ≡ 0
    → returned_at past client tick ≡ ltb (start_of past tick) (code_of past client / 4)
unfolding returned_at code_of start_of
returned_code first client tick l idle = refl
returned_code (more {r} {past} rise rest) client tick l idle = go (eqb r.tick tick) refl (eqb r.client client) refl idle (returned_code rest client tick (omega arith))
  where
    go : (b : Bool) → eqb r.tick tick ≡ b → (c : Bool) → eqb r.client client ≡ c
        → (if c then suc (length past) * 4 + leaves r.event else code_of past client) % 4 ≡ 0
        → (code_of past client % 4 ≡ 0 → returned_at past client tick ≡ ltb (start_of past tick) (code_of past client / 4))
        → returned_at (r ∷ past) client tick ≡ ltb (if b then start_of past tick else suc (length past)) ((if c then suc (length past) * 4 + leaves r.event else code_of past client) / 4)
    go true t true c idle ih =
        let none : leaves r.event ≡ 0 = omega (arith, idle, call_or_return r.event) in
        returned_own r past client tick (eqb-true _ _ c) (omega (arith, call_or_return r.event)) ∙ t
        ∙ sym (lt-ltb (start_of past tick) ((suc (length past) * 4 + leaves r.event) / 4) (omega (arith, start_few past tick, call_or_return r.event)))
    go true t false c idle ih = returned_other r past client tick (eqb-false _ _ c) ∙ ih idle
    go false t true c idle ih =
        returned_never (more {r = r} rise rest) client tick (omega (arith, eqb-false r.tick tick t)) ∙ sym (le-ltb (suc (length past)) ((suc (length past) * 4 + leaves r.event) / 4) (omega (arith, call_or_return r.event)))
    go false t false c idle ih =
        returned_never (more {r = r} rise rest) client tick (omega (arith, eqb-false r.tick tick t)) ∙ sym (le-ltb (suc (length past)) (code_of past client / 4) (omega (arith, code_few past client)))

-- the lowest index of a pending remove, from an index on, among one code more, which has one or has not
module _ (codes : List ℕ) (i : ℕ) {from : ℕ} where
  pub least_same : (r : Option ℕ) → LeastRemove codes i from r → (get_or codes i 0 % 4 ≡ 2 → from < get_or codes i 0 / 4 → ⊥) → LeastRemove codes (i + 1) from r
  least_same (Some r) (behind, (p, h, e), least) other = (behind, (p, omega arith, e), λ q l pending after. by q l pending after (dec_lt q i))
    where
      by : (q : ℕ) → q < i + 1 → get_or codes q 0 % 4 ≡ 2 → from < get_or codes q 0 / 4 → Dec (q < i) → r < get_or codes q 0 / 4
      by q l pending after (yes below) = least q below pending after
      by q l pending after (no n) = let same : q ≡ i = omega arith in absurd (other (rw same at pending) (rw same at after))
  least_same None least other = λ q l pending after. by q l pending after (dec_lt q i)
    where
      by : (q : ℕ) → q < i + 1 → get_or codes q 0 % 4 ≡ 2 → from < get_or codes q 0 / 4 → Dec (q < i) → ⊥
      by q l pending after (yes below) = least q below pending after
      by q l pending after (no n) = let same : q ≡ i = omega arith in other (rw same at pending) (rw same at after)

  pub least_more : (r : Option ℕ) → LeastRemove codes i from r → {index : ℕ} → get_or codes i 0 ≡ (index + 1) * 4 + 2 → from ≤ index → LeastRemove codes (i + 1) from (Some (min (unwrap_or r index) index))
  least_more (Some r) (behind, (p, h, e), least) {index} is after = by (dec_lt r index)
    where
      lowest : (n : ℕ) → n ≤ r → n ≤ index → (q : ℕ) → q < i + 1 → get_or codes q 0 % 4 ≡ 2 → from < get_or codes q 0 / 4 → Dec (q < i) → n < get_or codes q 0 / 4
      lowest n a b q l pending after (yes below) = omega (arith, least q below pending after)
      lowest n a b q l pending after (no other) = let same : q ≡ i = omega arith in rw same (omega arith)

      by : Dec (r < index) → LeastRemove codes (i + 1) from (Some (min r index))
      by (yes l) =
          let old : min r index ≡ r = omega arith in
          rw old (behind, (p, omega arith, e), λ q l pending after. lowest r (omega arith) (omega arith) q l pending after (dec_lt q i))
      by (no n) =
          let new : min r index ≡ index = omega arith in
          rw new (after, (i, omega arith, is), λ q l pending after. lowest index (omega arith) (omega arith) q l pending after (dec_lt q i))
  least_more None least {index} is after =
      let new : min index index ≡ index = omega arith in
      rw new (after, (i, omega arith, is), λ q l pending behind. by q l pending behind (dec_lt q i))
    where
      by : (q : ℕ) → q < i + 1 → get_or codes q 0 % 4 ≡ 2 → from < get_or codes q 0 / 4 → Dec (q < i) → index < get_or codes q 0 / 4
      by q l pending behind (yes below) = absurd (least q below pending behind)
      by q l pending behind (no other) = let same : q ≡ i = omega arith in rw same (omega arith)
