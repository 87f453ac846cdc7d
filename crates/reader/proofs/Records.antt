-- The records of a readable log, one after the other: ticks, the turns of each client, the values added.
use Prim.Native.Nat.{ℕ, suc, ◌+◌, ◌*◌, ◌≤◌, ◌<◌}
use native.Mathlib.Omega.{arith}
use native.Mathlib.Decide.{dec_lt}
use native.Mathlib.Nat.{eq-or-lt_of_le}
use mathlib.Core.Path.{◌≡◌, refl, sym, ap, ◌∙◌}
use mathlib.Core.Bool.{Bool, true, false}
use mathlib.Core.Logic.{◌⊎◌, inl, inr}
use mathlib.Core.List.{List, [], ◌∷◌, ◌++◌, reverse, reverse-cons}
use lib.ListN.{length, length-reverse, get_or-append}
use lib.Seq.{get_or-append_seam}
use lib.Dec.{eqb}
use borrow.Author.Tests.{eq-eqb, ne_eqb, eqb-false, ltb-true, ltb-false}
use Rattle.std.specs.Prelude.{Ok}
use Rattle.record.specs.declared.record.Event.{Event}
use Rattle.record.specs.declared.record.Event.TheVariants.{CallAdd, CallRemove, ReturnAdd, ReturnRemove}
use Rattle.record.specs.declared.record.Record.{Record}
use Rattle.reader.specs.Log.{is_call, leaves, pending_kind, returned_at, value_of, added_values, last_tick, pending_remove, second_remove, has_pending_remove, fault}
use Rattle.table.specs.Table.{is_in}
use Rattle.reader.specs.Readable.{record_of, asks, Next, Unreturned}
use Rattle.reader.specs.Tables.{code_of}
use Rattle.reader.proofs.Codes.{kind_code, returned_own, returned_other}
use Rattle.reader.proofs.Events.{call_or_return, leaves_remove}
use Rattle.reader.proofs.Pending.{Last, Open, pending_lowest, pending_open, pending_from_lowest, pending_from_open}
use Rattle.reader.proofs.Faults.{no_fault}
use Rattle.table.proofs.Lists.{is_in_append, is_in_last}
use Rattle.reader.proofs.Run.{Admits, none, more}
use Rattle.reader.specs.Search.{None}
use Rattle.reader.proofs.Search.{Lowest, Highest, lowest, highest, dec_eq}

-- the record with an index among those of the past, which are latest first
abbrev pub nth : List Record → ℕ → Record
nth past i = record_of (reverse past) i

nth_last : (r : Record) (past : List Record) → nth (r ∷ past) (length past) ≡ r
nth_last r past =
    let at-seam : record_of (reverse past ++ (r ∷ [])) (length (reverse past)) ≡ r = get_or-append_seam (reverse past) r [] _ in
    rw reverse-cons (rw (length-reverse past) at at-seam)

nth_earlier : (r : Record) (past : List Record) (i : ℕ) → i < length past → nth (r ∷ past) i ≡ nth past i
nth_earlier r past i h = rw reverse-cons (get_or-append (reverse past) (r ∷ []) _ i (omega (arith, length-reverse past)))

-- the tick of the record before is one of theirs
pub last_tick_lem : (past : List Record) (bound : ℕ) → ((i : ℕ) → i < length past → (nth past i).tick ≤ bound) → last_tick past ≤ bound
last_tick_lem [] bound below = omega arith
last_tick_lem (r ∷ past) bound below = rw (nth_last r past) at (below (length past) (omega arith))

tick_last : (past : List Record) → Admits past → (i : ℕ) → i < length past → (nth past i).tick ≤ last_tick past
tick_last [] none i h = absurd (omega arith)
tick_last (r ∷ past) (more ok a) i h = go (eq-or-lt_of_le (omega arith)) (tick_last past a i)
  where
    go : (i ≡ length past) ⊎ (i < length past) → (i < length past → (nth past i).tick ≤ last_tick past) → (nth (r ∷ past) i).tick ≤ r.tick
    go (inl e) ih = rw (e, nth_last r past) (omega arith)
    go (inr l) ih = rw (nth_earlier r past i l) (omega (arith, (no_fault past r ok).tick, ih l))

-- "Ticks are checked not to fall": from any record to any later one
pub ticks_law : (past : List Record) → Admits past → (i j : ℕ) → i ≤ j → j < length past → (nth past i).tick ≤ (nth past j).tick
ticks_law [] none i j l h = absurd (omega arith)
ticks_law (r ∷ past) (more ok a) i j l h = go (eq-or-lt_of_le (omega arith)) (ticks_law past a i j l)
  where
    go : (j ≡ length past) ⊎ (j < length past) → (j < length past → (nth past i).tick ≤ (nth past j).tick) → (nth (r ∷ past) i).tick ≤ (nth (r ∷ past) j).tick
    go (inl e) ih = rw (e, nth_last r past) (tick_last (r ∷ past) (more ok a) i (omega arith))
    go (inr b) ih = rw (nth_earlier r past j b, nth_earlier r past i (omega arith)) (ih b)

-- Where the latest record of a client stands in a past that begins with r: it is r, or one before it, which is the latest there too.
data Place (r : Record) (past : List Record) (i : ℕ) : Type 0 where
  here : nth (r ∷ past) i ≡ r → i ≡ length past → Place r past i
  earlier : nth (r ∷ past) i ≡ nth past i → i < length past → (r.client ≡ (nth past i).client → ⊥) → Last (reverse past) i → Place r past i

place_of : (r : Record) (past : List Record) (i : ℕ) → i < suc (length past) → Last (reverse (r ∷ past)) i → Place r past i
place_of r past i h last = go (eq-or-lt_of_le (omega arith))
  where
    below : (k : ℕ) → k < suc (length past) → k < length (reverse (r ∷ past))
    below k l = omega (arith, length-reverse (r ∷ past))

    go : (i ≡ length past) ⊎ (i < length past) → Place r past i
    go (inl e) = here (ap (nth (r ∷ past)) e ∙ nth_last r past) e
    go (inr l) =
        let same : nth (r ∷ past) i ≡ nth past i = nth_earlier r past i l in
        earlier same l
        (λ e. last (length past) l (below (length past) (omega arith)) (rw (nth_last r past, same) e))
        (λ k a b e. let b' : k < length past = omega (arith, length-reverse past) in last k a (below k (omega arith)) (rw (nth_earlier r past k b', same) e))

-- the code of a client is that of its latest record
pub code_latest : (past : List Record) (i : ℕ) → i < length past → Last (reverse past) i → code_of past (nth past i).client ≡ (i + 1) * 4 + leaves (nth past i).event
unfolding code_of
code_latest [] i h last = absurd (omega arith)
code_latest (r ∷ past) i h last = go (place_of r past i h last) (code_latest past i)
  where
    go : Place r past i → (i < length past → Last (reverse past) i → code_of past (nth past i).client ≡ (i + 1) * 4 + leaves (nth past i).event)
        → code_of (r ∷ past) (nth (r ∷ past) i).client ≡ (i + 1) * 4 + leaves (nth (r ∷ past) i).event
    go (here same e) ih = rw (same, eq-eqb r.client r.client refl) (omega arith)
    go (earlier same l n last) ih = rw (same, ne_eqb r.client (nth past i).client n) (ih l last)

-- no record is of this client
abbrev Absent : List Record → ℕ → Type 0
Absent past client = (k : ℕ) → k < length past → (nth past k).client ≡ client → ⊥

absent_last : (r : Record) (past : List Record) {client : ℕ} → Absent (r ∷ past) client → r.client ≡ client → ⊥
absent_last r past absent e = absent (length past) (omega arith) (rw (nth_last r past) e)

absent_earlier : (r : Record) (past : List Record) {client : ℕ} → Absent (r ∷ past) client → Absent past client
absent_earlier r past absent k h e = absent k (omega arith) (rw (nth_earlier r past k h) e)

-- and 0 for a client without a record
code_absent : (past : List Record) (client : ℕ) → Absent past client → code_of past client ≡ 0
unfolding code_of
code_absent [] client absent = refl
code_absent (r ∷ past) client absent = rw (ne_eqb r.client client (absent_last r past absent)) (code_absent past client (absent_earlier r past absent))

-- a client's pending call is what its latest record leaves
pub kind_latest : (past : List Record) (i : ℕ) → i < length past → Last (reverse past) i → pending_kind past (nth past i).client ≡ leaves (nth past i).event
kind_latest past i h last = omega (arith, kind_code past (nth past i).client, code_latest past i h last, call_or_return (nth past i).event)

-- a client without a record has no pending call
pub kind_absent : (past : List Record) (client : ℕ) → Absent past client → pending_kind past client ≡ 0
kind_absent past client absent = omega (arith, kind_code past client, code_absent past client absent)

-- a client whose latest record is a return has returned at the tick of that record, and at no other
pub returned_latest : (past : List Record) (i tick : ℕ) → i < length past → Last (reverse past) i → is_call (nth past i).event ≡ 0
    → returned_at past (nth past i).client tick ≡ eqb (nth past i).tick tick
returned_latest [] i tick h last c = absurd (omega arith)
returned_latest (r ∷ past) i tick h last c = go (place_of r past i h last) (returned_latest past i tick)
  where
    go : Place r past i → (i < length past → Last (reverse past) i → is_call (nth past i).event ≡ 0 → returned_at past (nth past i).client tick ≡ eqb (nth past i).tick tick)
        → returned_at (r ∷ past) (nth (r ∷ past) i).client tick ≡ eqb (nth (r ∷ past) i).tick tick
    go (here same e) ih = rw same (returned_own r past r.client tick refl (rw same at c))
    go (earlier same l n last) ih = rw same (returned_other r past (nth past i).client tick n ∙ ih l last (rw same at c))

pub returned_absent : (past : List Record) (client tick : ℕ) → Absent past client → returned_at past client tick ≡ false
unfolding returned_at
returned_absent [] client tick absent = refl
returned_absent (r ∷ past) client tick absent = returned_other r past client tick (absent_last r past absent) ∙ returned_absent past client tick (absent_earlier r past absent)

-- The latest record of a client, as its code has it.
pub record LatestRecord (past : List Record) (client : ℕ) : Type 0 where
  pub at : ℕ
  pub below : at < length past
  pub own : (nth past at).client ≡ client
  pub last : Last (reverse past) at
  pub code : code_of past client ≡ (at + 1) * 4 + leaves (nth past at).event

pub code_record : (past : List Record) (client : ℕ) → (code_of past client ≡ 0 → ⊥) → LatestRecord past client
code_record past client some = go (highest (λ k. (nth past k).client ≡ client) (λ k. dec_eq (nth past k).client client) (length past))
  where
    go : Highest (λ k. (nth past k).client ≡ client) (length past) ⊎ None (λ k. (nth past k).client ≡ client) (length past) → LatestRecord past client
    go (inl s) =
        let last : Last (reverse past) s.at = λ k a b q. s.none_higher k a (omega (arith, length-reverse past)) (q ∙ s.holds) in
        record { at = s.at; below = s.below; own = s.holds; last = last; code = rw s.holds at (code_latest past s.at s.below last) }
    go (inr absent) = absurd (some (code_absent past client absent))

-- "a client's records go call, return, call, ..": the first of them is a call
pub first_law : (past : List Record) → Admits past → (j : ℕ) → j < length past → ((k : ℕ) → k < j → (nth past k).client ≡ (nth past j).client → ⊥) → asks (nth past j).event ≡ 0
first_law [] none j h alone = absurd (omega arith)
first_law (r ∷ past) (more ok a) j h alone = go (eq-or-lt_of_le (omega arith)) (first_law past a j)
  where
    go : (j ≡ length past) ⊎ (j < length past) → (j < length past → ((k : ℕ) → k < j → (nth past k).client ≡ (nth past j).client → ⊥) → asks (nth past j).event ≡ 0) → asks (nth (r ∷ past) j).event ≡ 0
    go (inl e) ih =
        let here : nth (r ∷ past) j ≡ r = ap (nth (r ∷ past)) e ∙ nth_last r past in
        rw here (sym (no_fault past r ok).asked ∙ kind_absent past r.client (λ k l q. alone k (omega arith) (rw (nth_earlier r past k l, here) q)))
    go (inr l) ih =
        let same : nth (r ∷ past) j ≡ nth past j = nth_earlier r past j l in
        rw same (ih l (λ k b q. alone k b (rw (nth_earlier r past k (omega arith), same) q)))

-- What holds of every record and the latest one before it of its client holds of every record and the next one of its client.
by_next : (P : Record → Record → Type 0)
    → ((past : List Record) (r : Record) → fault past r ≡ Ok tt → (i : ℕ) → i < length past → Last (reverse past) i → r.client ≡ (nth past i).client → Admits past → P (nth past i) r)
    → (past : List Record) → Admits past → (i j : ℕ) → Next (reverse past) i j → P (nth past i) (nth past j)
by_next P step [] none i j n = absurd (omega (arith, n.there))
by_next P step (r ∷ past) (more ok a) i j n = go (eq-or-lt_of_le (omega (arith, n.there, length-reverse (r ∷ past)))) (by_next P step past a i j)
  where
    i_earlier : i < length past
    i_earlier = omega (arith, n.later, n.there, length-reverse (r ∷ past))

    was : nth (r ∷ past) i ≡ nth past i
    was = nth_earlier r past i i_earlier

    go : (j ≡ length past) ⊎ (j < length past) → (Next (reverse past) i j → P (nth past i) (nth past j)) → P (nth (r ∷ past) i) (nth (r ∷ past) j)
    go (inl e) ih =
        let here : nth (r ∷ past) j ≡ r = ap (nth (r ∷ past)) e ∙ nth_last r past in
        let last : Last (reverse past) i = λ k b l q. let l' : k < length past = omega (arith, length-reverse past) in n.between k b (omega arith) (rw (nth_earlier r past k l', was) q) in
        rw (here, was) (step past r ok i i_earlier last (rw (here, was) at n.same) a)
    go (inr l) ih =
        let same : nth (r ∷ past) j ≡ nth past j = nth_earlier r past j l in
        rw (same, was) (ih (record {
          later = n.later;
          there = omega (arith, length-reverse past);
          same = rw (same, was) at n.same;
          between = λ k b c q. n.between k b c (rw (nth_earlier r past k (omega arith), was) q);
        }))

-- each that follows asks for what the one before it leaves
pub next_law : (past : List Record) → Admits past → (i j : ℕ) → Next (reverse past) i j → asks (nth past j).event ≡ leaves (nth past i).event
next_law = by_next (λ before r. asks r.event ≡ leaves before.event) (λ past r ok i h last own a. sym (no_fault past r ok).asked ∙ ap (pending_kind past) own ∙ kind_latest past i h last)

-- and a call has a higher tick than the return before it
pub rises_law : (past : List Record) → Admits past → (i j : ℕ) → Next (reverse past) i j → is_call (nth past j).event ≡ 1 → (nth past i).tick < (nth past j).tick
rises_law = by_next (λ before r. is_call r.event ≡ 1 → before.tick < r.tick) higher
  where
    higher : (past : List Record) (r : Record) → fault past r ≡ Ok tt → (i : ℕ) → i < length past → Last (reverse past) i → r.client ≡ (nth past i).client → Admits past → is_call r.event ≡ 1 → (nth past i).tick < r.tick
    higher past r ok i h last own a c =
        let fine = no_fault past r ok in
        let idle : leaves (nth past i).event ≡ asks r.event = sym (kind_latest past i h last) ∙ ap (pending_kind past) (sym own) ∙ fine.asked in
        let return : is_call (nth past i).event ≡ 0 = omega (arith, call_or_return (nth past i).event, call_or_return r.event) in
        let other : eqb (nth past i).tick r.tick ≡ false = sym (returned_latest past i r.tick h last return) ∙ ap (λ client. returned_at past client r.tick) (sym own) ∙ fine.later c in
        omega (arith, eqb-false (nth past i).tick r.tick other, fine.tick, tick_last past a i h)

-- a value called to be added is among those added
value_added : (past : List Record) (i v : ℕ) → i < length past → (nth past i).event ≡ CallAdd v → is_in v (added_values past) ≡ true
unfolding added_values
value_added [] i v h e = absurd (omega arith)
value_added (r ∷ past) i v h e = go (eq-or-lt_of_le (omega arith)) (value_added past i v)
  where
    go : (i ≡ length past) ⊎ (i < length past) → (i < length past → (nth past i).event ≡ CallAdd v → is_in v (added_values past) ≡ true) → is_in v (added_values past ++ value_of r.event) ≡ true
    go (inl q) ih =
        let own : r.event ≡ CallAdd v = rw (q, nth_last r past) at e in
        rw own (is_in_last v (added_values past))
    go (inr l) ih = rw (is_in_append v (added_values past) (value_of r.event), ih l (rw (nth_earlier r past i l) at e)) refl

-- and one that no record calls to be added is not
pub value_absent : (past : List Record) (v : ℕ) → ((i : ℕ) → i < length past → (nth past i).event ≡ CallAdd v → ⊥) → is_in v (added_values past) ≡ false
unfolding added_values is_in
value_absent [] v absent = refl
value_absent (r ∷ past) v absent =
    rw (is_in_append v (added_values past) (value_of r.event), value_absent past v (λ i h e. absent i (omega arith) (rw (nth_earlier r past i h) e)))
    (go r.event (λ e. absent (length past) (omega arith) (rw (nth_last r past) e)))
  where
    go : (e : Event) → (e ≡ CallAdd v → ⊥) → is_in v (value_of e) ≡ false
    go (CallAdd w) n = rw (ne_eqb w v (λ q. n (ap CallAdd q))) refl
    go CallRemove n = refl
    go ReturnAdd n = refl
    go (ReturnRemove x) n = refl

-- no value is called to be added twice
pub once_law : (past : List Record) → Admits past → (i j v : ℕ) → i < j → j < length past → (nth past i).event ≡ CallAdd v → (nth past j).event ≡ CallAdd v → ⊥
once_law [] none i j v l h ei ej = omega arith
once_law (r ∷ past) (more ok a) i j v l h ei ej = go (eq-or-lt_of_le (omega arith)) (once_law past a i j v l)
  where
    was : (nth past i).event ≡ CallAdd v
    was = rw (nth_earlier r past i (omega arith)) at ei

    go : (j ≡ length past) ⊎ (j < length past) → (j < length past → (nth past i).event ≡ CallAdd v → (nth past j).event ≡ CallAdd v → ⊥) → ⊥
    go (inl e) ih =
        let own : r.event ≡ CallAdd v = rw (e, nth_last r past) at ej in
        let z : ◌≡◌ {A = Bool} true false = sym (value_added past i v (omega arith) was) ∙ (no_fault past r ok).fresh v own in
        let w : ◌≡◌ {A = ℕ} 0 1 = cc in
        omega arith
    go (inr b) ih = ih b was (rw (nth_earlier r past j b) at ej)

-- a record has a next one of its client, or no later one
pub follows_law : (records : List Record) (i : ℕ) → ((j : ℕ) × Next records i j) ⊎ Last records i
follows_law records i = go (lowest (λ k. (i < k) × ((record_of records k).client ≡ (record_of records i).client)) (λ k. both k (dec_lt i k) (dec_eq (record_of records k).client (record_of records i).client)) (length records))
  where
    both : (k : ℕ) → Dec (i < k) → Dec ((record_of records k).client ≡ (record_of records i).client) → Dec ((i < k) × ((record_of records k).client ≡ (record_of records i).client))
    both k (no l) e = no (λ p. l p.0)
    both k (yes l) (yes e) = yes (l, e)
    both k (yes l) (no e) = no (λ p. e p.1)

    go : Lowest (λ k. (i < k) × ((record_of records k).client ≡ (record_of records i).client)) (length records) ⊎ None (λ k. (i < k) × ((record_of records k).client ≡ (record_of records i).client)) (length records)
        → ((j : ℕ) × Next records i j) ⊎ Last records i
    go (inl s) = inl (s.at, record { later = s.holds.0; there = s.below; same = s.holds.1; between = λ k a b q. s.none_lower k b (a, q) })
    go (inr alone) = inr (λ k a b q. alone k b (a, q))

-- a record has one before it of its client, or is its first
pub precedes_law : (records : List Record) (j : ℕ) → j < length records → ((i : ℕ) × Next records i j) ⊎ ((k : ℕ) → k < j → (record_of records k).client ≡ (record_of records j).client → ⊥)
precedes_law records j h = go (highest (λ k. (record_of records k).client ≡ (record_of records j).client) (λ k. dec_eq (record_of records k).client (record_of records j).client) j)
  where
    go : Highest (λ k. (record_of records k).client ≡ (record_of records j).client) j ⊎ None (λ k. (record_of records k).client ≡ (record_of records j).client) j
        → ((i : ℕ) × Next records i j) ⊎ ((k : ℕ) → k < j → (record_of records k).client ≡ (record_of records j).client → ⊥)
    go (inl s) = inl (s.at, record { later = s.below; there = h; same = sym s.holds; between = λ k a b q. s.none_higher k a b (q ∙ s.holds) })
    go (inr first) = inr first

-- a remove without return is one whose client has no later record
unreturned_open : {records : List Record} {i : ℕ} → Unreturned records i → Open records i
unreturned_open {records} {i} u = record { remove = ap leaves u.removes; last = go (follows_law records i) }
  where
    go : ((j : ℕ) × Next records i j) ⊎ Last records i → Last records i
    go (inl (j, next)) = absurd (u.last j next)
    go (inr last) = last

open_unreturned : {records : List Record} {i : ℕ} → i < length records → Open records i → Unreturned records i
open_unreturned h is = record { there = h; removes = leaves_remove _ is.remove; last = λ j next. is.last j next.later next.there next.same }

-- the test for an open remove finds one exactly if there is one
pub none_pending : (records : List Record) → has_pending_remove records ≡ false → (i : ℕ) → Unreturned records i → ⊥
none_pending records e i u =
    let is = unreturned_open u in
    omega (arith, ltb-false (pending_remove records) (length records) e, pending_lowest records i u.there is.remove is.last, u.there)

pub some_pending : (records : List Record) → has_pending_remove records ≡ true → (i : ℕ) × Unreturned records i
some_pending records e = let l = ltb-true (pending_remove records) (length records) e in (pending_remove records, open_unreturned l (pending_open records l))

-- and the test for 10 finds none exactly if two removes without return are one
pub lone_law : (records : List Record) → length records ≤ second_remove records → (i j : ℕ) → Unreturned records i → Unreturned records j → i ≡ j
lone_law records few i j u v = go (dec_lt i j) (dec_lt j i)
  where
    not_two : {i j : ℕ} → i < j → Unreturned records i → Unreturned records j → ⊥
    not_two {i} {j} l u v =
        let is = unreturned_open u in
        let first : pending_remove records ≤ i = pending_lowest records i u.there is.remove is.last in
        omega (arith, pending_from_lowest (suc (pending_remove records)) records j (omega arith) v.there (unreturned_open v), v.there)

    go : Dec (i < j) → Dec (j < i) → i ≡ j
    go (yes l) d = absurd (not_two l u v)
    go (no l) (yes m) = absurd (not_two m v u)
    go (no l) (no m) = omega arith

pub second_law : (records : List Record) → ((i j : ℕ) → Unreturned records i → Unreturned records j → i ≡ j) → length records ≤ second_remove records
second_law records lone = go (dec_lt (second_remove records) (length records))
  where
    go : Dec (second_remove records < length records) → length records ≤ second_remove records
    go (yes l) =
        let h : pending_remove records < length records = omega arith in
        let first = open_unreturned h (pending_open records h) in
        let second = open_unreturned l (pending_from_open (suc (pending_remove records)) records l) in
        absurd (omega (arith, lone (pending_remove records) (second_remove records) first second))
    go (no l) = omega arith
