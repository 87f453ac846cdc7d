-- Records are those of a readable log exactly if they are orderly: those of a readable log are, and a log of orderly records is read as them.
use Prim.Native.Nat.{ℕ, zero, suc, ◌≤◌, ◌<◌}
use native.Mathlib.Omega.{arith}
use mathlib.Core.Path.{◌≡◌, refl, sym, ap, ◌∙◌}
use mathlib.Core.Bool.{false}
use mathlib.Core.Logic.{◌⊎◌, inl, inr}
use mathlib.Core.List.{List, [], ◌∷◌, ◌++◌, reverse, reverse-cons, append_assoc}
use lib.ListN.{length, length-append, length-reverse, get_or-append}
use lib.Seq.{get_or_at}
use borrow.Author.Tests.{le-ltb, ne_eqb}
use Rattle.std.specs.Prelude.{Ok}
use Rattle.record.specs.Number.{Bytes}
use Rattle.record.specs.Record.{Small}
use Rattle.record.specs.declared.record.Event.TheVariants.{CallAdd}
use Rattle.record.specs.declared.record.Record.{Record}
use Rattle.reader.specs.Log.{is_call, leaves, encode_log, readable, pending_kind, returned_at, second_remove, added_values, last_tick, fault, complete, read_log}
use Rattle.table.specs.Table.{is_in}
use Rattle.reader.specs.Readable.{record_of, asks, Next, Writable, none, more, ReadableLog, Orderly}
use Rattle.reader.proofs.Events.{turns_change}
use Rattle.reader.proofs.Pending.{Last}
use Rattle.reader.proofs.Records.{nth, last_tick_lem, kind_latest, kind_absent, returned_latest, returned_absent, value_absent, precedes_law, second_law}
use Rattle.reader.proofs.Encoding.{log_encodes}
use Rattle.reader.proofs.Faults.{fault_none}

-- the fields of each record that can be written fit
writable_small : {past records : List Record} → Writable past records → (i : ℕ) → i < length records → Small (record_of records i)
writable_small none i h = absurd (omega arith)
writable_small (more small ok rest) zero h = small
writable_small (more small ok rest) (suc i) h = writable_small rest i (omega arith)

-- the records of a readable log are orderly
pub readable_orderly : {log : List ℕ} {records : List Record} → ReadableLog log records → Bytes log → Orderly records
readable_orderly l bytes = record {
  regular = l.partial.regular;
  small = writable_small (l.partial.writable bytes);
  lone = l.lone;
}

-- a record among orderly ones, behind those of the past
module _ (past rest : List Record) (r : Record) (orderly : Orderly (reverse past ++ r ∷ rest)) where
  abbrev all : List Record
  all = reverse past ++ r ∷ rest

  -- it stands behind as many as there are in the past
  here : record_of all (length past) ≡ r
  here = get_or_at (reverse past) r rest _ (length past) (length-reverse past)

  there : length past < length all
  there = omega (arith, length-append (reverse past) (r ∷ rest), length-reverse past)

  -- and those stand before it
  before : (k : ℕ) → k < length past → record_of all k ≡ nth past k
  before k h = get_or-append (reverse past) (r ∷ rest) _ k (omega (arith, length-reverse past))

  -- its fields fit
  fits : Small r
  fits = rw here at (orderly.small (length past) there)

  -- its tick does not fall
  tick_kept : last_tick past ≤ r.tick
  tick_kept = last_tick_lem past r.tick (λ i h. rw (before i h, here) at (orderly.regular.ticks i (length past) (omega arith) there))

  -- the latest record of its client among those, if there is one
  latest : {i : ℕ} → Next all i (length past) → Last (reverse past) i
  latest {i} next k a b q =
      let h : k < length past = omega (arith, length-reverse past) in
      next.between k a h (rw (before k h, before i next.later) q)

  absent : ((k : ℕ) → k < length past → (record_of all k).client ≡ (record_of all (length past)).client → ⊥) → (k : ℕ) → k < length past → (nth past k).client ≡ r.client → ⊥
  absent alone k h q = alone k h (rw (before k h, here) q)

  -- the call that it asks for is pending
  call_pending : pending_kind past r.client ≡ asks r.event
  call_pending = go (precedes_law all (length past) there)
    where
      go : ((i : ℕ) × Next all i (length past)) ⊎ ((k : ℕ) → k < length past → (record_of all k).client ≡ (record_of all (length past)).client → ⊥) → pending_kind past r.client ≡ asks r.event
      go (inl (i, next)) =
          let was : record_of all i ≡ nth past i = before i next.later in
          let own : r.client ≡ (nth past i).client = rw (here, was) at next.same in
          let asked : asks r.event ≡ leaves (nth past i).event = rw (here, was) at (orderly.regular.next i (length past) next) in
          ap (pending_kind past) own ∙ kind_latest past i next.later (latest next) ∙ sym asked
      go (inr alone) = kind_absent past r.client (absent alone) ∙ sym (rw here at (orderly.regular.first (length past) there alone))

  -- if it is a call, its client has not returned at its tick
  tick_later : is_call r.event ≡ 1 → returned_at past r.client r.tick ≡ false
  tick_later c = go (precedes_law all (length past) there)
    where
      go : ((i : ℕ) × Next all i (length past)) ⊎ ((k : ℕ) → k < length past → (record_of all k).client ≡ (record_of all (length past)).client → ⊥) → returned_at past r.client r.tick ≡ false
      go (inl (i, next)) =
          let was : record_of all i ≡ nth past i = before i next.later in
          let own : r.client ≡ (nth past i).client = rw (here, was) at next.same in
          let asked : asks r.event ≡ leaves (nth past i).event = rw (here, was) at (orderly.regular.next i (length past) next) in
          let return : is_call (nth past i).event ≡ 0 = omega (arith, turns_change (nth past i).event r.event asked) in
          let lower : (nth past i).tick < r.tick = rw (here, was) at (orderly.regular.rises i (length past) next (rw here c)) in
          ap (λ client. returned_at past client r.tick) own ∙ returned_latest past i r.tick next.later (latest next) return ∙ ne_eqb (nth past i).tick r.tick (λ e. omega arith)
      go (inr alone) = returned_absent past r.client r.tick (absent alone)

  -- a value that it calls to be added is a new one
  value_new : (v : ℕ) → r.event ≡ CallAdd v → is_in v (added_values past) ≡ false
  value_new v e = value_absent past v (λ i h q. orderly.regular.once i (length past) v h there (rw (before i h) q) (rw here e))

  -- so nothing is wrong with it
  fault_free : fault past r ≡ Ok tt
  fault_free = fault_none (record { tick = tick_kept; asked = call_pending; later = tick_later; fresh = value_new })

-- so orderly records can be written
orderly_writable : (past records : List Record) → Orderly (reverse past ++ records) → Writable past records
orderly_writable past [] orderly = none
orderly_writable past (r ∷ rest) orderly =
    more (fits past rest r orderly) (fault_free past rest r orderly) (orderly_writable (r ∷ past) rest (rw (reverse-cons r past, append_assoc (reverse past) (r ∷ []) rest) orderly))

-- a log of orderly records is read as them
pub orderly_readable : (records : List Record) → Orderly records → read_log (encode_log records) ≡ readable records
orderly_readable records orderly =
    ap complete (log_encodes records orderly.regular.few (orderly_writable [] records orderly))
    ∙ rw (le-ltb (second_remove records) (length records) (second_law records orderly.lone)) refl
