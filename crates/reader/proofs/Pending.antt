-- Removes without return: the earliest one, from any index on, is found exactly if there is one.
use Prim.Native.Nat.{ℕ, zero, suc, ◌+◌, ◌-◌, ◌≤◌, ◌<◌}
use native.Mathlib.Omega.{arith}
use mathlib.Core.Path.{◌≡◌, refl, sym, ◌∙◌}
use mathlib.Core.Bool.{Bool, true, false, not}
use mathlib.Core.List.{List, [], ◌∷◌}
use lib.ListN.{length, get_or, drop, length-map, length-drop, get_or-map}
use lib.Seq.{get_or-drop}
use lib.Dec.{eqb}
use borrow.Author.Tests.{eq-eqb, eqb-true}
use Rattle.std.specs.Prelude.{if◌then◌else◌}
use Rattle.record.specs.declared.record.Event.TheVariants.{CallRemove}
use Rattle.record.specs.declared.record.Record.{Record}
use Rattle.table.specs.Table.{is_in}
use Rattle.table.proofs.Lists.{is_in_at, is_in_nowhere}
use Rattle.reader.specs.Log.{leaves, clients_of, pending_remove, pending_from}
use Rattle.reader.specs.Readable.{record_of}

-- the record with an index is the latest one of its client
abbrev pub Last : List Record → ℕ → Type 0
Last records i = (k : ℕ) → i < k → k < length records → (record_of records k).client ≡ (record_of records i).client → ⊥

pub pending_within : (records : List Record) → pending_remove records ≤ length records
unfolding pending_remove
pending_within [] = omega arith
pending_within (r ∷ records) = go (eqb (leaves r.event) 2) (is_in r.client (clients_of records)) (pending_within records)
  where
    go : (a b : Bool) → pending_remove records ≤ length records → (if not a then suc (pending_remove records) else if b then suc (pending_remove records) else 0) ≤ suc (length records)
    go false b ih = omega arith
    go true true ih = omega arith
    go true false ih = omega arith

-- a client stands among others exactly where a record of it does
client_at : (records : List Record) (i : ℕ) → get_or (clients_of records) i 0 ≡ (record_of records i).client
client_at records i = get_or-map (λ r. r.client) records i (record { client = 0; tick = 0; event = CallRemove })

-- a remove without return is not earlier
pub pending_lowest : (records : List Record) (i : ℕ) → i < length records → leaves (record_of records i).event ≡ 2 → Last records i → pending_remove records ≤ i
unfolding pending_remove
pending_lowest [] i h e last = absurd (omega arith)
pending_lowest (r ∷ records) zero h e last =
    let absent : is_in r.client (clients_of records) ≡ false =
    is_in_nowhere r.client (clients_of records) (λ k l q. last (suc k) (omega arith) (omega (arith, length-map records (λ s. s.client))) (sym (client_at records k) ∙ q)) in
    rw (eq-eqb (leaves r.event) 2 e, absent) (omega arith)
pending_lowest (r ∷ records) (suc i) h e last =
    go (eqb (leaves r.event) 2) (is_in r.client (clients_of records)) (pending_lowest records i (omega arith) e (λ k l m. last (suc k) (omega arith) (omega arith)))
  where
    go : (a b : Bool) → pending_remove records ≤ i → (if not a then suc (pending_remove records) else if b then suc (pending_remove records) else 0) ≤ suc i
    go false b ih = omega arith
    go true true ih = omega arith
    go true false ih = omega arith

-- The record with an index is the call of a remove without return.
pub record Open (records : List Record) (i : ℕ) : Type 0 where
  pub remove : leaves (record_of records i).event ≡ 2
  pub last : Last records i

pub pending_open : (records : List Record) → pending_remove records < length records → Open records (pending_remove records)
unfolding pending_remove
pending_open [] h = absurd (omega arith)
pending_open (r ∷ records) h = go (eqb (leaves r.event) 2) refl (is_in r.client (clients_of records)) refl h (pending_open records)
  where
    later : (pending_remove records < length records → Open records (pending_remove records)) → suc (pending_remove records) < suc (length records) → Open (r ∷ records) (suc (pending_remove records))
    later ih h = record { remove = (ih (omega arith)).remove; last = λ k l m. by k l m }
      where
        by : (k : ℕ) → suc (pending_remove records) < k → k < suc (length records) → (record_of (r ∷ records) k).client ≡ (record_of records (pending_remove records)).client → ⊥
        by zero l m = absurd (omega arith)
        by (suc k) l m = (ih (omega arith)).last k (omega arith) (omega arith)

    own : leaves r.event ≡ 2 → is_in r.client (clients_of records) ≡ false → Open (r ∷ records) 0
    own e absent = record { remove = e; last = by }
      where
        by : (k : ℕ) → 0 < k → k < suc (length records) → (record_of (r ∷ records) k).client ≡ r.client → ⊥
        by zero l m q = absurd (omega arith)
        by (suc k) l m q =
            let z : ◌≡◌ {A = Bool} true false = sym (is_in_at r.client (clients_of records) k (omega (arith, length-map records (λ s. s.client))) (client_at records k ∙ q)) ∙ absent in
            let y : ◌≡◌ {A = ℕ} 0 1 = cc in
            omega arith

    go : (a : Bool) → eqb (leaves r.event) 2 ≡ a → (b : Bool) → is_in r.client (clients_of records) ≡ b
        → (if not a then suc (pending_remove records) else if b then suc (pending_remove records) else 0) < suc (length records)
        → (pending_remove records < length records → Open records (pending_remove records))
        → Open (r ∷ records) (if not a then suc (pending_remove records) else if b then suc (pending_remove records) else 0)
    go false s b t h ih = later ih h
    go true s true t h ih = later ih h
    go true s false t h ih = own (eqb-true _ _ s) t

-- what is dropped in front shifts the indices
dropped : (from : ℕ) (records : List Record) (j : ℕ) → record_of (drop from records) j ≡ record_of records (from + j)
dropped from records j = get_or-drop from records j (record { client = 0; tick = 0; event = CallRemove })

module _ (from : ℕ) (records : List Record) where
  -- the open removes from an index on are those of the records there
  open_dropped : (j : ℕ) → Open (drop from records) j → Open records (from + j)
  open_dropped j is = record {
    remove = rw (dropped from records j) at is.remove;
    last = λ k l h q.
        let shift : from + (k - from) ≡ k = omega arith in
        is.last (k - from) (omega arith) (omega (arith, length-drop from records)) (rw (dropped from records (k - from), dropped from records j, shift) q);
  }

  dropped_open : (j : ℕ) → Open records (from + j) → Open (drop from records) j
  dropped_open j is = record {
    remove = rw (dropped from records j) is.remove;
    last = λ k l h q. is.last (from + k) (omega arith) (omega (arith, length-drop from records)) (rw (dropped from records k, dropped from records j) at q);
  }

  -- so the laws of the earliest one hold from any index on
  pub pending_from_within : from ≤ length records → pending_from from records ≤ length records
  pending_from_within h = omega (arith, pending_within (drop from records), length-drop from records)

  pub pending_from_lowest : (i : ℕ) → from ≤ i → i < length records → Open records i → pending_from from records ≤ i
  pending_from_lowest i l h is =
      let there : Open (drop from records) (i - from) = dropped_open (i - from) (rw (let shift : from + (i - from) ≡ i = omega arith in shift) is) in
      omega (arith, pending_lowest (drop from records) (i - from) (omega (arith, length-drop from records)) there.remove there.last)

  pub pending_from_open : pending_from from records < length records → Open records (pending_from from records)
  pending_from_open h = open_dropped (pending_remove (drop from records)) (pending_open (drop from records) (omega (arith, length-drop from records)))
