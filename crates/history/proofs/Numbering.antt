-- Laws of `call_index` and `return_index`: operations and their call records correspond one to one, and the return of a call is
-- the next record of its client.
use Prim.Native.Nat.{ℕ, zero, suc, ◌+◌, ◌-◌, ◌≤◌, ◌<◌}
use native.Mathlib.Omega.{arith}
use native.Mathlib.Numerals.{add-one}
use native.Mathlib.Decide.{dec_lt}
use mathlib.Core.Path.{◌≡◌, refl, sym, ap, ◌∙◌}
use mathlib.Core.Bool.{Bool, true, false}
use mathlib.Core.List.{List, [], ◌∷◌}
use lib.ListN.{length, take, drop, length-drop}
use lib.Seq.{take-suc, take-add, get_or-drop, take-length, take_all}
use lib.Dec.{eqb}
use borrow.Author.Tests.{lt-ltb, le-ltb, eqb-true, eqb-false}
use Rattle.std.specs.Prelude.{if◌then◌else◌}
use Rattle.record.specs.declared.record.Event.TheVariants.{CallRemove}
use Rattle.record.specs.declared.record.Record.{Record}
use Rattle.reader.specs.Log.{is_call, operations}
use Rattle.reader.specs.Readable.{record_of, Next}
use Rattle.reader.proofs.Laws.{operations_join}
use Rattle.history.specs.Operations.{call_index, first_of, return_index}
use Rattle.reader.proofs.Events.{is_call_small}

index_here : (r : Record) (records : List Record) (o : ℕ) → o < is_call r.event → call_index (r ∷ records) o ≡ 0
unfolding call_index
index_here r records o h = rw (lt-ltb o (is_call r.event) h) refl

index_later : (r : Record) (records : List Record) (o : ℕ) → is_call r.event ≤ o → call_index (r ∷ records) o ≡ suc (call_index records (o - is_call r.event))
unfolding call_index
index_later r records o h = rw (le-ltb o (is_call r.event) h) refl

-- What is known of the call record of operation o: its place, and that as many calls stand before it as its number says.
pub record Called (records : List Record) (o : ℕ) : Type 0 where
  pub below : call_index records o < length records
  pub is_call_lem : is_call (record_of records (call_index records o)).event ≡ 1
  pub rank : operations (take (call_index records o) records) ≡ o

pub call_of_lem : (records : List Record) (o : ℕ) → o < operations records → Called records o
unfolding operations
call_of_lem [] o h = absurd (omega arith)
call_of_lem (r ∷ records) o h = go (dec_lt o (is_call r.event)) (call_of_lem records (o - is_call r.event))
  where
    go : Dec (o < is_call r.event) → (o - is_call r.event < operations records → Called records (o - is_call r.event)) → Called (r ∷ records) o
    go (yes l) ih = record {
      below = rw (index_here r records o l) (omega arith);
      is_call_lem = rw (index_here r records o l) (omega (arith, is_call_small r.event));
      rank = rw (index_here r records o l) (omega (arith, is_call_small r.event));
    }
    go (no l) ih = let rest = ih (omega arith) in record {
      below = rw (index_later r records o (omega arith)) (omega (arith, rest.below));
      is_call_lem = rw (index_later r records o (omega arith)) rest.is_call_lem;
      rank = rw (index_later r records o (omega arith)) (omega (arith, rest.rank));
    }

-- operations with the same call record are the same
pub same_call : (records : List Record) (o p : ℕ) → o < operations records → p < operations records → call_index records o ≡ call_index records p → o ≡ p
same_call records o p h k e = sym (call_of_lem records o h).rank ∙ ap (λ i. operations (take i records)) e ∙ (call_of_lem records p k).rank

-- and back: the number of a call is how many calls stand before it
pub index_of_rank : (records : List Record) (i : ℕ) → i < length records → is_call (record_of records i).event ≡ 1 → call_index records (operations (take i records)) ≡ i
unfolding operations
index_of_rank [] i h c = absurd (omega arith)
index_of_rank (r ∷ records) zero h c = index_here r records 0 (omega arith)
index_of_rank (r ∷ records) (suc i) h c =
    index_later r records (is_call r.event + operations (take i records)) (omega arith)
    ∙ ap suc (ap (call_index records) (omega arith) ∙ index_of_rank records i (omega arith) c)

-- one record more
pub rank_step : (records : List Record) (i : ℕ) → i < length records → operations (take (i + 1) records) ≡ operations (take i records) + is_call (record_of records i).event
unfolding operations
rank_step records i h =
    rw (add-one, take-suc records i (record { client = 0; tick = 0; event = CallRemove }) h, operations_join (take i records) (record_of records i ∷ [])) (omega arith)

-- the calls before a record are no more than those before a later one
pub ranks_rise : (records : List Record) (i j : ℕ) → i ≤ j → operations (take i records) ≤ operations (take j records)
ranks_rise records i j h =
    let whole : j ≡ i + (j - i) = omega arith in
    rw (whole, take-add i (j - i) records, operations_join (take i records) (take (j - i) (drop i records))) (omega arith)

pub ranks_below : (records : List Record) (i : ℕ) → operations (take i records) ≤ operations records
ranks_below records i = go (dec_lt i (length records))
  where
    go : Dec (i < length records) → operations (take i records) ≤ operations records
    go (yes l) = rw (take-length records) at (ranks_rise records i (length records) (omega arith))
    go (no l) = rw (take_all i records (omega arith)) (omega arith)

-- the number of a call is one of an operation
pub rank_known : (records : List Record) (i : ℕ) → i < length records → is_call (record_of records i).event ≡ 1 → operations (take i records) < operations records
rank_known records i h c = omega (arith, rank_step records i h, ranks_below records (i + 1))

-- an operation that is counted before record n is called before it
pub called_before : (records : List Record) (n o : ℕ) → o < operations (take n records) → call_index records o < n
called_before records n o h = go (dec_lt (call_index records o) n)
  where
    go : Dec (call_index records o < n) → call_index records o < n
    go (yes l) = l
    go (no l) = absurd (omega (arith, ranks_rise records n (call_index records o) (omega arith), (call_of_lem records o (omega (arith, ranks_below records n))).rank))

-- calls stand in the order of their operations
pub calls_rise : (records : List Record) (o p : ℕ) → o < p → p < operations records → call_index records o < call_index records p
calls_rise records o p l h = called_before records (call_index records p) o (omega (arith, (call_of_lem records p h).rank))

-- `first_of` finds the first record of a client
first_is : (client : ℕ) (records : List Record) → first_of client records < length records → (record_of records (first_of client records)).client ≡ client
unfolding first_of
first_is client [] h = absurd (omega arith)
first_is client (r ∷ records) h = go (eqb r.client client) refl h (first_is client records)
  where
    go : (b : Bool) → eqb r.client client ≡ b → (if b then 0 else suc (first_of client records)) < suc (length records)
        → (first_of client records < length records → (record_of records (first_of client records)).client ≡ client)
        → (record_of (r ∷ records) (if b then 0 else suc (first_of client records))).client ≡ client
    go true t l ih = eqb-true r.client client t
    go false t l ih = ih (omega arith)

first_none : (client : ℕ) (records : List Record) (k : ℕ) → k < first_of client records → (record_of records k).client ≡ client → ⊥
unfolding first_of
first_none client [] k h e = omega arith
first_none client (r ∷ records) zero h e = go (eqb r.client client) refl h
  where
    go : (b : Bool) → eqb r.client client ≡ b → 0 < (if b then 0 else suc (first_of client records)) → ⊥
    go true t l = omega arith
    go false t l = eqb-false r.client client t e
first_none client (r ∷ records) (suc k) h e = go (eqb r.client client) h (first_none client records k)
  where
    go : (b : Bool) → suc k < (if b then 0 else suc (first_of client records)) → (k < first_of client records → (record_of records k).client ≡ client → ⊥) → ⊥
    go true l ih = omega arith
    go false l ih = ih (omega arith) e

-- and it finds it before the end, or nothing at the end
first_within : (client : ℕ) (records : List Record) → first_of client records ≤ length records
unfolding first_of
first_within client [] = omega arith
first_within client (r ∷ records) = go (eqb r.client client) (first_within client records)
  where
    go : (b : Bool) → first_of client records ≤ length records → (if b then 0 else suc (first_of client records)) ≤ suc (length records)
    go true ih = omega arith
    go false ih = omega arith

behind : (records : List Record) (i k : ℕ) → record_of (drop (i + 1) records) k ≡ record_of records (i + 1 + k)
behind records i k = get_or-drop (i + 1) records k (record { client = 0; tick = 0; event = CallRemove })

-- a return stands behind its call
pub return_behind : (records : List Record) (i : ℕ) → i < return_index records i
return_behind records i = omega arith

-- and no further than at the end
pub return_within : (records : List Record) (i : ℕ) → i < length records → return_index records i ≤ length records
return_within records i h = omega (arith, first_within (record_of records i).client (drop (i + 1) records), length-drop (i + 1) records)

-- no record of its client stands between
none_between : (records : List Record) (i k : ℕ) → i < k → k < return_index records i → (record_of records k).client ≡ (record_of records i).client → ⊥
none_between records i k l h e =
    let split : i + 1 + (k - (i + 1)) ≡ k = omega arith in
    first_none (record_of records i).client (drop (i + 1) records) (k - (i + 1)) (omega arith)
    (ap (λ r. r.client) (behind records i (k - (i + 1))) ∙ ap (λ n. (record_of records n).client) split ∙ e)

-- it is the next record of its client
pub return_is_next : (records : List Record) (i : ℕ) → return_index records i < length records → Next records i (return_index records i)
return_is_next records i h = record {
  later = return_behind records i;
  there = h;
  same = sym (ap (λ r. r.client) (behind records i (first_of client (drop (i + 1) records))))
      ∙ first_is client (drop (i + 1) records) (omega (arith, length-drop (i + 1) records));
  between = λ k. none_between records i k;
}
  where
    client : ℕ
    client = (record_of records i).client

-- and there is no other
pub next_is_return : (records : List Record) (i j : ℕ) → Next records i j → return_index records i ≡ j
next_is_return records i j next = go (dec_lt (return_index records i) j) (dec_lt j (return_index records i))
  where
    go : Dec (return_index records i < j) → Dec (j < return_index records i) → return_index records i ≡ j
    go (yes l) d = absurd (next.between (return_index records i) (return_behind records i) l (return_is_next records i (omega (arith, next.there))).same)
    go (no l) (yes m) = absurd (none_between records i j next.later m next.same)
    go (no l) (no m) = omega arith

-- two records of which a third is the next are one
pub next_of_one : (records : List Record) (i k j : ℕ) → Next records i j → Next records k j → i ≡ k
next_of_one records i k j a b = go (dec_lt i k) (dec_lt k i)
  where
    go : Dec (i < k) → Dec (k < i) → i ≡ k
    go (yes l) d = absurd (a.between k l b.later (sym b.same ∙ a.same))
    go (no l) (yes m) = absurd (b.between i m a.later (sym a.same ∙ b.same))
    go (no l) (no m) = omega arith
