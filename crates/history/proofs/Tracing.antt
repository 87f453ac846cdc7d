-- The callers of the operations are noted record after record: a call's new operation, and a return's is the latest one of its client.
use Prim.Native.Nat.{ℕ, ◌+◌, ◌≤◌, ◌<◌}
use native.Mathlib.Omega.{arith}
use native.Mathlib.Decide.{dec_lt}
use mathlib.Core.Path.{◌≡◌, sym, ap, ◌∙◌}
use mathlib.Core.List.{List}
use lib.ListN.{length, get_or, set, take}
use lib.Seq.{length-take-le}
use Rattle.record.specs.declared.record.Record.{Record}
use Rattle.map.specs.Map.{Latest}
use Rattle.map.specs.declared.map.Map.{Map}
use Rattle.map.proofs.Laws.{key_new, key_old}
use Rattle.reader.specs.Log.{max_records, is_call, operations}
use Rattle.reader.specs.Readable.{record_of, Next, Regular}
use Rattle.reader.proofs.Laws.{few_operations}
use Rattle.history.specs.Operations.{call_index, operation_at}
use Rattle.history.specs.Owners.{Traced, Owned}
use Rattle.history.proofs.Basics.{up_to}
use Rattle.history.proofs.Numbering.{index_of_rank, rank_step, ranks_rise, ranks_below, called_before, calls_rise}
use Rattle.history.proofs.Owning.{operation_called, operation_answered, call_before}

-- nothing is called before the first record
pub traced_none : (records : List Record) {callers : Map} → callers.count ≡ 0 → Traced records 0 callers
unfolding operations
traced_none records none = record { counted = none; clients_are = λ o l. absurd (omega arith) }

-- there is room for one operation more
pub traced_room : {records : List Record} {n : ℕ} {callers : Map} → n < length records → length records ≤ max_records
    → Traced records n callers → callers.count < max_records
traced_room {records} {n} h few traced = omega (arith, traced.counted, few_operations (take n records), length-take-le n records (omega arith))

-- one record more, which is a call
traced_call : {records : List Record} {n : ℕ} {callers callers' : Map} → n < length records → is_call (record_of records n).event ≡ 1
    → Traced records n callers → callers.count < max_records → callers'.keys ≡ set callers.keys callers.count (record_of records n).client
    → callers'.count ≡ callers.count + 1 → Traced records (n + 1) callers'
traced_call {records} {n} {callers} {callers'} h c traced few noted one = record {
  counted = omega (arith, one, rank_step records n h, traced.counted);
  clients_are = λ o l. up_to old new o (omega (arith, one));
}
  where
    -- the new operation's client is that of the record, and the others are as they were
    own : call_index records callers.count ≡ n
    own = ap (call_index records) traced.counted ∙ index_of_rank records n h c

    new : get_or callers'.keys callers.count 0 ≡ (record_of records (call_index records callers.count)).client
    new =
        key_new callers.keys callers.count (record_of records n).client noted (omega (arith, callers.linked.keys_sized))
        ∙ ap (λ k. (record_of records k).client) (sym own)

    old : (o : ℕ) → o < callers.count → get_or callers'.keys o 0 ≡ (record_of records (call_index records o)).client
    old o l = key_old callers.keys callers.count (record_of records n).client noted o l ∙ traced.clients_are o l

-- one record more, which is a return
module _ {records : List Record} (regular : Regular records) {n : ℕ} (h : n < length records) (c : is_call (record_of records n).event ≡ 0)
    {callers : Map} (traced : Traced records n callers) where
  return_is_latest : {o : ℕ} → Latest callers.keys callers.count (record_of records n).client o → o ≡ operation_at records n
  return_is_latest {o} latest = go (call_before regular n h c)
    where
      go : (i : ℕ) × Next records i n × (is_call (record_of records i).event ≡ 1) → o ≡ operation_at records n
      go (i, next, call) = by (latest.last rank ranked client) (dec_lt rank o)
        where
          rank : ℕ
          rank = operations (take i records)

          own : call_index records rank ≡ i
          own = index_of_rank records i (omega (arith, next.later)) call

          ranked : rank < callers.count
          ranked = omega (arith, call, traced.counted, rank_step records i (omega (arith, next.later)), ranks_rise records (i + 1) n (omega (arith, next.later)))

          client : get_or callers.keys rank 0 ≡ (record_of records n).client
          client = traced.clients_are rank ranked ∙ ap (λ k. (record_of records k).client) own ∙ sym next.same

          by : (o < callers.count) × (rank ≤ o) → Dec (rank < o) → o ≡ operation_at records n
          by found (yes m) = absurd
              (next.between (call_index records o)
              (omega (arith, own, calls_rise records rank o m (omega (arith, found.0, traced.counted, ranks_below records n))))
              (called_before records n o (omega (arith, found.0, traced.counted)))
              (sym (traced.clients_are o found.0) ∙ latest.holds found.0 ∙ next.same))
          by found (no m) = omega (arith, operation_answered regular i n next call)

  traced_return : Traced records (n + 1) callers
  traced_return = record { counted = omega (arith, rank_step records n h, traced.counted); clients_are = traced.clients_are }

-- the operation of a call is found, and that of a return
pub owned_call : (r : Record) {callers callers' : Map} → is_call r.event ≡ 1 → callers.count < max_records
    → callers'.keys ≡ set callers.keys callers.count r.client → callers'.count ≡ callers.count + 1 → Owned r callers callers.count callers'
owned_call r c few noted one = record {
  small = few;
  is = λ records n regular h here traced. traced.counted ∙ sym (operation_called records n h (rw here c));
  traced = λ records n regular h here traced. traced_call h (rw here c) traced few (rw here noted) one;
}

pub owned_return : (r : Record) {callers : Map} {o : ℕ} → is_call r.event ≡ 0 → callers.count < max_records → Latest callers.keys callers.count r.client o
    → Owned r callers o callers
owned_return r c few latest = record {
  small = omega (arith, latest.within);
  is = λ records n regular h here traced. return_is_latest regular h (rw here c) traced (rw here latest);
  traced = λ records n regular h here traced. traced_return regular h (rw here c) traced;
}
