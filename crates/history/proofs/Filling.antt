-- The tables hold what the first records of a readable log say, record after record.
use Prim.Native.Nat.{ℕ, ◌+◌, ◌≤◌, ◌<◌}
use native.Mathlib.Omega.{arith}
use native.Mathlib.Decide.{dec_lt, ℕ_discrete}
use mathlib.Core.Path.{◌≡◌, refl, sym, ap, ◌∙◌}
use mathlib.Core.List.{List}
use lib.ListN.{length, take, get_or-eq_default}
use lib.Seq.{take-length}
use borrow.Author.Tests.{lt-ltb, le-ltb}
use Rattle.record.specs.declared.record.Event.TheVariants.{CallRemove}
use Rattle.record.specs.declared.record.Record.{Record}
use Rattle.reader.specs.Log.{is_call, leaves, operations}
use Rattle.reader.specs.Readable.{record_of, asks, Regular}
use Rattle.history.specs.Positions.{position_of, end_of, return_position}
use Rattle.history.specs.Operations.{call_index, return_index, kind_by, value_by, operation_at}
use Rattle.history.specs.Table.{table_length, Entered, Told, Filled, HistoryHeld}
use Rattle.history.proofs.Numbering.{index_of_rank, rank_step, ranks_rise, ranks_below, next_is_return}
use Rattle.history.proofs.Entries.{entry_stays}
use Rattle.history.proofs.Owning.{operation_called, owner_called, operation_answered, call_before, returned_by}

-- before the first record
pub filled_none : (records : List Record) (table : List ℕ) → length table ≡ table_length → Filled records table 0 table
unfolding operations
filled_none records table t = record {
  table_sized = t;
  untouched = λ o f l s. refl;
  returned = λ o h. absurd (omega arith);
  pending = λ o h. absurd (omega arith);
}

-- The operation that a return ends.
pub record Ends (records : List Record) (n o : ℕ) : Type 0 where
  pub below : o < operations (take n records)
  pub returns : return_index records (call_index records o) ≡ n
  pub asked : leaves (record_of records (call_index records o)).event ≡ asks (record_of records n).event

module _ {records : List Record} (regular : Regular records) {n : ℕ} (h : n < length records) {old table : List ℕ} (filled : Filled records old n table) {o : ℕ} (is : o ≡ operation_at records n) where
  -- how many operations are called before the record, and with it
  abbrev count : ℕ
  count = operations (take n records)

  abbrev count' : ℕ
  count' = operations (take (n + 1) records)

  more : count' ≡ count + is_call (record_of records n).event
  more = rank_step records n h

  -- no other operation returns here
  alone : (p : ℕ) → p < count → return_index records (call_index records p) ≡ n → p ≡ o
  alone p l e = returned_by regular p n (omega (arith, ranks_below records n)) h e ∙ sym is

  -- one record more, which is a call
  module _ (c : is_call (record_of records n).event ≡ 1) where
    new : o ≡ count
    new = omega (arith, is, operation_called records n h c)

    own : call_index records o ≡ n
    own = rw is (owner_called records n h c)

    not_now : (p : ℕ) → p < count → return_index records (call_index records p) ≡ n → ⊥
    not_now p l e = omega (arith, new, alone p l e)

    before : (p : ℕ) → p < count → return_index records (call_index records p) < n + 1 → Dec (return_index records (call_index records p) < n) → return_index records (call_index records p) < n
    before p l r (yes b) = b
    before p l r (no b) = absurd (not_now p l (omega arith))

    pub filled_call : {table' : List ℕ} → Entered table o (kind_by (record_of records n).event CallRemove) (value_by (record_of records n).event CallRemove) (position_of records n) (end_of records) table' → Filled records old (n + 1) table'
    filled_call {table'} entered = record {
      table_sized = entered.sized ∙ filled.table_sized;
      untouched = λ p f l s. entered.others p f s (λ e. omega (arith, more, new)) ∙ filled.untouched p f (omega (arith, more)) s;
      returned = λ p l r. back p l r (ℕ_discrete p o);
      pending = λ p l r. wait p l r (ℕ_discrete p o);
    }
      where
        back : (p : ℕ) → p < count' → return_index records (call_index records p) < n + 1 → Dec (p ≡ o)
            → Told records table' p (record_of records (return_index records (call_index records p))).event (position_of records (return_index records (call_index records p)))
        back p l r (yes e) = absurd (omega (arith, ap (call_index records) e, own))
        back p l r (no d) = let below : p < count = omega (arith, more, new) in entry_stays entered d (filled.returned p below (before p below r (dec_lt (return_index records (call_index records p)) n)))

        wait : (p : ℕ) → p < count' → n + 1 ≤ return_index records (call_index records p) → Dec (p ≡ o) → Told records table' p CallRemove (end_of records)
        wait p l r (yes e) = rw (e, own) entered.entry
        wait p l r (no d) = entry_stays entered d (filled.pending p (omega (arith, more, new)) (omega arith))

  -- one record more, which is a return
  module _ (c : is_call (record_of records n).event ≡ 0) where
    pub return_ends : Ends records n o
    return_ends =
        let (i, next, call) = call_before regular n h c in
        let rank : o ≡ operations (take i records) = is ∙ operation_answered regular i n next call in
        let own : call_index records o ≡ i = rw rank (index_of_rank records i (omega (arith, next.later)) call) in
        record {
          below = omega (arith, rank, call, rank_step records i (omega (arith, next.later)), ranks_rise records (i + 1) n (omega (arith, next.later)));
          returns = rw own (next_is_return records i n next);
          asked = rw own (sym (regular.next i n next));
        }

    pub filled_return : {table' : List ℕ} → Entered table o (kind_by (record_of records (call_index records o)).event (record_of records n).event) (value_by (record_of records (call_index records o)).event (record_of records n).event) (position_of records (call_index records o)) (position_of records n) table'
        → Filled records old (n + 1) table'
    filled_return {table'} entered = record {
      table_sized = entered.sized ∙ filled.table_sized;
      untouched = λ p f l s. entered.others p f s (λ e. omega (arith, more, return_ends.below)) ∙ filled.untouched p f (omega (arith, more)) s;
      returned = λ p l r. back p (omega (arith, more)) r (ℕ_discrete p o) (dec_lt (return_index records (call_index records p)) n);
      pending = λ p l r. wait p (omega (arith, more)) r (ℕ_discrete p o);
    }
      where
        back : (p : ℕ) → p < count → return_index records (call_index records p) < n + 1 → Dec (p ≡ o) → Dec (return_index records (call_index records p) < n)
            → Told records table' p (record_of records (return_index records (call_index records p))).event (position_of records (return_index records (call_index records p)))
        back p l r (yes e) d = rw (e, return_ends.returns) entered.entry
        back p l r (no d) (yes b) = entry_stays entered d (filled.returned p l b)
        back p l r (no d) (no b) = absurd (d (alone p l (omega arith)))

        wait : (p : ℕ) → p < count → n + 1 ≤ return_index records (call_index records p) → Dec (p ≡ o) → Told records table' p CallRemove (end_of records)
        wait p l r (yes e) = absurd (omega (arith, return_ends.returns, ap (λ q. return_index records (call_index records q)) e))
        wait p l r (no d) = entry_stays entered d (filled.pending p l (omega arith))

-- behind the last record the table holds the history
pub filled_all : {records : List Record} {old table : List ℕ} → Filled records old (length records) table → HistoryHeld records old table
filled_all {records} {old} {table} filled = record {
  sized = filled.table_sized;
  agree = record {
    count = refl;
    end = refl;
    kind = λ o l. (told o l).kind_is;
    value = λ o l. (told o l).value_is;
    call = λ o l. (told o l).call_is;
    ret = λ o l. (told o l).ret_is;
  };
  untouched = λ o f l s. filled.untouched o f (omega (arith, all)) s;
}
  where
    all : operations (take (length records) records) ≡ operations records
    all = ap operations (take-length records)

    by : (o : ℕ) → o < operations (take (length records) records) → Dec (return_index records (call_index records o) < length records)
        → Told records table o (record_of records (return_index records (call_index records o))).event (return_position records (return_index records (call_index records o)))
    by o l (yes b) = rw (lt-ltb _ _ b) (filled.returned o l b)
    by o l (no b) =
        let past : length records ≤ return_index records (call_index records o) = omega arith in
        rw (le-ltb _ _ past, get_or-eq_default records (record { client = 0; tick = 0; event = CallRemove }) past) (filled.pending o l past)

    told : (o : ℕ) → o < operations records
        → Told records table o (record_of records (return_index records (call_index records o))).event (return_position records (return_index records (call_index records o)))
    told o l = by o (omega (arith, all)) (dec_lt (return_index records (call_index records o)) (length records))
