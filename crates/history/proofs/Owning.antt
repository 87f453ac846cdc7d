-- The operation of each record: a call and its return are of one operation, the one with the call's number.
use Prim.Native.Nat.{ℕ, zero, suc, ◌+◌, ◌≤◌, ◌<◌}
use native.Mathlib.Omega.{arith}
use native.Mathlib.Decide.{ℕ_discrete}
use mathlib.Core.Path.{◌≡◌, refl, sym, ap, ◌∙◌}
use mathlib.Core.List.{List, [], ◌∷◌}
use lib.ListN.{length, take}
use borrow.Author.Tests.{eq-eqb, ne_eqb}
use Rattle.record.specs.declared.record.Record.{Record}
use Rattle.reader.specs.Log.{is_call, operations}
use Rattle.reader.specs.Readable.{record_of, asks, Next, Regular}
use Rattle.reader.proofs.Laws.{called}
use Rattle.history.specs.Operations.{call_index, return_index, latest_of, operation_from, operation_at}
use Rattle.history.proofs.Numbering.{Called, call_of_lem, index_of_rank, rank_known, return_is_next, next_is_return}
use Rattle.reader.proofs.Events.{leaves_call, asks_call, call_leaves, return_asks, is_call_small}

-- no call of a client
abbrev NoCallOf : ℕ → Record → Type 0
NoCallOf client r = is_call r.event ≡ 1 → r.client ≡ client → ⊥

-- a client's latest operation is the one that it calls, and stays so until its next call
latest_own : (r : Record) (past : List Record) (client : ℕ) → is_call r.event ≡ 1 → r.client ≡ client → latest_of (r ∷ past) client ≡ operations past
unfolding latest_of
latest_own r past client c e = rw (ne_eqb (is_call r.event) 0 (λ z. omega arith), eq-eqb r.client client e) refl

latest_stays : (r : Record) (past : List Record) (client : ℕ) → NoCallOf client r → latest_of (r ∷ past) client ≡ latest_of past client
unfolding latest_of
latest_stays r past client n = by (ℕ_discrete (is_call r.event) 0) (ℕ_discrete r.client client)
  where
    by : Dec (is_call r.event ≡ 0) → Dec (r.client ≡ client) → latest_of (r ∷ past) client ≡ latest_of past client
    by (yes c) d = rw (eq-eqb (is_call r.event) 0 c) refl
    by (no c) (yes e) = absurd (n (omega (arith, is_call_small r.event)) e)
    by (no c) (no d) = rw (ne_eqb (is_call r.event) 0 c, ne_eqb r.client client d) refl

-- a record up to which its client calls nothing is of the client's latest operation in the past
operation_of_past : (past records : List Record) (i : ℕ) → i < length records
    → ((k : ℕ) → k ≤ i → NoCallOf (record_of records i).client (record_of records k))
    → operation_from past records i ≡ latest_of past (record_of records i).client
unfolding operation_from
operation_of_past past [] i h n = absurd (omega arith)
operation_of_past past (r ∷ records) zero h n = latest_stays r past r.client (n 0 (omega arith))
operation_of_past past (r ∷ records) (suc i) h n =
    operation_of_past (r ∷ past) records i (omega arith) (λ k l. n (suc k) (omega arith))
    ∙ latest_stays r past (record_of records i).client (n 0 (omega arith))

-- a record is of the operation that its client called last
operation_of_call : (past records : List Record) (i j : ℕ) → i ≤ j → j < length records → is_call (record_of records i).event ≡ 1
    → (record_of records i).client ≡ (record_of records j).client
    → ((k : ℕ) → i < k → k ≤ j → NoCallOf (record_of records j).client (record_of records k))
    → operation_from past records j ≡ operations past + operations (take i records)
unfolding operation_from operations
operation_of_call past [] i j l h c e n = absurd (omega arith)
operation_of_call past (r ∷ records) zero zero l h c e n = omega (arith, latest_own r past r.client c refl)
operation_of_call past (r ∷ records) zero (suc j) l h c e n =
    omega (arith, operation_of_past (r ∷ past) records j (omega arith) (λ k m. n (suc k) (omega arith) (omega arith)), latest_own r past (record_of records j).client c e)
operation_of_call past (r ∷ records) (suc i) zero l h c e n = absurd (omega arith)
operation_of_call past (r ∷ records) (suc i) (suc j) l h c e n =
    omega (arith, operation_of_call (r ∷ past) records i j (omega arith) (omega arith) c e (λ k m q. n (suc k) (omega arith) (omega arith)))

-- a call is of its own operation
pub operation_called : (records : List Record) (i : ℕ) → i < length records → is_call (record_of records i).event ≡ 1
    → operation_at records i ≡ operations (take i records)
unfolding operations
operation_called records i h c = omega (arith, operation_of_call [] records i i (omega arith) h c refl (λ k l m. absurd (omega arith)))

-- so it is that operation's call
pub owner_called : (records : List Record) (i : ℕ) → i < length records → is_call (record_of records i).event ≡ 1
    → call_index records (operation_at records i) ≡ i
owner_called records i h c = rw (operation_called records i h c) (index_of_rank records i h c)

-- the call of an operation is of that operation
pub operation_own : (records : List Record) (o : ℕ) → o < operations records → operation_at records (call_index records o) ≡ o
operation_own records o h = let call : Called records o = call_of_lem records o h in operation_called records (call_index records o) call.below call.is_call_lem ∙ call.rank

module _ {records : List Record} (regular : Regular records) where
  -- the return of a call is of the call's operation
  pub operation_answered : (i j : ℕ) → Next records i j → is_call (record_of records i).event ≡ 1 → operation_at records j ≡ operations (take i records)
  unfolding operations
  operation_answered i j next call =
      omega (arith, operation_of_call [] records i j (omega (arith, next.later)) next.there call (sym next.same) none)
    where
      none : (k : ℕ) → i < k → k ≤ j → NoCallOf (record_of records j).client (record_of records k)
      none k l m c e = by (ℕ_discrete k j)
        where
          by : Dec (k ≡ j) → ⊥
          by (yes q) =
              leaves_call (record_of records i).event call
              (sym (regular.next i j next) ∙ ap (λ x. asks (record_of records x).event) (sym q) ∙ asks_call (record_of records k).event c)
          by (no q) = next.between k l (omega arith) (e ∙ next.same)

  -- a return has its call before it
  pub call_before : (n : ℕ) → n < length records → is_call (record_of records n).event ≡ 0 → (i : ℕ) × Next records i n × (is_call (record_of records i).event ≡ 1)
  call_before n h c =
      let asked = return_asks (record_of records n).event c in
      let (i, next) = called regular n h asked in
      (i, next, call_leaves (record_of records i).event (λ e. asked (regular.next i n next ∙ e)))

  -- so it is its operation's return
  pub owner_returned : (n : ℕ) → n < length records → is_call (record_of records n).event ≡ 0 → return_index records (call_index records (operation_at records n)) ≡ n
  owner_returned n h c =
      let (i, next, call) = call_before n h c in
      rw (operation_answered i n next call, index_of_rank records i (omega (arith, next.later)) call) (next_is_return records i n next)

  -- the return of an operation is of that operation
  operation_returned : (o : ℕ) → o < operations records → return_index records (call_index records o) < length records
      → operation_at records (return_index records (call_index records o)) ≡ o
  operation_returned o h l =
      let call : Called records o = call_of_lem records o h in
      operation_answered (call_index records o) (return_index records (call_index records o)) (return_is_next records (call_index records o) l) call.is_call_lem
      ∙ call.rank

  -- so no other operation returns there
  pub returned_by : (o n : ℕ) → o < operations records → n < length records → return_index records (call_index records o) ≡ n → o ≡ operation_at records n
  returned_by o n h l e = sym (operation_returned o h (omega arith)) ∙ ap (operation_at records) e

  -- the operation of a record is one of the log
  pub operation_known : (n : ℕ) → n < length records → operation_at records n < operations records
  operation_known n h = go (ℕ_discrete (is_call (record_of records n).event) 0)
    where
      go : Dec (is_call (record_of records n).event ≡ 0) → operation_at records n < operations records
      go (yes c) =
          let (i, next, call) = call_before n h c in
          omega (arith, operation_answered i n next call, rank_known records i (omega (arith, next.later)) call)
      go (no c) =
          let call : is_call (record_of records n).event ≡ 1 = omega (arith, is_call_small (record_of records n).event) in
          omega (arith, operation_called records n h call, rank_known records n h call)
