-- The operations of records picked out of records: which operation each is, and that its call and its return are the same records.
use Prim.Native.Nat.{ℕ, ◌+◌, ◌≤◌, ◌<◌}
use native.Mathlib.Omega.{arith}
use native.Mathlib.Decide.{dec_lt}
use mathlib.Core.Path.{◌≡◌, sym, ap, ◌∙◌}
use mathlib.Core.Bool.{Bool, true}
use mathlib.Core.Logic.{◌↔◌}
use mathlib.Core.List.{List}
use lib.ListN.{length, take, get_or-eq_default}
use Rattle.record.specs.declared.record.Record.{Record}
use Rattle.reader.specs.Log.{is_call, operations}
use Rattle.reader.specs.Readable.{record_of}
use Rattle.history.specs.Operations.{call_index, return_index, history_of}
use Rattle.history.proofs.Numbering.{Called, call_of_lem, same_call, index_of_rank, rank_step, ranks_below, return_is_next, next_is_return}
use Rattle.violations.specs.Parts.{KeptAs}
use Rattle.projection.proofs.Picking.{Picked, source_one, next_picked}
use Rattle.projection.proofs.Turns.{Together, return_picked, next_of_call}

-- the operation that one of the picked records' operations is: its call has as many calls before it as its number says
abbrev pub original : {marked : ℕ → Bool} {records kept : List Record} → Picked marked records kept → ℕ → ℕ
original {records = records} {kept = kept} p q = operations (take (p.source (call_index kept q)) records)

module _ {marked : ℕ → Bool} {records kept : List Record} (p : Picked marked records kept) where
  -- its call comes from a call
  call_is_call : (q : ℕ) → q < operations kept → is_call (record_of records (p.source (call_index kept q))).event ≡ 1
  call_is_call q h = let call = call_of_lem kept q h in ap (λ r. is_call r.event) (sym (p.same (call_index kept q) call.below)) ∙ call.is_call_lem

  -- which is the original's, so that is the same record, and marked
  pub original_call : (q : ℕ) → q < operations kept → call_index records (original p q) ≡ p.source (call_index kept q)
  original_call q h = index_of_rank records (p.source (call_index kept q)) (p.below (call_index kept q) (call_of_lem kept q h).below) (call_is_call q h)

  pub same_call_record : (q : ℕ) → q < operations kept → record_of kept (call_index kept q) ≡ record_of records (call_index records (original p q))
  same_call_record q h = p.same (call_index kept q) (call_of_lem kept q h).below ∙ ap (record_of records) (sym (original_call q h))

  pub original_only : (q : ℕ) → q < operations kept → marked (call_index records (original p q)) ≡ true
  original_only q h = ap marked (original_call q h) ∙ p.only (call_index kept q) (call_of_lem kept q h).below

  -- the original is an operation
  pub original_known : (q : ℕ) → q < operations kept → original p q < operations records
  original_known q h =
      omega (arith, call_is_call q h, rank_step records (p.source (call_index kept q)) (p.below (call_index kept q) (call_of_lem kept q h).below), ranks_below records (p.source (call_index kept q) + 1))

  -- no two are one
  pub original_one : (o q : ℕ) → o < operations kept → q < operations kept → original p o ≡ original p q → o ≡ q
  original_one o q h k e =
      same_call kept o q h k
      (source_one p (call_index kept o) (call_index kept q) (call_of_lem kept o h).below (call_of_lem kept q k).below (sym (original_call o h) ∙ ap (call_index records) e ∙ original_call q k))

  -- and an operation whose call is marked is one of them
  pub original_every : (o : ℕ) → o < operations records → marked (call_index records o) ≡ true → (q : ℕ) × KeptAs (history_of kept) (original p) o q
  original_every o h m =
      let call : Called records o = call_of_lem records o h in
      let (j, at) = p.every (call_index records o) call.below m in
      let c : is_call (record_of kept j).event ≡ 1 = ap (λ r. is_call r.event) (p.same j at.below ∙ ap (record_of records) at.is) ∙ call.is_call_lem in
      let own : call_index kept (operations (take j kept)) ≡ j = index_of_rank kept j at.below c in (
        operations (take j kept),
        record {
          known = omega (arith, rank_step kept j at.below, ranks_below kept (j + 1));
          is = ap (λ i. operations (take (p.source i) records)) own ∙ ap (λ i. operations (take i records)) at.is ∙ call.rank;
        },
      )

module _ {marked : ℕ → Bool} {records kept : List Record} (together : Together marked records) (p : Picked marked records kept) where
  -- where an operation returns, and where its original does
  abbrev kept_return : ℕ → ℕ
  kept_return q = return_index kept (call_index kept q)

  abbrev original_return : ℕ → ℕ
  original_return q = return_index records (call_index records (original p q))

  -- a return comes from the original's return
  pub original_return_lem : (q : ℕ) → q < operations kept → kept_return q < length kept → original_return q ≡ p.source (kept_return q)
  original_return_lem q h l =
      let next = next_of_call together p (call_index kept q) (kept_return q) (return_is_next kept (call_index kept q) l) (call_of_lem kept q h).is_call_lem in
      ap (return_index records) (original_call p q h) ∙ next_is_return records (p.source (call_index kept q)) (p.source (kept_return q)) next

  -- and the original's return is picked
  pub return_kept : (q : ℕ) → q < operations kept → original_return q < length records → kept_return q < length kept
  return_kept q h l =
      let call : Called kept q = call_of_lem kept q h in
      let here : return_index records (p.source (call_index kept q)) < length records = rw (original_call p q h) at l in
      let next = return_is_next records (p.source (call_index kept q)) here in
      let (k, at) = return_picked together p (call_index kept q) (return_index records (p.source (call_index kept q))) call.below (record { next = next; is_call_lem = call_is_call p q h }) in
      omega (arith, at.below, next_is_return kept (call_index kept q) k (next_picked p (call_index kept q) k call.below at.below (rw (← at.is) at next)))

  -- so that is the same record; where there is none, both are the record behind the last
  pub same_return_record : (q : ℕ) → q < operations kept → record_of kept (kept_return q) ≡ record_of records (original_return q)
  same_return_record q h = by (dec_lt (kept_return q) (length kept)) (dec_lt (original_return q) (length records))
    where
      by : Dec (kept_return q < length kept) → Dec (original_return q < length records) → record_of kept (kept_return q) ≡ record_of records (original_return q)
      by (yes l) d = p.same (kept_return q) l ∙ ap (record_of records) (sym (original_return_lem q h l))
      by (no l) (yes d) = absurd (l (return_kept q h d))
      by (no l) (no d) =
          let past : length kept ≤ kept_return q = omega arith in
          let past' : length records ≤ original_return q = omega arith in
          get_or-eq_default kept _ past ∙ sym (get_or-eq_default records _ past')

  -- a return is there exactly if the original's is
  pub return_there : (q : ℕ) → q < operations kept → (original_return q < length records) ↔ (kept_return q < length kept)
  return_there q h = (return_kept q h, λ l. rw (original_return_lem q h l) (p.below (kept_return q) l))
