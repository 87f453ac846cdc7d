-- The loop that finds where the span of each operation begins and ends.
use Prim.Native.Nat.{ℕ, ◌+◌, ◌≤◌, ◌<◌}
use native.Mathlib.Omega.{arith}
use native.Mathlib.Decide.{dec_lt, ℕ_discrete}
use mathlib.Core.Path.{◌≡◌, refl, sym, ap, ◌∙◌}
use mathlib.Core.List.{List}
use lib.ListN.{length, get_or, set, take, length-set}
use lib.Seq.{get_or-set_same, get_or-set_other, take-length}
use borrow.Author.Tests.{lt-ltb, le-ltb, eq-eqb, ne_eqb}
use Rattle.record.specs.declared.record.Record.{Record}
use Rattle.reader.specs.Log.{is_call, operations}
use Rattle.reader.specs.Readable.{record_of, Regular}
use Rattle.reader.proofs.Laws.{few_operations}
use Rattle.history.specs.Operations.{call_index, operation_at}
use Rattle.history.specs.Steps.{StepOf}
use Rattle.history.specs.Walks.{Stepped}
use Rattle.history.specs.declared.walk.Step.{Step}
use Rattle.history.specs.declared.walk.Walk.{Walk}
use Rattle.history.proofs.Along.{whole_readable}
use Rattle.reader.proofs.Events.{is_call_small}
use Rattle.history.proofs.Numbering.{rank_step, ranks_below, return_behind}
use Rattle.history.proofs.Owning.{operation_called, owner_called, owner_returned, returned_by, operation_known}
use Rattle.history.proofs.Walking.{Keeping, keeping_whole, keeping_ends, keeping_told, keeping_next}
use Rattle.timeline.specs.Page.{page_records, return_index_of}
use Rattle.timeline.specs.Spans.{end_by, Spanned, SpanNoted, SpansAre}

-- one record more, which is operation o's
module _ {records : List Record} (regular : Regular records) {n : ℕ} (h : n < length records) (short : length records ≤ page_records)
    {o : ℕ} (is : o ≡ operation_at records n) {starts ends : List ℕ} (spanned : Spanned records n (operations (take n records)) starts ends) where
  abbrev count : ℕ
  count = operations (take n records)

  pub owner_small : o < page_records
  owner_small = omega (arith, operation_known regular n h, few_operations records)

  -- the spans of the others end where they did
  same_end : (p : ℕ) → p < count → (p ≡ o → ⊥) → end_by records (n + 1) p ≡ end_by records n p
  same_end p l d = go (dec_lt (return_index_of records p) n) (ℕ_discrete (return_index_of records p) n)
    where
      go : Dec (return_index_of records p < n) → Dec (return_index_of records p ≡ n) → end_by records (n + 1) p ≡ end_by records n p
      go (yes b) e = rw (lt-ltb (return_index_of records p) (n + 1) (omega arith), lt-ltb (return_index_of records p) n b) refl
      go (no b) (yes e) = absurd (d (returned_by regular p n (omega (arith, ranks_below records n)) h e ∙ sym is))
      go (no b) (no e) = rw (le-ltb (return_index_of records p) (n + 1) (omega arith), le-ltb (return_index_of records p) n (omega arith)) refl

  -- and that of operation o where it is noted
  ends_set : (end : ℕ) → end ≡ end_by records (n + 1) o → (p : ℕ) → ((p ≡ o → ⊥) → p < count) → get_or (set ends o end) p 0 ≡ end_by records (n + 1) p
  ends_set end own p others = go (ℕ_discrete p o)
    where
      go : Dec (p ≡ o) → get_or (set ends o end) p 0 ≡ end_by records (n + 1) p
      go (yes e) = rw e (get_or-set_same ends o end 0 (omega (arith, spanned.ends_sized, owner_small)) ∙ own)
      go (no d) = get_or-set_other ends o p end 0 (λ z. d (omega arith)) ∙ spanned.ends_are p (others d) ∙ sym (same_end p (others d) d)

  -- its call
  spanned_call : is_call (record_of records n).event ≡ 1 → Spanned records (n + 1) (count + 1) (set starts o n) (set ends o (length records))
  spanned_call c = record {
    starts_sized = length-set starts o n ∙ spanned.starts_sized;
    ends_sized = length-set ends o (length records) ∙ spanned.ends_sized;
    starts_are = λ p l. begins p l (ℕ_discrete p o);
    ends_are = λ p l. ends_set (length records) pending p (λ d. omega (arith, new));
  }
    where
      new : o ≡ count
      new = omega (arith, operation_called records n h c)

      own : call_index records o ≡ n
      own = rw is (owner_called records n h c)

      pending : length records ≡ end_by records (n + 1) o
      pending = rw (le-ltb (return_index_of records o) (n + 1) (omega (arith, own, return_behind records (call_index records o)))) refl

      begins : (p : ℕ) → p < count + 1 → Dec (p ≡ o) → get_or (set starts o n) p 0 ≡ call_index records p
      begins p l (yes e) = rw (e, own) (get_or-set_same starts o n 0 (omega (arith, spanned.starts_sized, owner_small)))
      begins p l (no d) = get_or-set_other starts o p n 0 (λ z. d (omega arith)) ∙ spanned.starts_are p (omega (arith, new))

  -- its return
  spanned_return : is_call (record_of records n).event ≡ 0 → Spanned records (n + 1) count starts (set ends o (n + 1))
  spanned_return c = record {
    starts_sized = spanned.starts_sized;
    ends_sized = length-set ends o (n + 1) ∙ spanned.ends_sized;
    starts_are = spanned.starts_are;
    ends_are = λ p l. ends_set (n + 1) returned p (λ d. l);
  }
    where
      returned : n + 1 ≡ end_by records (n + 1) o
      returned =
          let here : return_index_of records o ≡ n = rw is (owner_returned regular n h c) in
          rw (lt-ltb (return_index_of records o) (n + 1) (omega arith)) (omega arith)

-- one record more, whichever of the two it is
pub spanned_more : {records : List Record} → Regular records → length records ≤ page_records → {step : Step} → StepOf records step
    → {starts ends starts' ends' : List ℕ} → Spanned records step.index (operations (take step.index records)) starts ends
    → SpanNoted step (length records) starts ends starts' ends'
    → Spanned records (step.index + 1) (operations (take (step.index + 1) records)) starts' ends'
spanned_more {records} regular short {step} told {starts' = starts'} {ends' = ends'} spanned noted = go (ℕ_discrete (is_call step.record.event) 0)
  where
    sort : is_call (record_of records step.index).event ≡ is_call step.record.event
    sort = ap (λ r. is_call r.event) told.here

    go : Dec (is_call step.record.event ≡ 0) → Spanned records (step.index + 1) (operations (take (step.index + 1) records)) starts' ends'
    go (yes c) =
        let ended = eq-eqb (is_call step.record.event) 0 c in
        let same : operations (take (step.index + 1) records) ≡ operations (take step.index records) = omega (arith, rank_step records step.index told.there, sort) in
        rw (same, rw ended at noted.starts_are, rw ended at noted.ends_are) (spanned_return regular told.there short told.owner spanned (sort ∙ c))
    go (no d) =
        let begun = ne_eqb (is_call step.record.event) 0 d in
        let call : is_call step.record.event ≡ 1 = omega (arith, is_call_small step.record.event) in
        let one : operations (take (step.index + 1) records) ≡ operations (take step.index records) + 1 = omega (arith, rank_step records step.index told.there, sort) in
        rw (one, rw begun at noted.starts_are, rw begun at noted.ends_are) (spanned_call regular told.there short told.owner spanned (sort ∙ call))

-- What the loop of `span` keeps: the spans of the operations that the first n records call are noted.
abbrev pub Spanning : List ℕ → List ℕ → List Record → ℕ → Type 0
Spanning starts ends records n = Spanned records n (operations (take n records)) starts ends

pub spanning_starts : {starts ends : List ℕ} → length starts ≡ page_records → length ends ≡ page_records → (records : List Record) → Spanning starts ends records 0
unfolding operations
spanning_starts s e records = record { starts_sized = s; ends_sized = e; starts_are = λ o l. absurd (omega arith); ends_are = λ o l. absurd (omega arith) }

module _ {log starts ends : List ℕ} {size : ℕ} {walk : Walk} (spanning : Keeping log size (Spanning starts ends) walk) where
  pub spanning_ends : walk.records ≤ walk.index → SpansAre log starts ends
  spanning_ends l = record { spanned = λ records reads. rw (take-length records) at (keeping_ends spanning l records reads) }

  module _ (short : size ≤ page_records) {step : Step} {walk' : Walk} (stepped : Stepped walk step walk') where
    -- the record's operation has an entry
    pub spanning_small : (step.operation < page_records) × (step.index < page_records)
    spanning_small =
        let whole = keeping_whole spanning in
        let told = (keeping_told spanning stepped whole.records whole.reads).0 in
        let regular = (whole_readable whole).partial.regular in
        (omega (arith, operation_known regular step.index told.there, few_operations whole.records, told.owner, whole.counted), omega (arith, told.there, whole.counted))

    pub spanning_next : {starts' ends' : List ℕ} → SpanNoted step size starts ends starts' ends' → Keeping log size (Spanning starts' ends') walk'
    spanning_next noted = keeping_next spanning stepped (λ records reads regular counted told before.
        spanned_more regular (omega (arith, counted)) told before (rw (← counted) at noted))
