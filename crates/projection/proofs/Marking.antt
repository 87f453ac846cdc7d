-- The loop that marks the records of kept operations.
use Prim.Native.Nat.{ℕ, ◌≤◌, ◌<◌}
use native.Mathlib.Omega.{arith}
use mathlib.Core.Path.{◌≡◌, ap, ◌∙◌}
use mathlib.Core.Bool.{Bool, false}
use mathlib.Core.List.{List}
use lib.ListN.{length, set, length-set}
use lib.Seq.{get_or-set_same, get_or-set_other}
use Rattle.record.specs.declared.record.Record.{Record}
use Rattle.reader.specs.Log.{max_records}
use Rattle.history.specs.Operations.{operation_at}
use Rattle.history.specs.Walks.{Stepped}
use Rattle.history.specs.declared.walk.Step.{Step}
use Rattle.history.specs.declared.walk.Walk.{Walk}
use Rattle.history.proofs.Basics.{up_to}
use Rattle.history.proofs.Walking.{Keeping, keeping_whole, keeping_ends, keeping_next}
use Rattle.projection.specs.Marks.{is_set, MarksAre}

-- What the loop of `mark` keeps: the first n records are marked.
pub record Marking (kept marks : List Bool) (records : List Record) (n : ℕ) : Type 0 where
  pub sized : length marks ≡ max_records
  pub marked : (j : ℕ) → j < n → is_set marks j ≡ is_set kept (operation_at records j)

pub marking_starts : {kept marks : List Bool} → length marks ≡ max_records → (records : List Record) → Marking kept marks records 0
marking_starts sized records = record { sized = sized; marked = λ j l. absurd (omega arith) }

module _ {log : List ℕ} {size : ℕ} {kept marks : List Bool} {walk : Walk} (marking : Keeping log size (Marking kept marks) walk) where
  pub marking_ends : walk.records ≤ walk.index → MarksAre log kept marks
  marking_ends l =
      let whole = keeping_whole marking in
      record {
        sized = (keeping_ends marking l whole.records whole.reads).sized;
        marked = λ records reads. (keeping_ends marking l records reads).marked;
      }

  pub marking_next : {step : Step} {walk' : Walk} → Stepped walk step walk' → Keeping log size (Marking kept (set marks step.index (is_set kept step.operation))) walk'
  marking_next {step} stepped = keeping_next marking stepped (λ records reads regular counted told before. record {
    sized = length-set marks step.index _ ∙ before.sized;
    marked = up_to
        (λ j m. get_or-set_other marks step.index j _ false (λ z. omega arith) ∙ before.marked j m)
        (get_or-set_same marks step.index _ false (omega (arith, before.sized, told.there, regular.few)) ∙ ap (is_set kept) told.owner);
  })
