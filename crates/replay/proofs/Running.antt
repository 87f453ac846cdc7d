-- The loop that places the operations of a sheet, one after the other.
use Prim.Native.Nat.{ℕ, ◌+◌, ◌*◌, ◌≤◌, ◌<◌}
use native.Mathlib.Omega.{arith}
use mathlib.Core.Path.{◌≡◌, sym, ◌∙◌}
use mathlib.Core.Bool.{Bool}
use mathlib.Core.List.{List}
use lib.ListN.{length}
use Rattle.std.specs.Prelude.{Option, Some, None}
use Rattle.record.specs.Number.{big_endian}
use Rattle.history.specs.History.{History}
use Rattle.history.specs.Object.{Queue}
use Rattle.history.specs.Linearization.{Linearization}
use Rattle.history.specs.Sheet.{sheet_header, listed_field, listed_on}
use Rattle.history.proofs.Sheets.{listed_length, listed_at}
use Rattle.replay.specs.Trial.{Kept, After, Stepped, AllPlaced}
use Rattle.replay.specs.declared.order.Progress.{Progress}

-- The first i of the k operations are placed.
pub record Running (h : History) (sheet : List ℕ) (k i : ℕ) (p : Progress) (marks : List Bool) (queue : List ℕ) : Type 0 where
  pub listed : k ≡ listed_field sheet
  pub long : length sheet ≡ sheet_header + 2 * k
  pub within : i ≤ k
  pub kept : Kept h (listed_on sheet) i p marks queue

module _ {h : History} {sheet : List ℕ} {marks : List Bool} {queue : List ℕ} {k i : ℕ} {p : Progress} (running : Running h sheet k i p marks queue) where
  whole : length (listed_on sheet) ≡ k
  whole = listed_length sheet ∙ sym running.listed

  -- a step from here
  module _ (l : i < k) {o : ℕ} (e : o ≡ big_endian sheet (sheet_header + 2 * i) 2) {step : Option Progress} {marks' : List Bool} {queue' : List ℕ} (stepped : Stepped h o p marks queue step marks' queue') where
    after : After h (listed_on sheet) i marks' queue' step
    after = stepped.after (listed_on sheet) i (omega (arith, whole)) (listed_at sheet i (omega (arith, running.listed)) ∙ sym e) running.kept

    pub running_stops : step ≡ None → Linearization Queue h (listed_on sheet) → ⊥
    running_stops s = rw s at after

    pub running_next : {q : Progress} → step ≡ Some q → Running h sheet k (i + 1) q marks' queue'
    running_next s = record { listed = running.listed; long = running.long; within = omega arith; kept = rw s at after }

  pub running_ends : k ≤ i → AllPlaced h (listed_on sheet) marks
  running_ends l =
      let last : i ≡ length (listed_on sheet) = omega (arith, running.within, whole) in
      record { progress = p; queue = queue; kept = rw last at running.kept }
