-- The loop that adds up the marked records.
use Prim.Native.Nat.{ℕ, ◌+◌, ◌-◌, ◌≤◌, ◌<◌}
use native.Mathlib.Omega.{arith}
use mathlib.Core.Path.{◌≡◌, refl}
use mathlib.Core.Bool.{Bool, true, false}
use mathlib.Core.List.{List}
use lib.ListN.{length}
use Rattle.record.specs.Cursor.{behind}
use Rattle.record.specs.Frame.{frame_at}
use Rattle.record.specs.Record.{size_of}
use Rattle.reader.specs.Log.{header_length}
use Rattle.reader.specs.Readable.{record_of, sizes}
use Rattle.history.specs.Table.{Whole}
use Rattle.history.proofs.Along.{Along, along_start}
use Rattle.projection.specs.Marks.{is_set}
use Rattle.projection.specs.Copies.{chosen}
use Rattle.projection.proofs.Framing.{along_behind, along_size}
use Rattle.projection.proofs.Chosen.{chosen_count, chosen_size}

-- The loop of `measure` has come to record i.
pub record Measuring (log : List ℕ) (marks : List Bool) (count bytes at i : ℕ) : Type 0 where
  -- of a readable log, which stands at this offset
  pub whole : Whole log (length marks)
  pub along : Along log whole.records at i
  -- the marked ones of the records before it are so many and take so many bytes
  pub counted : count ≡ length (chosen (is_set marks) whole.records i)
  pub sized : bytes ≡ sizes (chosen (is_set marks) whole.records i)
  -- which is no more than all records before it
  pub few : count ≤ i
  pub short : header_length + bytes ≤ at

pub measuring_starts : {log : List ℕ} {marks : List Bool} → Whole log (length marks) → Measuring log marks 0 0 header_length 0
unfolding chosen sizes
measuring_starts whole = record { whole = whole; along = along_start whole; counted = refl; sized = refl; few = omega arith; short = omega arith }

module _ {log : List ℕ} {marks : List Bool} {count bytes at i : ℕ} (measuring : Measuring log marks count bytes at i)
    (l : i < length marks) {next : ℕ} (e : next ≡ behind (frame_at log at) at) where
  below : i < length measuring.whole.records
  below = omega (arith, measuring.whole.counted)

  -- the size of record i
  size : next ≡ at + size_of (record_of measuring.whole.records i)
  size = along_size measuring.along below e

  pub measuring_rises : at ≤ next
  measuring_rises = omega (arith, size)

  -- it is marked, or is not
  pub measuring_marked : is_set marks i ≡ true → Measuring log marks (count + 1) (bytes + (next - at)) next (i + 1)
  measuring_marked set = record {
    whole = measuring.whole;
    along = along_behind measuring.along below e;
    counted = omega (arith, measuring.counted, rw set at (chosen_count (is_set marks) measuring.whole.records i));
    sized = omega (arith, measuring.sized, size, rw set at (chosen_size (is_set marks) measuring.whole.records i));
    few = omega (arith, measuring.few);
    short = omega (arith, measuring.short, measuring_rises);
  }

  pub measuring_passed : is_set marks i ≡ false → Measuring log marks count bytes next (i + 1)
  measuring_passed unset = record {
    whole = measuring.whole;
    along = along_behind measuring.along below e;
    counted = omega (arith, measuring.counted, rw unset at (chosen_count (is_set marks) measuring.whole.records i));
    sized = omega (arith, measuring.sized, rw unset at (chosen_size (is_set marks) measuring.whole.records i));
    few = omega (arith, measuring.few);
    short = omega (arith, measuring.short, measuring_rises);
  }
