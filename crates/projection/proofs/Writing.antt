-- The loop that copies the marked records.
use Prim.Native.Nat.{ℕ, ◌+◌, ◌-◌, ◌≤◌, ◌<◌}
use native.Mathlib.Omega.{arith}
use mathlib.Core.Path.{◌≡◌, refl, sym, ap, ◌∙◌}
use mathlib.Core.Bool.{Bool, true, false}
use mathlib.Core.List.{List, ◌++◌, append-nil}
use lib.ListN.{length, take, drop, length-drop}
use lib.Seq.{length-take-le}
use Rattle.record.specs.Cursor.{behind}
use Rattle.record.specs.Frame.{frame_at}
use Rattle.record.specs.Record.{size_of}
use Rattle.record.specs.Number.{Bytes}
use Rattle.record.specs.declared.record.Record.{Record}
use Rattle.buffer.specs.Buffer.{put}
use Rattle.buffer.proofs.Copying.{put_nothing, put_length, put_behind}
use Rattle.reader.specs.Log.{header_length, encode_all}
use Rattle.reader.specs.Readable.{record_of, sizes}
use Rattle.history.specs.Table.{Whole}
use Rattle.history.proofs.Along.{Along, along_start}
use Rattle.projection.specs.Marks.{is_set}
use Rattle.projection.specs.Copies.{chosen, marked, RoomFor}
use Rattle.projection.proofs.Framing.{along_behind, along_size, along_within}
use Rattle.projection.proofs.Chosen.{chosen_more, chosen_size, chosen_bytes, chosen_rises}
use Rattle.projection.proofs.Sizes.{sizes_are, record_bytes}

-- The loop of `write_records` has come to record i.
pub record Writing (log : List ℕ) (marks : List Bool) (old out : List ℕ) (from at i : ℕ) : Type 0 where
  -- of a readable log of bytes, which stands at `from`
  pub bytes : Bytes log
  pub whole : Whole log (length marks)
  pub along : Along log whole.records from i
  -- there is room for all marked records
  pub room : header_length + sizes (marked marks whole.records) ≤ length old
  -- those before record i are copied, up to `at`
  pub reached : at ≡ header_length + sizes (chosen (is_set marks) whole.records i)
  pub copied : out ≡ put header_length (encode_all (chosen (is_set marks) whole.records i)) old

pub writing_starts : {log : List ℕ} {marks : List Bool} {out : List ℕ} → Bytes log → Whole log (length marks) → RoomFor log marks out → Writing log marks out out header_length header_length 0
unfolding chosen sizes encode_all
writing_starts {out = out} bytes whole room = record {
  bytes = bytes;
  whole = whole;
  along = along_start whole;
  room = room.room whole.records whole.reads;
  reached = refl;
  copied = put_nothing header_length out;
}

module _ {log : List ℕ} {marks : List Bool} {old out : List ℕ} {from at i : ℕ} (writing : Writing log marks old out from at i) where
  -- the marked ones of the first n records, and room for them
  abbrev first : ℕ → List Record
  first n = chosen (is_set marks) writing.whole.records n

  room_first : (n : ℕ) → n ≤ length writing.whole.records → header_length + sizes (first n) ≤ length old
  room_first n l =
      let split : n + (length writing.whole.records - n) ≡ length writing.whole.records = omega arith in
      omega (arith, writing.room, rw split at (chosen_rises (is_set marks) writing.whole.records n (length writing.whole.records - n)))

  pub writing_sized : length out ≡ length old
  writing_sized = ap length writing.copied ∙ put_length header_length (encode_all (first i)) old (omega (arith, sizes_are (first i), room_first i writing.along.within))

  module _ (l : i < length marks) {next : ℕ} (e : next ≡ behind (frame_at log from) from) where
    below : i < length writing.whole.records
    below = omega (arith, writing.whole.counted)

    -- the size of record i
    size : next ≡ from + size_of (record_of writing.whole.records i)
    size = along_size writing.along below e

    -- offsets are small
    pub writing_small : (from ≤ next) × (next ≤ length log)
    writing_small = omega (arith, size, along_within writing.along below e)

    -- record i is marked
    module _ (set : is_set marks i ≡ true) where
      -- the part of the log that is copied
      abbrev part : List ℕ
      part = take (next - from) (drop from log)

      part_length : length part ≡ next - from
      part_length = length-take-le (next - from) (drop from log) (omega (arith, length-drop from log, writing_small))

      reached_more : at + (next - from) ≡ header_length + sizes (first (i + 1))
      reached_more = omega (arith, writing.reached, size, rw set at (chosen_size (is_set marks) writing.whole.records i))

      -- there is room for it
      pub writing_room : at + length part ≤ length out
      writing_room = omega (arith, part_length, reached_more, room_first (i + 1) (omega (arith, below)), writing_sized)

      -- its bytes go behind those of the records before it
      first_more : encode_all (first (i + 1)) ≡ encode_all (first i) ++ part
      first_more =
          let alone : next - from ≡ size_of (record_of writing.whole.records i) = omega (arith, size) in
          rw alone (rw set at (chosen_bytes (is_set marks) writing.whole.records i (drop from log) (rw writing.along.stands (record_bytes writing.along.readable.partial writing.bytes i below))))

      behind_first : put at part out ≡ put header_length (encode_all (first i) ++ part) old
      behind_first = rw (writing.copied, writing.reached, ← sizes_are (first i)) (put_behind header_length (encode_all (first i)) part old (omega (arith, writing.room)))

      pub writing_marked : {out' : List ℕ} → out' ≡ put at part out → Writing log marks old out' next (at + (next - from)) (i + 1)
      writing_marked c = record {
        bytes = writing.bytes;
        whole = writing.whole;
        along = along_behind writing.along below e;
        room = writing.room;
        reached = reached_more;
        copied = c ∙ behind_first ∙ ap (λ bytes. put header_length bytes old) (sym first_more);
      }

    -- or is not
    pub writing_passed : is_set marks i ≡ false → Writing log marks old out next at (i + 1)
    writing_passed unset = record {
      bytes = writing.bytes;
      whole = writing.whole;
      along = along_behind writing.along below e;
      room = writing.room;
      reached = rw same writing.reached;
      copied = rw same writing.copied;
    }
      where
        same : first (i + 1) ≡ first i
        same = chosen_more (is_set marks) writing.whole.records i ∙ rw unset (append-nil _)
