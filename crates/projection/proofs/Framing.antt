-- A loop that goes along the records of a readable log by their frames.
use Prim.Native.Nat.{ℕ, ◌+◌, ◌≤◌, ◌<◌}
use native.Mathlib.Omega.{arith}
use mathlib.Core.Path.{◌≡◌}
use mathlib.Core.List.{List}
use lib.ListN.{length}
use Rattle.record.specs.Cursor.{behind}
use Rattle.record.specs.Frame.{frame_at}
use Rattle.record.specs.Record.{size_of}
use Rattle.record.specs.declared.record.Record.{Record}
use Rattle.reader.specs.Readable.{record_of, offset_of}
use Rattle.reader.proofs.Bytes.{decode_inverts}
use Rattle.history.proofs.Along.{Along, along_record}
use Rattle.projection.proofs.Sizes.{offset_more, offset_within}

module _ {log : List ℕ} {records : List Record} {at i : ℕ} (along : Along log records at i) (l : i < length records)
    {next : ℕ} (e : next ≡ behind (frame_at log at) at) where
  behind_it : next ≡ offset_of records (i + 1)
  behind_it = rw (decode_inverts log at (along_record along l)).framed at e

  pub along_behind : Along log records next (i + 1)
  along_behind = record { readable = along.readable; within = omega arith; stands = behind_it }

  pub along_size : next ≡ at + size_of (record_of records i)
  along_size = omega (arith, behind_it, along.stands, offset_more records i l)

  pub along_within : next ≤ length log
  along_within = omega (arith, behind_it, offset_within along.readable.partial (i + 1))
