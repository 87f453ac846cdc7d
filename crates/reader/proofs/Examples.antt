-- Examples of document 01 and others beside them, computed: what the definitions make of some bytes.
use Prim.Native.Nat.{ℕ}
use mathlib.Core.Path.{◌≡◌, refl}
use mathlib.Core.List.{List, [], ◌∷◌}
use Rattle.record.specs.Number.{big_endian, bytes_of}
use Rattle.record.specs.Frame.{frame_at}
use Rattle.record.specs.Record.{length_of, event_of, encode, decode_at}
use Rattle.record.specs.declared.record.Removed.TheVariants.{Value, Empty}
use Rattle.record.specs.declared.record.Event.TheVariants.{CallRemove, ReturnRemove}
use Rattle.std.specs.Prelude.{Result, Ok, Err}
use Rattle.record.specs.declared.refusal.Refused.{Refused}
use Rattle.reader.specs.Log.{Reading, pending_kind, returned_at, pending_remove, added_values, event_fault, fault, scan, read_partial, read_log, operations, checked, encode_all, encode_log}
use Rattle.table.specs.Table.{is_in}
use Rattle.reader.specs.declared.log.Counts.{Counts}

pub record Example : Type 0 where
  pub log : List ℕ
  pub answer : Result Counts Refused

abbrev counted : ℕ → ℕ → Result Counts Refused
counted records operations = Ok (record { records = records; operations = operations })

abbrev refused : ℕ → ℕ → Result Counts Refused
refused number index = Err (record { number = number; index = index })

-- what is answered where logs are read in this way
abbrev pub Hold : (List ℕ → Reading) → List Example → Type 0
Hold read [] = Unit {0}
Hold read (e ∷ es) = (checked (read e.log) ≡ e.answer) × Hold read es

abbrev pub examples : List Example
examples =
    -- no records
    record { log = 1 ∷ 0 ∷ 0 ∷ []; answer = counted 0 0 } ∷
    -- the program's log
    record { log = 1 ∷ 0 ∷ 4 ∷ 11 ∷ 1 ∷ 0 ∷ 1 ∷ 0 ∷ 0 ∷ 0 ∷ 1 ∷ 0 ∷ 0 ∷ 0 ∷ 7 ∷ 7 ∷ 3 ∷ 0 ∷ 1 ∷ 0 ∷ 0 ∷ 0 ∷ 2 ∷ 7 ∷ 2 ∷ 0 ∷ 1 ∷ 0 ∷ 0 ∷ 0 ∷ 3 ∷ 11 ∷ 4 ∷ 0 ∷ 1 ∷ 0 ∷ 0 ∷ 0 ∷ 4 ∷ 0 ∷ 0 ∷ 0 ∷ 7 ∷ []; answer = counted 4 2 } ∷
    -- A7( A7) A7(: refused 9, index 2
    record { log = 1 ∷ 0 ∷ 3 ∷ 11 ∷ 1 ∷ 0 ∷ 1 ∷ 0 ∷ 0 ∷ 0 ∷ 1 ∷ 0 ∷ 0 ∷ 0 ∷ 7 ∷ 7 ∷ 3 ∷ 0 ∷ 1 ∷ 0 ∷ 0 ∷ 0 ∷ 2 ∷ 11 ∷ 1 ∷ 0 ∷ 2 ∷ 0 ∷ 0 ∷ 0 ∷ 3 ∷ 0 ∷ 0 ∷ 0 ∷ 7 ∷ []; answer = refused 9 2 } ∷
    -- R(: readable, since one remove may be open
    record { log = 1 ∷ 0 ∷ 1 ∷ 7 ∷ 2 ∷ 0 ∷ 1 ∷ 0 ∷ 0 ∷ 0 ∷ 1 ∷ []; answer = counted 1 1 } ∷
    -- fewer than 3 bytes
    record { log = 1 ∷ 0 ∷ []; answer = refused 1 0 } ∷
    -- version not 1
    record { log = 3 ∷ 0 ∷ 0 ∷ []; answer = refused 2 0 } ∷
    -- version before the number of records
    record { log = 0 ∷ 4 ∷ 1 ∷ []; answer = refused 2 0 } ∷
    -- n is 1,025
    record { log = 1 ∷ 4 ∷ 1 ∷ []; answer = refused 3 0 } ∷
    -- n is 1,024, and the bytes end before the first record
    record { log = 1 ∷ 4 ∷ 0 ∷ []; answer = refused 1 0 } ∷
    -- bytes left behind record n
    record { log = 1 ∷ 0 ∷ 0 ∷ 0 ∷ []; answer = refused 1 0 } ∷
    -- they come before 10
    record { log = 1 ∷ 0 ∷ 2 ∷ 7 ∷ 2 ∷ 0 ∷ 1 ∷ 0 ∷ 0 ∷ 0 ∷ 1 ∷ 7 ∷ 2 ∷ 0 ∷ 2 ∷ 0 ∷ 0 ∷ 0 ∷ 1 ∷ 9 ∷ []; answer = refused 1 2 } ∷
    -- the bytes end before a record
    record { log = 1 ∷ 0 ∷ 1 ∷ []; answer = refused 1 0 } ∷
    -- inside a record, whatever its kind
    record { log = 1 ∷ 0 ∷ 1 ∷ 11 ∷ 9 ∷ []; answer = refused 1 0 } ∷
    -- L = 0
    record { log = 1 ∷ 0 ∷ 1 ∷ 0 ∷ []; answer = refused 5 0 } ∷
    -- L = 0, and more records to come
    record { log = 1 ∷ 0 ∷ 2 ∷ 0 ∷ []; answer = refused 5 0 } ∷
    -- unknown kind
    record { log = 1 ∷ 0 ∷ 1 ∷ 3 ∷ 9 ∷ 0 ∷ 0 ∷ []; answer = refused 4 0 } ∷
    -- L is not the kind's
    record { log = 1 ∷ 0 ∷ 1 ∷ 5 ∷ 1 ∷ 0 ∷ 0 ∷ 0 ∷ 0 ∷ 255 ∷ []; answer = refused 5 0 } ∷
    -- a tick below the record before, whoever made it
    record { log = 1 ∷ 0 ∷ 2 ∷ 7 ∷ 2 ∷ 0 ∷ 1 ∷ 0 ∷ 0 ∷ 0 ∷ 2 ∷ 7 ∷ 2 ∷ 0 ∷ 2 ∷ 0 ∷ 0 ∷ 0 ∷ 1 ∷ []; answer = refused 6 1 } ∷
    -- the tick before the open call
    record { log = 1 ∷ 0 ∷ 2 ∷ 7 ∷ 2 ∷ 0 ∷ 1 ∷ 0 ∷ 0 ∷ 0 ∷ 2 ∷ 7 ∷ 2 ∷ 0 ∷ 1 ∷ 0 ∷ 0 ∷ 0 ∷ 1 ∷ []; answer = refused 6 1 } ∷
    -- call by a client with an open call
    record { log = 1 ∷ 0 ∷ 2 ∷ 7 ∷ 2 ∷ 0 ∷ 1 ∷ 0 ∷ 0 ∷ 0 ∷ 1 ∷ 7 ∷ 2 ∷ 0 ∷ 1 ∷ 0 ∷ 0 ∷ 0 ∷ 1 ∷ []; answer = refused 7 1 } ∷
    -- the open call before the value
    record { log = 1 ∷ 0 ∷ 2 ∷ 11 ∷ 1 ∷ 0 ∷ 1 ∷ 0 ∷ 0 ∷ 0 ∷ 1 ∷ 0 ∷ 0 ∷ 0 ∷ 0 ∷ 11 ∷ 1 ∷ 0 ∷ 1 ∷ 0 ∷ 0 ∷ 0 ∷ 1 ∷ 0 ∷ 0 ∷ 0 ∷ 0 ∷ []; answer = refused 7 1 } ∷
    -- a call at the tick of its client's last return
    record { log = 1 ∷ 0 ∷ 3 ∷ 7 ∷ 2 ∷ 0 ∷ 1 ∷ 0 ∷ 0 ∷ 0 ∷ 1 ∷ 7 ∷ 5 ∷ 0 ∷ 1 ∷ 0 ∷ 0 ∷ 0 ∷ 1 ∷ 7 ∷ 2 ∷ 0 ∷ 1 ∷ 0 ∷ 0 ∷ 0 ∷ 1 ∷ []; answer = refused 31 2 } ∷
    -- before a value added a second time
    record { log = 1 ∷ 0 ∷ 3 ∷ 11 ∷ 1 ∷ 0 ∷ 1 ∷ 0 ∷ 0 ∷ 0 ∷ 1 ∷ 0 ∷ 0 ∷ 0 ∷ 7 ∷ 7 ∷ 3 ∷ 0 ∷ 1 ∷ 0 ∷ 0 ∷ 0 ∷ 1 ∷ 11 ∷ 1 ∷ 0 ∷ 1 ∷ 0 ∷ 0 ∷ 0 ∷ 1 ∷ 0 ∷ 0 ∷ 0 ∷ 7 ∷ []; answer = refused 31 2 } ∷
    -- a call at the tick of another client's return, and one at a higher tick than that of the client's own
    record { log = 1 ∷ 0 ∷ 6 ∷ 7 ∷ 2 ∷ 0 ∷ 1 ∷ 0 ∷ 0 ∷ 0 ∷ 1 ∷ 7 ∷ 5 ∷ 0 ∷ 1 ∷ 0 ∷ 0 ∷ 0 ∷ 1 ∷ 7 ∷ 2 ∷ 0 ∷ 2 ∷ 0 ∷ 0 ∷ 0 ∷ 1 ∷ 7 ∷ 5 ∷ 0 ∷ 2 ∷ 0 ∷ 0 ∷ 0 ∷ 1 ∷ 7 ∷ 2 ∷ 0 ∷ 1 ∷ 0 ∷ 0 ∷ 0 ∷ 2 ∷ 7 ∷ 5 ∷ 0 ∷ 1 ∷ 0 ∷ 0 ∷ 0 ∷ 2 ∷ []; answer = counted 6 3 } ∷
    -- return of the other operation
    record { log = 1 ∷ 0 ∷ 2 ∷ 7 ∷ 2 ∷ 0 ∷ 1 ∷ 0 ∷ 0 ∷ 0 ∷ 1 ∷ 7 ∷ 3 ∷ 0 ∷ 1 ∷ 0 ∷ 0 ∷ 0 ∷ 1 ∷ []; answer = refused 8 1 } ∷
    -- two removes without return: the later call
    record { log = 1 ∷ 0 ∷ 3 ∷ 11 ∷ 1 ∷ 0 ∷ 1 ∷ 0 ∷ 0 ∷ 0 ∷ 1 ∷ 0 ∷ 0 ∷ 0 ∷ 0 ∷ 7 ∷ 2 ∷ 0 ∷ 2 ∷ 0 ∷ 0 ∷ 0 ∷ 1 ∷ 7 ∷ 2 ∷ 0 ∷ 3 ∷ 0 ∷ 0 ∷ 0 ∷ 1 ∷ []; answer = refused 10 2 } ∷
    -- three, and a remove with its return between them: the second of the three
    record { log = 1 ∷ 0 ∷ 5 ∷ 7 ∷ 2 ∷ 0 ∷ 1 ∷ 0 ∷ 0 ∷ 0 ∷ 1 ∷ 7 ∷ 2 ∷ 0 ∷ 2 ∷ 0 ∷ 0 ∷ 0 ∷ 1 ∷ 7 ∷ 2 ∷ 0 ∷ 3 ∷ 0 ∷ 0 ∷ 0 ∷ 1 ∷ 7 ∷ 2 ∷ 0 ∷ 4 ∷ 0 ∷ 0 ∷ 0 ∷ 1 ∷ 7 ∷ 5 ∷ 0 ∷ 2 ∷ 0 ∷ 0 ∷ 0 ∷ 1 ∷ []; answer = refused 10 2 } ∷
    []

-- every example is answered as it should be
pub examples_hold : Hold read_log examples
unfolding big_endian length_of event_of frame_at decode_at pending_kind returned_at pending_remove added_values is_in event_fault fault scan read_partial operations
examples_hold = (refl, (refl, (refl, (refl, (refl, (refl, (refl, (refl, (refl, (refl, (refl, (refl, (refl, (refl, (refl, (refl, (refl, (refl, (refl, (refl, (refl, (refl, (refl, (refl, (refl, (refl, (refl, tt)))))))))))))))))))))))))))

abbrev pub partial_examples : List Example
partial_examples =
    -- two pending removes
    record { log = 1 ∷ 0 ∷ 2 ∷ 7 ∷ 2 ∷ 0 ∷ 1 ∷ 0 ∷ 0 ∷ 0 ∷ 1 ∷ 7 ∷ 2 ∷ 0 ∷ 2 ∷ 0 ∷ 0 ∷ 0 ∷ 1 ∷ []; answer = counted 2 2 } ∷
    -- left bytes are refused all the same
    record { log = 1 ∷ 0 ∷ 1 ∷ 7 ∷ 2 ∷ 0 ∷ 1 ∷ 0 ∷ 0 ∷ 0 ∷ 1 ∷ 9 ∷ []; answer = refused 1 1 } ∷
    []

-- and so is a log but for 10
pub partial_examples_hold : Hold read_partial partial_examples
unfolding big_endian length_of event_of frame_at decode_at pending_kind returned_at added_values is_in event_fault fault scan read_partial operations
partial_examples_hold = (refl, (refl, tt))

-- a remove's return with value 0, by client 258 at tick 259
pub decodes_fields : decode_at (11 ∷ 4 ∷ 1 ∷ 2 ∷ 0 ∷ 0 ∷ 1 ∷ 3 ∷ 0 ∷ 0 ∷ 0 ∷ 0 ∷ []) 0 ≡ Ok (record { client = 258; tick = 259; event = ReturnRemove (Value 0) }, 12)
unfolding big_endian length_of event_of frame_at decode_at
decodes_fields = refl

-- an empty remove, call and return, as a log
pub encodes_fields : encode_log (record { client = 258; tick = 1; event = CallRemove } ∷ record { client = 258; tick = 259; event = ReturnRemove Empty } ∷ [])
    ≡ 1 ∷ 0 ∷ 2 ∷ 7 ∷ 2 ∷ 1 ∷ 2 ∷ 0 ∷ 0 ∷ 0 ∷ 1 ∷ 7 ∷ 5 ∷ 1 ∷ 2 ∷ 0 ∷ 0 ∷ 1 ∷ 3 ∷ []
unfolding bytes_of length_of encode encode_all
encodes_fields = refl
