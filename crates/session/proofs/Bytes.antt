-- What is written of a record is bytes.
use Prim.Native.Nat.{ℕ, zero, suc, ◌/◌, ◌%◌, ◌<◌}
use native.Mathlib.Omega.{arith}
use mathlib.Core.List.{List, [], ◌∷◌, ◌++◌}
use Rattle.record.specs.Number.{bytes_of, Bytes}
use Rattle.record.specs.Record.{kind_of, length_of, value_bytes, encode}
use Rattle.record.specs.declared.record.Removed.TheVariants.{Value, Empty}
use Rattle.record.specs.declared.record.Event.{Event}
use Rattle.record.specs.declared.record.Event.TheVariants.{CallAdd, CallRemove, ReturnAdd, ReturnRemove}
use Rattle.record.specs.declared.record.Record.{Record}
use Rattle.record.proofs.Records.{event_most}

bytes_more : (x : ℕ) (xs : List ℕ) → x < 256 → Bytes xs → Bytes (x ∷ xs)
bytes_more x xs small b zero = small
bytes_more x xs small b (suc i) = b i

bytes_join : (xs ys : List ℕ) → Bytes xs → Bytes ys → Bytes (xs ++ ys)
bytes_join [] ys b c = c
bytes_join (x ∷ xs) ys b c = bytes_more x (xs ++ ys) (b 0) (bytes_join xs ys (λ i. b (suc i)) c)

bytes_none : Bytes []
bytes_none i = omega arith

number_bytes_lem : (width x : ℕ) → Bytes (bytes_of width x)
unfolding bytes_of
number_bytes_lem zero x = bytes_none
number_bytes_lem (suc width) x = bytes_join (bytes_of width (x / 256)) (x % 256 ∷ []) (number_bytes_lem width (x / 256)) (bytes_more (x % 256) [] (omega arith) bytes_none)

pub record_bytes : (r : Record) → Bytes (encode r)
unfolding encode
record_bytes r =
    let fields : List ℕ = bytes_of 2 r.client ++ bytes_of 4 r.tick in
    bytes_more (length_of (kind_of r.event)) (kind_of r.event ∷ fields ++ value_bytes r.event) (omega (arith, event_most r.event))
    (bytes_more (kind_of r.event) (fields ++ value_bytes r.event) (kind r.event)
    (bytes_join fields (value_bytes r.event) (bytes_join (bytes_of 2 r.client) (bytes_of 4 r.tick) (number_bytes_lem 2 r.client) (number_bytes_lem 4 r.tick)) (value r.event)))
  where
    kind : (e : Event) → kind_of e < 256
    kind (CallAdd v) = omega arith
    kind CallRemove = omega arith
    kind ReturnAdd = omega arith
    kind (ReturnRemove (Value v)) = omega arith
    kind (ReturnRemove Empty) = omega arith

    value : (e : Event) → Bytes (value_bytes e)
    value (CallAdd v) = number_bytes_lem 4 v
    value CallRemove = bytes_none
    value ReturnAdd = bytes_none
    value (ReturnRemove (Value v)) = number_bytes_lem 4 v
    value (ReturnRemove Empty) = bytes_none
