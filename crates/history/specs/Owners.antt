-- What the code keeps while it goes from record to record and finds the operation of each. What that operation is can be understood without
-- this file.
use Rattle.std.specs.Prelude.{ℕ, ◌+◌, ◌<◌, ◌≡◌, List, length, get_or, take}
use Rattle.record.specs.declared.record.Record.{Record}
use Rattle.map.specs.declared.map.Map.{Map}
use Rattle.reader.specs.Log.{max_records, operations}
use Rattle.reader.specs.Readable.{record_of, Regular}
use Rattle.history.specs.Operations.{call_index, operation_at}

-- The callers of the operations that the first n records call are noted: the keys of a map are the clients, so that a client's latest entry is its
-- latest operation.
pub record Traced (records : List Record) (n : ℕ) (callers : Map) : Type 0 where
  -- there are so many
  pub counted : callers.count ≡ operations (take n records)
  -- the client of each operation is that of its call
  pub clients_are : (o : ℕ) → o < callers.count → get_or callers.keys o 0 ≡ (record_of records (call_index records o)).client

-- The operation o of the record r is found, and its caller is noted if the record calls it.
pub record Owned (r : Record) (callers : Map) (o : ℕ) (callers' : Map) : Type 0 where
  pub small : o < max_records
  pub is : (records : List Record) (n : ℕ) → Regular records → n < length records → record_of records n ≡ r
      → Traced records n callers → o ≡ operation_at records n
  pub traced : (records : List Record) (n : ℕ) → Regular records → n < length records → record_of records n ≡ r
      → Traced records n callers → Traced records (n + 1) callers'
