-- What the code keeps of the operations of a short log: where the span of each begins, and where it ends. What a page is can be
-- understood without this file.
use Rattle.std.specs.Prelude.{ℕ, ◌+◌, ◌-◌, ◌≤◌, ◌<◌, ◌≡◌, List, [], ◌∷◌, ◌++◌, length, get_or, set, replicate, ltb, eqb, if◌then◌else◌}
use Rattle.record.specs.declared.record.Record.{Record}
use Rattle.text.specs.Text.{space, line_feed, decimal}
use Rattle.reader.specs.Log.{readable, read_log, is_call, operations}
use Rattle.history.specs.Operations.{call_index}
use Rattle.history.specs.Table.{kind_at, value_at}
use Rattle.history.specs.declared.walk.Step.{Step}
use Rattle.timeline.specs.Page.{right_aligned, left_aligned, joined, label_of, hash, dot, page_records, return_index_of}

-- where the span of an operation ends, by the first n records: after its return, or after the last record
abbrev pub end_by : List Record → ℕ → ℕ → ℕ
end_by records n o =
    if ltb (return_index_of records o) n then return_index_of records o + 1 else length records

-- The spans of the operations that the first n records call are noted.
pub record Spanned (records : List Record) (n count : ℕ) (starts ends : List ℕ) : Type 0 where
  pub starts_sized : length starts ≡ page_records
  pub ends_sized : length ends ≡ page_records
  pub starts_are : (o : ℕ) → o < count → get_or starts o 0 ≡ call_index records o
  pub ends_are : (o : ℕ) → o < count → get_or ends o 0 ≡ end_by records n o

-- What a step tells is noted, of a log of n records: a call begins the span of its operation, and a return ends it.
pub record SpanNoted (step : Step) (n : ℕ) (starts ends starts' ends' : List ℕ) : Type 0 where
  pub starts_are : starts' ≡ (if eqb (is_call step.record.event) 0 then starts else set starts step.operation step.index)
  pub ends_are : ends' ≡ set ends step.operation (if eqb (is_call step.record.event) 0 then step.index + 1 else n)

-- The spans of all operations of a log are noted.
pub record SpansAre (log starts ends : List ℕ) : Type 0 where
  pub spanned : (records : List Record) → read_log log ≡ readable records
      → Spanned records (length records) (operations records) starts ends

-- columns of n records: dots, hashes from `start` on and up to `end`, and dots again
abbrev pub column_runs : ℕ → ℕ → ℕ → List ℕ
column_runs start end n = replicate start dot ++ (replicate (end - start) hash ++ replicate (n - end) dot)

-- The spans of the first m operations of a log of n records can be drawn: they lie within its columns.
pub record Drawable (starts ends : List ℕ) (n m : ℕ) : Type 0 where
  pub short : n ≤ page_records
  pub few : m ≤ n
  pub begin : (o : ℕ) → o < m → get_or starts o 0 ≤ get_or ends o 0
  pub within : (o : ℕ) → o < m → get_or ends o 0 ≤ n

-- a line in two parts, characters 1 to 17, and the columns with the line feed
abbrev pub left_bytes : ℕ
left_bytes = 17

abbrev pub right_bytes : ℕ
right_bytes = 64

abbrev pub left_part : (o kind value : ℕ) → List ℕ
left_part o kind value = right_aligned 4 (decimal o) ++ (space ∷ (left_aligned 11 (label_of kind value) ++ (space ∷ [])))

abbrev pub right_part : (start end n : ℕ) → List ℕ
right_part start end n = left_aligned page_records (column_runs start end n) ++ (line_feed ∷ [])

-- the first m lines, from what the tables hold
abbrev pub lines_in : List ℕ → List ℕ → List ℕ → ℕ → ℕ → List ℕ
lines_in table starts ends n m =
    joined (λ o. left_part o (kind_at table o) (value_at table o) ++ right_part (get_or starts o 0) (get_or ends o 0) n) m
