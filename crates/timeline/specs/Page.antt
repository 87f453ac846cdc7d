-- The page of a log. Document 02, change 1: "A readable log of at most 63 records is laid out as one line per operation, in number
-- order, each 80 characters and a line feed."
use Rattle.std.specs.Prelude.{ℕ, zero, suc, ◌-◌, ◌&&◌, List, Result, [], ◌∷◌, ◌++◌, length, replicate, ltb, leb, eqb, if◌then◌else◌}
use Rattle.record.specs.declared.record.Record.{Record}
use Rattle.buffer.specs.Buffer.{written}
use Rattle.buffer.specs.Output.{writing}
use Rattle.record.specs.declared.refusal.Refused.{Refused}
use Rattle.record.specs.declared.refusal.Refusal.TheVariants.{PageTooLong}
use Rattle.record.specs.Refusal.{refusing}
use Rattle.text.specs.Text.{space, line_feed, decimal}
use Rattle.reader.specs.Log.{Reading, readable, refused, operations}
use Rattle.history.specs.History.{add, empty_remove, no_kind}
use Rattle.history.specs.Operations.{call_index, return_index, history_of}

-- a text in a field of a width, at its right end and at its left end
abbrev pub right_aligned : ℕ → List ℕ → List ℕ
right_aligned width text = replicate (width - length text) space ++ text

abbrev pub left_aligned : ℕ → List ℕ → List ℕ
left_aligned width text = text ++ replicate (width - length text) space

-- the first n texts of a sequence, one after the other
unfoldable pub joined : (ℕ → List ℕ) → ℕ → List ℕ
joined text zero = []
joined text (suc n) = joined text n ++ text n

-- "A, R or E (empty remove) and the value in decimal without leading zeros .. E has no value." Of a remove that has not returned, change 4
-- says: "The page shows a lone R."
abbrev pub letter_of : ℕ → ℕ
letter_of kind =
    -- A
    if eqb kind add then 65 else
    -- E
    if eqb kind empty_remove then 69 else
    -- R
    82

abbrev pub label_of : ℕ → ℕ → List ℕ
label_of kind value = letter_of kind ∷ (if eqb kind empty_remove then [] else if eqb kind no_kind then [] else decimal value)

-- the characters # and .
abbrev pub hash : ℕ
hash = 35

abbrev pub dot : ℕ
dot = 46

-- "# from call to return, both included, or to the last record for an open operation, else a dot": the column of the record with
-- index i, by the indices of the operation's call and return
abbrev pub column_of : ℕ → ℕ → ℕ → ℕ
column_of call return i = if leb call i && leb i return then hash else dot

-- "From 18 on each record has one column": those of the first n records
abbrev pub columns : ℕ → ℕ → ℕ → List ℕ
columns call return n = joined (λ i. column_of call return i ∷ []) n

abbrev pub page_records : ℕ
page_records = 63

-- "80 characters and a line feed"
abbrev pub line_bytes : ℕ
line_bytes = 81

-- the most bytes of a page: 81 for each of 63 operations
abbrev pub page_max : ℕ
page_max = 5103

-- The line of an operation of a log of n records. "Characters 1 to 4 hold the operation number, right-aligned; 5 and 17 are spaces.
-- Characters 6 to 16 hold" the label, "left-aligned"; "columns behind the last record are spaces."
abbrev pub operation_line : (o kind value call return n : ℕ) → List ℕ
operation_line o kind value call return n =
    right_aligned 4 (decimal o) ++ (space ∷ (
    left_aligned 11 (label_of kind value) ++ (space ∷ (
    left_aligned page_records (columns call return n) ++ (line_feed ∷ [])))))

-- the index of an operation's return; of an open operation it is the number of records, which no record has
abbrev pub return_index_of : List Record → ℕ → ℕ
return_index_of records o = return_index records (call_index records o)

abbrev pub line_of : List Record → ℕ → List ℕ
line_of records o =
    operation_line o ((history_of records).kind o) ((history_of records).value o) (call_index records o) (return_index_of records o) (length records)

abbrev pub page_of : List Record → List ℕ
page_of records = joined (line_of records) (operations records)

-- the page of a log, as it was read: the log's refusal; or "It refuses with 30 a log of more than 63 records, after the input list and before 24"; or
-- the page is written
abbrev pub page_answer : Reading → List ℕ → Result ℕ Refused
page_answer (refused refusal index) out = refusing refusal index
page_answer (readable records) out = if ltb page_records (length records) then refusing PageTooLong 0 else writing (page_of records) out

abbrev pub page_leaves : Reading → List ℕ → List ℕ
page_leaves (refused refusal index) out = out
page_leaves (readable records) out = if ltb page_records (length records) then out else written (page_of records) out
