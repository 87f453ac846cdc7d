-- The laws of a page. specs/Page.antt says what it is.
use Prim.Native.Nat.{ℕ, ◌+◌, ◌*◌, ◌≤◌, ◌<◌}
use native.Mathlib.Omega.{arith}
use native.Mathlib.Decide.{dec_lt}
use mathlib.Core.Path.{◌≡◌, refl, ◌∙◌}
use mathlib.Core.Logic.{◌⊎◌, inl, inr}
use mathlib.Core.List.{List, [], ◌∷◌}
use lib.ListN.{length, get_or, take, drop, get_or-append}
use lib.Seq.{get_or_at}
use lib.Dec.{ltb}
use borrow.Author.Tests.{lt-ltb, le-ltb, lt-leb, le-leb}
use Rattle.std.specs.Prelude.{if◌then◌else◌}
use Rattle.record.specs.Number.{Bytes}
use Rattle.record.specs.declared.record.Record.{Record}
use Rattle.std.specs.Prelude.{Ok}
use Rattle.record.specs.Refusal.{refusing}
use Rattle.record.specs.declared.refusal.Refusal.TheVariants.{PageTooLong, BufferTooShort}
use Rattle.text.specs.Text.{space, line_feed, decimal}
use Rattle.reader.specs.Log as Log
use Rattle.reader.specs.Log.{operations}
use Rattle.reader.specs.Readable.{ReadableLog}
use Rattle.reader.proofs.Laws.{few_operations}
use Rattle.history.specs.History.{Returned}
use Rattle.history.specs.Operations.{call_index, history_of}
use Rattle.history.proofs.Laws.{history_values}
use Rattle.history.proofs.Positions.{position_returned}
use Rattle.timeline.specs.Page.{right_aligned, left_aligned, label_of, hash, dot, column_of, columns, page_records, line_bytes, page_max, return_index_of, line_of, page_of, page_answer, page_leaves}
use Rattle.timeline.proofs.Lines.{joined_length, joined_at, joined_character, column_late, columns_length, left_blank, number_width, label_width, columns_width, fields_length, first_field, first_space, second_field, second_space, from_third}

-- "It refuses with 30 a log of more than 63 records, after the input list and before 24", and leaves the buffer
pub page_too_long : (records : List Record) → page_records < length records → (out : List ℕ)
    → (page_answer (Log.readable records) out ≡ refusing PageTooLong 0) × (page_leaves (Log.readable records) out ≡ out)
page_too_long records l out = rw (lt-ltb page_records (length records) l) (refl, refl)

-- the page of a readable log of at most 63 records
module _ {log : List ℕ} {records : List Record} (readable : ReadableLog log records) (bytes : Bytes log) (short : length records ≤ page_records) where
  -- the three fields of its line
  abbrev number_field : ℕ → List ℕ
  number_field o = right_aligned 4 (decimal o)

  abbrev label_field : ℕ → List ℕ
  label_field o = left_aligned 11 (label_of ((history_of records).kind o) ((history_of records).value o))

  abbrev column_field : ℕ → List ℕ
  column_field o = left_aligned page_records (columns (call_index records o) (return_index_of records o) (length records))

  module _ {o : ℕ} (h : o < operations records) where
    wide_number : length (number_field o) ≡ 4
    wide_number = number_width o (omega (arith, few_operations records))

    wide_label : length (label_field o) ≡ 11
    wide_label = label_width ((history_of records).kind o) ((history_of records).value o) (history_values readable bytes o h)

    wide_columns : length (column_field o) ≡ page_records
    wide_columns = columns_width (call_index records o) (return_index_of records o) (length records) short

    -- "each 80 characters and a line feed"
    pub line_length : length (line_of records o) ≡ line_bytes
    line_length = omega (arith, fields_length (number_field o) (label_field o) (column_field o), wide_number, wide_label, wide_columns)

    -- "Characters 1 to 4 hold the operation number, right-aligned"
    pub line_number : take 4 (line_of records o) ≡ right_aligned 4 (decimal o)
    line_number = first_field (number_field o) (label_field o) (column_field o) wide_number wide_label

    -- "5 and 17 are spaces"
    pub line_spaces : (get_or (line_of records o) 4 0 ≡ space) × (get_or (line_of records o) 16 0 ≡ space)
    line_spaces = (
      first_space (number_field o) (label_field o) (column_field o) wide_number wide_label,
      second_space (number_field o) (label_field o) (column_field o) wide_number wide_label,
    )

    -- "Characters 6 to 16 hold" the label, "left-aligned"
    pub line_label : take 11 (drop 5 (line_of records o)) ≡ left_aligned 11 (label_of ((history_of records).kind o) ((history_of records).value o))
    line_label = second_field (number_field o) (label_field o) (column_field o) wide_number wide_label

    -- from 18 on
    at_column : (i : ℕ) → i < page_records → get_or (line_of records o) (17 + i) 0 ≡ get_or (column_field o) i 0
    at_column i l = from_third (number_field o) (label_field o) (column_field o) wide_number wide_label i
        ∙ get_or-append (column_field o) (line_feed ∷ []) 0 i (omega (arith, wide_columns))

    -- "each record has one column"
    line_column : (i : ℕ) → i < length records → get_or (line_of records o) (17 + i) 0 ≡ column_of (call_index records o) (return_index_of records o) i
    line_column i l = at_column i (omega arith)
        ∙ get_or-append (columns (call_index records o) (return_index_of records o) (length records)) _ 0 i (omega (arith, columns_length (call_index records o) (return_index_of records o) (length records)))
        ∙ joined_character (column_of (call_index records o) (return_index_of records o)) (length records) i l

    -- "# from call to return, both included"
    pub line_hash : (i : ℕ) → call_index records o ≤ i → i ≤ return_index_of records o → i < length records → get_or (line_of records o) (17 + i) 0 ≡ hash
    line_hash i b e l = line_column i l ∙ rw (le-leb (call_index records o) i b, le-leb i (return_index_of records o) e) refl

    -- "or to the last record for an open operation"
    pub line_open : (Returned (history_of records) o → ⊥) → (i : ℕ) → call_index records o ≤ i → i < length records → get_or (line_of records o) (17 + i) 0 ≡ hash
    line_open pending i b l = go (dec_lt (return_index_of records o) (length records))
      where
        go : Dec (return_index_of records o < length records) → get_or (line_of records o) (17 + i) 0 ≡ hash
        go (yes r) = absurd (pending ((position_returned records (return_index_of records o)).1 r))
        go (no r) = line_hash i b (omega arith) l

    -- "else a dot"
    pub line_dot : (i : ℕ) → (i < call_index records o) ⊎ (return_index_of records o < i) → i < length records → get_or (line_of records o) (17 + i) 0 ≡ dot
    line_dot i (inl b) l = line_column i l ∙ rw (lt-leb (call_index records o) i b) refl
    line_dot i (inr e) l = line_column i l ∙ column_late (call_index records o) e

    -- "Columns behind the last record are spaces."
    pub line_blank : (i : ℕ) → length records ≤ i → i < page_records → get_or (line_of records o) (17 + i) 0 ≡ space
    line_blank i l m = at_column i m
        ∙ left_blank page_records (columns (call_index records o) (return_index_of records o) (length records)) i (omega (arith, columns_length (call_index records o) (return_index_of records o) (length records))) m

    pub line_feed_lem : get_or (line_of records o) 80 0 ≡ line_feed
    line_feed_lem = from_third (number_field o) (label_field o) (column_field o) wide_number wide_label 63
        ∙ get_or_at (column_field o) line_feed [] 0 63 wide_columns

  -- "one line per operation"
  pub page_length : length (page_of records) ≡ operations records * line_bytes
  page_length = joined_length (line_of records) (operations records) line_bytes (λ o h. line_length h)

  -- "in number order"
  pub page_line : (o : ℕ) → o < operations records → take line_bytes (drop (o * line_bytes) (page_of records)) ≡ line_of records o
  page_line o h = joined_at (line_of records) (operations records) o (λ p l. line_length l) h

  -- so a page needs that much room, and is written where it is there
  pub page_room : (out : List ℕ) → page_answer (Log.readable records) out
      ≡ (if ltb (length out) (operations records * line_bytes) then refusing BufferTooShort 0 else Ok (operations records * line_bytes))
  page_room out = rw (le-ltb page_records (length records) short, page_length) refl

  -- "at most 63 records": so the most bytes of a page
  pub page_short : length (page_of records) ≤ page_max
  page_short = omega (arith, page_length, few_operations records)

  -- which are always enough
  pub page_enough : (out : List ℕ) → page_max ≤ length out → page_answer (Log.readable records) out ≡ Ok (operations records * line_bytes)
  page_enough out l = page_room out ∙ rw (le-ltb (length out) (operations records * line_bytes) (omega (arith, page_length, page_short))) refl
