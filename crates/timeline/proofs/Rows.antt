-- The runs of the table have the pages that are shown for them, by computing.
use Prim.Native.Nat.{ℕ}
use Prim.Native.String.{String}
use mathlib.Core.Path.{◌≡◌, refl}
use mathlib.Core.List.{List, [], ◌∷◌, map}
use lib.ListN.{replicate}
use Rattle.record.specs.declared.record.Event.TheVariants.{CallAdd}
use Rattle.record.specs.declared.record.Record.{Record}
use Rattle.std.specs.Prelude.{Ok, Err}
use Rattle.text.specs.Text.{digits}
use Rattle.reader.specs.Log.{readable, operations}
use Rattle.history.specs.Each.{Each}
use Rattle.history.specs.Operations.{call_index, first_of}
use Rattle.history.specs.Runs.{records_from, records_of, Row}
use Rattle.history.proofs.Rows.{reading}
use Rattle.timeline.specs.Page.{joined, page_of, page_answer}
use Rattle.timeline.specs.Runs.{lines_of, Drawn, pages}

rows_drawn : (rows : List (Row (List String))) → map reading rows ≡ map (λ row. readable (records_of row.run)) rows
    → map (λ row. page_of (records_of row.run)) rows ≡ map (λ row. lines_of row.says) rows → Each Drawn rows
unfolding reading
rows_drawn [] read page = tt
rows_drawn (row ∷ rows) read page = (record { read = cc; page = cc }, rows_drawn rows (cc) (cc))

pub pages_drawn : Each Drawn pages
unfolding reading records_from operations call_index first_of digits joined lines_of
pages_drawn = rows_drawn pages refl refl

-- What is answered for 64 records, for 63 and for none, where the buffer has no bytes: the numbers of document 02, computed. `page_too_long`
-- and `page_room` say it of all records and buffers.
abbrev records : ℕ → List Record
records n = replicate n (record { client = 0; tick = 0; event = CallAdd 0 })

pub answer_of_64 : page_answer (readable (records 64)) [] ≡ Err (record { number = 30; index = 0 })
answer_of_64 = refl

pub answer_of_63 : page_answer (readable (records 63)) [] ≡ Err (record { number = 24; index = 0 })
unfolding operations call_index first_of digits joined
answer_of_63 = refl

pub answer_of_none : page_answer (readable (records 0)) [] ≡ Ok 0
unfolding operations joined
answer_of_none = refl
