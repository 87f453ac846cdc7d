-- Document 01, "Runs", drawn as pages: first all that have a verdict there, in the document's order, then some with value 0, with longer
-- values and with operation numbers of two digits, and last some with a remove that does not return. What a run and a row are is said in
-- the crate history.
use Rattle.std.specs.Prelude.{ℕ, ◌≡◌, List, [], ◌∷◌, ◌++◌}
use Prim.Native.String.{String}
use Rattle.record.specs.declared.record.Removed.TheVariants.{Value, Empty}
use Rattle.record.specs.declared.record.Event.TheVariants.{CallAdd, CallRemove, ReturnAdd, ReturnRemove}
use Rattle.text.specs.Text.{ascii, line_feed}
use Rattle.reader.specs.Log.{readable, read_log, encode_log}
use Rattle.history.specs.Runs.{records_of, Row}
use Rattle.timeline.specs.Page.{left_aligned, page_of}

-- lines of 80 characters, given without the spaces at their ends
unfoldable pub lines_of : List String → List ℕ
lines_of [] = []
lines_of (line ∷ lines) = left_aligned 80 (ascii line) ++ (line_feed ∷ lines_of lines)

-- The log of a run is read, and has the page that the row shows.
pub record Drawn (row : Row (List String)) : Type 0 where
  pub read : read_log (encode_log (records_of row.run)) ≡ readable (records_of row.run)
  pub page : page_of (records_of row.run) ≡ lines_of row.says

abbrev pub pages : List (Row (List String))
pages =
    -- no records
    record { run = []; says = [] } ∷
    -- A7( A7) R( R7)
    record {
      run = (0, CallAdd 7) ∷ (0, ReturnAdd) ∷ (1, CallRemove) ∷ (1, ReturnRemove (Value 7)) ∷ [];
      says =
          "   0 A7          ##.." ∷
          "   1 R7          ..##" ∷
          [];
    } ∷
    -- R( A7( R7) A7)
    record {
      run = (0, CallRemove) ∷ (1, CallAdd 7) ∷ (0, ReturnRemove (Value 7)) ∷ (1, ReturnAdd) ∷ [];
      says =
          "   0 R7          ###." ∷
          "   1 A7          .###" ∷
          [];
    } ∷
    -- R( R7) A7( A7)
    record {
      run = (0, CallRemove) ∷ (0, ReturnRemove (Value 7)) ∷ (1, CallAdd 7) ∷ (1, ReturnAdd) ∷ [];
      says =
          "   0 R7          ##.." ∷
          "   1 A7          ..##" ∷
          [];
    } ∷
    -- A7( R( R7): the add is open
    record {
      run = (0, CallAdd 7) ∷ (1, CallRemove) ∷ (1, ReturnRemove (Value 7)) ∷ [];
      says =
          "   0 A7          ###" ∷
          "   1 R7          .##" ∷
          [];
    } ∷
    -- A7( R( R-)
    record {
      run = (0, CallAdd 7) ∷ (1, CallRemove) ∷ (1, ReturnRemove Empty) ∷ [];
      says =
          "   0 A7          ###" ∷
          "   1 E           .##" ∷
          [];
    } ∷
    -- A1( A1) A2( A2) R( R2)
    record {
      run = (0, CallAdd 1) ∷ (0, ReturnAdd) ∷ (1, CallAdd 2) ∷ (1, ReturnAdd) ∷ (2, CallRemove) ∷ (2, ReturnRemove (Value 2)) ∷ [];
      says =
          "   0 A1          ##...." ∷
          "   1 A2          ..##.." ∷
          "   2 R2          ....##" ∷
          [];
    } ∷
    -- A1( A2( A1) A2) R( R2)
    record {
      run = (0, CallAdd 1) ∷ (1, CallAdd 2) ∷ (0, ReturnAdd) ∷ (1, ReturnAdd) ∷ (2, CallRemove) ∷ (2, ReturnRemove (Value 2)) ∷ [];
      says =
          "   0 A1          ###..." ∷
          "   1 A2          .###.." ∷
          "   2 R2          ....##" ∷
          [];
    } ∷
    -- A1( A1) A2( A2) R( R2) R( R1)
    record {
      run =
          (0, CallAdd 1) ∷ (0, ReturnAdd) ∷ (1, CallAdd 2) ∷ (1, ReturnAdd) ∷ (2, CallRemove) ∷ (2, ReturnRemove (Value 2)) ∷
          (3, CallRemove) ∷ (3, ReturnRemove (Value 1)) ∷ [];
      says =
          "   0 A1          ##......" ∷
          "   1 A2          ..##...." ∷
          "   2 R2          ....##.." ∷
          "   3 R1          ......##" ∷
          [];
    } ∷
    -- A1( A1) A2( A2) Ra( Rb( Ra2) Rb1)
    record {
      run =
          (0, CallAdd 1) ∷ (0, ReturnAdd) ∷ (1, CallAdd 2) ∷ (1, ReturnAdd) ∷ (2, CallRemove) ∷ (3, CallRemove) ∷
          (2, ReturnRemove (Value 2)) ∷ (3, ReturnRemove (Value 1)) ∷ [];
      says =
          "   0 A1          ##......" ∷
          "   1 A2          ..##...." ∷
          "   2 R2          ....###." ∷
          "   3 R1          .....###" ∷
          [];
    } ∷
    -- A1( A1) Ra( A2( A2) Rb( Rb1) Ra-) R( R2)
    record {
      run =
          (0, CallAdd 1) ∷ (0, ReturnAdd) ∷ (1, CallRemove) ∷ (2, CallAdd 2) ∷ (2, ReturnAdd) ∷ (3, CallRemove) ∷
          (3, ReturnRemove (Value 1)) ∷ (1, ReturnRemove Empty) ∷ (4, CallRemove) ∷ (4, ReturnRemove (Value 2)) ∷ [];
      says =
          "   0 A1          ##........" ∷
          "   1 E           ..######.." ∷
          "   2 A2          ...##....." ∷
          "   3 R1          .....##..." ∷
          "   4 R2          ........##" ∷
          [];
    } ∷
    -- A1( A1) Ra( A2( Rb( A2) Rb1) Ra-) R( R2)
    record {
      run =
          (0, CallAdd 1) ∷ (0, ReturnAdd) ∷ (1, CallRemove) ∷ (2, CallAdd 2) ∷ (3, CallRemove) ∷ (2, ReturnAdd) ∷
          (3, ReturnRemove (Value 1)) ∷ (1, ReturnRemove Empty) ∷ (4, CallRemove) ∷ (4, ReturnRemove (Value 2)) ∷ [];
      says =
          "   0 A1          ##........" ∷
          "   1 E           ..######.." ∷
          "   2 A2          ...###...." ∷
          "   3 R1          ....###..." ∷
          "   4 R2          ........##" ∷
          [];
    } ∷
    -- A0( A0) R( R-)
    record {
      run = (0, CallAdd 0) ∷ (0, ReturnAdd) ∷ (1, CallRemove) ∷ (1, ReturnRemove Empty) ∷ [];
      says =
          "   0 A0          ##.." ∷
          "   1 E           ..##" ∷
          [];
    } ∷
    -- R( R9)
    record {
      run = (0, CallRemove) ∷ (0, ReturnRemove (Value 9)) ∷ [];
      says =
          "   0 R9          ##" ∷
          [];
    } ∷
    -- A7( A7) R( R7) R( R7)
    record {
      run =
          (0, CallAdd 7) ∷ (0, ReturnAdd) ∷ (1, CallRemove) ∷ (1, ReturnRemove (Value 7)) ∷ (2, CallRemove) ∷
          (2, ReturnRemove (Value 7)) ∷ [];
      says =
          "   0 A7          ##...." ∷
          "   1 R7          ..##.." ∷
          "   2 R7          ....##" ∷
          [];
    } ∷
    -- A0( A0) R( R0): value 0 is not "empty"
    record {
      run = (0, CallAdd 0) ∷ (0, ReturnAdd) ∷ (1, CallRemove) ∷ (1, ReturnRemove (Value 0)) ∷ [];
      says =
          "   0 A0          ##.." ∷
          "   1 R0          ..##" ∷
          [];
    } ∷
    -- A1024( R( R1024) A10(
    record {
      run = (0, CallAdd 1024) ∷ (1, CallRemove) ∷ (1, ReturnRemove (Value 1024)) ∷ (2, CallAdd 10) ∷ [];
      says =
          "   0 A1024       ####" ∷
          "   1 R1024       .##." ∷
          "   2 A10         ...#" ∷
          [];
    } ∷
    -- eleven open adds
    record {
      run =
          (0, CallAdd 0) ∷ (1, CallAdd 1) ∷ (2, CallAdd 2) ∷ (3, CallAdd 3) ∷ (4, CallAdd 4) ∷ (5, CallAdd 5) ∷ (6, CallAdd 6) ∷
          (7, CallAdd 7) ∷ (8, CallAdd 8) ∷ (9, CallAdd 9) ∷ (10, CallAdd 10) ∷ [];
      says =
          "   0 A0          ###########" ∷
          "   1 A1          .##########" ∷
          "   2 A2          ..#########" ∷
          "   3 A3          ...########" ∷
          "   4 A4          ....#######" ∷
          "   5 A5          .....######" ∷
          "   6 A6          ......#####" ∷
          "   7 A7          .......####" ∷
          "   8 A8          ........###" ∷
          "   9 A9          .........##" ∷
          "  10 A10         ..........#" ∷
          [];
    } ∷
    -- R(: "The page shows a lone R" (document 02, change 4); its span runs to the last record
    record {
      run = (0, CallRemove) ∷ [];
      says =
          "   0 R           #" ∷
          [];
    } ∷
    -- A7( A7) R(
    record {
      run = (0, CallAdd 7) ∷ (0, ReturnAdd) ∷ (1, CallRemove) ∷ [];
      says =
          "   0 A7          ##." ∷
          "   1 R           ..#" ∷
          [];
    } ∷
    -- Ra( A0( A0) Rb( Rb0): Ra has no value, and Rb has 0
    record {
      run = (0, CallRemove) ∷ (1, CallAdd 0) ∷ (1, ReturnAdd) ∷ (2, CallRemove) ∷ (2, ReturnRemove (Value 0)) ∷ [];
      says =
          "   0 R           #####" ∷
          "   1 A0          .##.." ∷
          "   2 R0          ...##" ∷
          [];
    } ∷
    []
