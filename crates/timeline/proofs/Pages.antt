-- From the tables to the page, and to the answer.
use Prim.Native.Nat.{ℕ, ◌+◌, ◌*◌, ◌≤◌, ◌<◌}
use native.Mathlib.Omega.{arith}
use native.Mathlib.Decide.{dec_lt}
use mathlib.Core.Path.{◌≡◌, refl, sym, ap, ◌∙◌}
use mathlib.Core.Bool.{false}
use mathlib.Core.List.{List, ◌++◌}
use lib.ListN.{length, get_or}
use lib.Dec.{ltb}
use borrow.Author.Tests.{lt-ltb, le-ltb}
use Rattle.record.specs.Number.{Bytes}
use Rattle.record.specs.declared.record.Record.{Record}
use Rattle.std.specs.Prelude.{Result, Ok, Err}
use Rattle.record.specs.Refusal.{refusing}
use Rattle.record.specs.declared.refusal.Refusal.TheVariants.{PageTooLong, BufferTooShort}
use Rattle.record.specs.declared.refusal.Refused.{Refused}
use Rattle.buffer.proofs.Copying.{put_written}
use Rattle.text.specs.Text.{Puts}
use Rattle.reader.specs.Log.{read_log, checked, operations}
use Rattle.reader.specs.declared.log.Counts.{Counts}
use Rattle.reader.specs.Readable.{ReadableLog}
use Rattle.reader.proofs.Laws.{where_refused, few_operations}
use Rattle.history.specs.Operations.{call_index, history_of}
use Rattle.history.specs.Table.{kind_at, value_at, TableOf}
use Rattle.history.proofs.Along.{whole_readable}
use Rattle.history.proofs.Numbering.{call_of_lem, return_behind}
use Rattle.timeline.specs.Page.{page_records, line_bytes, return_index_of, line_of, page_of, page_answer, page_leaves}
use Rattle.timeline.specs.Spans.{end_by, Spanned, SpansAre, Drawable, left_part, right_part, lines_in}
use Rattle.timeline.proofs.Lines.{joined_same, columns_runs, line_parts}
use Rattle.timeline.proofs.Laws.{page_too_long, page_length}

-- Where the span of an operation lies: within the columns, from the call to the return or to the end.
record SpanLies (call return end n : ℕ) : Type 0 where
  begun : call ≤ end
  ended : end ≤ return + 1
  within : end ≤ n
  last : (i : ℕ) → end ≤ i → i < n → return < i

span_lies : (records : List Record) (o : ℕ) → o < operations records
    → SpanLies (call_index records o) (return_index_of records o) (end_by records (length records) o) (length records)
span_lies records o h = go (dec_lt (return_index_of records o) (length records))
  where
    go : Dec (return_index_of records o < length records)
        → SpanLies (call_index records o) (return_index_of records o) (end_by records (length records) o) (length records)
    go (yes l) = rw (lt-ltb _ _ l) (record {
      begun = omega (arith, return_behind records (call_index records o));
      ended = omega arith;
      within = omega arith;
      last = λ i m k. omega arith;
    })
    go (no l) = rw (le-ltb (return_index_of records o) (length records) (omega arith)) (record {
      begun = omega (arith, (call_of_lem records o h).below);
      ended = omega arith;
      within = omega arith;
      last = λ i m k. absurd (omega arith);
    })

-- a log that is refused has no page
pub log_refused : (log out : List ℕ) {answer : Result Counts Refused} {r : Refused} → answer ≡ checked (read_log log) → answer ≡ Err r
    → (Err r ≡ page_answer (read_log log) out) × (out ≡ page_leaves (read_log log) out)
log_refused log out e f = where_refused (read_log log) (sym e ∙ f) (λ reading r. (Err r ≡ page_answer reading out) × (out ≡ page_leaves reading out)) (λ refusal index. (refl, refl))

-- a log that is readable, and the table of its operations
module _ {log : List ℕ} {n m : ℕ} {table : List ℕ} (known : TableOf log n m table) where
  readable_one : ReadableLog log known.whole.records
  readable_one = whole_readable known.whole

  pub few : m ≤ n
  few = omega (arith, few_operations known.whole.records, known.whole.counted, known.counted)

  -- a log that is too long has no page
  pub page_refused : (out : List ℕ) → page_records < n → (refusing PageTooLong 0 ≡ page_answer (read_log log) out) × (out ≡ page_leaves (read_log log) out)
  page_refused out l =
      let refused = page_too_long known.whole.records (omega (arith, known.whole.counted)) out in
      rw known.whole.reads (sym refused.0, sym refused.1)

  module _ (short : n ≤ page_records) (bytes : Bytes log) (out : List ℕ) where
    long : length (page_of known.whole.records) ≡ m * line_bytes
    long = page_length readable_one bytes (omega (arith, known.whole.counted)) ∙ ap (λ k. k * line_bytes) known.counted

    in_page : ltb page_records (length known.whole.records) ≡ false
    in_page = le-ltb page_records (length known.whole.records) (omega (arith, known.whole.counted))

    -- nor is a page written into a buffer that is too short
    pub page_lacks_room : length out < m * line_bytes → (refusing BufferTooShort 0 ≡ page_answer (read_log log) out) × (out ≡ page_leaves (read_log log) out)
    page_lacks_room l = rw (known.whole.reads, in_page, lt-ltb (length out) (length (page_of known.whole.records)) (omega (arith, long))) (refl, refl)

    -- what is put at the front of one that is long enough is the answer
    pub page_written : m * line_bytes ≤ length out → {next : ℕ} {out' : List ℕ} → Puts (page_of known.whole.records) 0 out next out'
        → (Ok next ≡ page_answer (read_log log) out) × (out' ≡ page_leaves (read_log log) out)
    page_written l {next} puts =
        let room : length (page_of known.whole.records) ≤ length out = omega (arith, long) in
        let all : next ≡ length (page_of known.whole.records) = omega (arith, puts.ends) in (
          rw (known.whole.reads, in_page, le-ltb (length out) (length (page_of known.whole.records)) room, all) refl,
          rw (known.whole.reads, in_page) (puts.holds ∙ put_written (page_of known.whole.records) out room),
        )

  -- where the noted spans lie
  module _ {starts ends : List ℕ} (spans : SpansAre log starts ends) where
    spanned : Spanned known.whole.records (length known.whole.records) (operations known.whole.records) starts ends
    spanned = spans.spanned known.whole.records known.whole.reads

    lies : (o : ℕ) → o < operations known.whole.records
        → SpanLies (call_index known.whole.records o) (return_index_of known.whole.records o) (get_or ends o 0) (length known.whole.records)
    lies o h = rw (spanned.ends_are o h) (span_lies known.whole.records o h)

    pub drawable : n ≤ page_records → Drawable starts ends n m
    drawable short = record {
      short = short;
      few = few;
      begin = λ o l. let h = inside o l in omega (arith, spanned.starts_are o h, (lies o h).begun);
      within = λ o l. omega (arith, (lies o (inside o l)).within, known.whole.counted);
    }
      where
        inside : (o : ℕ) → o < m → o < operations known.whole.records
        inside o l = omega (arith, known.counted)

    -- the lines are those of the tables
    line_is : (o : ℕ) → o < operations known.whole.records
        → left_part o (kind_at table o) (value_at table o) ++ right_part (get_or starts o 0) (get_or ends o 0) (length known.whole.records) ≡ line_of known.whole.records o
    line_is o h =
        let call = call_index known.whole.records o in
        let return = return_index_of known.whole.records o in
        let l = lies o h in
        let drawn = columns_runs call return (get_or ends o 0) (length known.whole.records) l.begun l.ended l.within l.last in
        let entered : o < m = omega (arith, known.counted) in
        rw (known.agree.kind o entered, known.agree.value o entered, spanned.starts_are o h)
        (line_parts o ((history_of known.whole.records).kind o) ((history_of known.whole.records).value o) call return (get_or ends o 0) (length known.whole.records) drawn)

    pub lines_are : lines_in table starts ends n m ≡ page_of known.whole.records
    lines_are = rw (← known.whole.counted, ← known.counted) (joined_same _ _ (operations known.whole.records) line_is)
