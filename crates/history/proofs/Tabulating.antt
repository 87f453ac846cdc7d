-- What is known of a log whose operations were tabulated: its records, and that the table agrees with their history.
use Prim.Native.Nat.{ℕ, ◌+◌, ◌≤◌}
use native.Mathlib.Omega.{arith}
use mathlib.Core.Path.{◌≡◌, sym, ap, ◌∙◌}
use mathlib.Core.List.{List}
use lib.ListN.{length}
use Rattle.std.specs.Prelude.{Result, Ok}
use Rattle.record.specs.declared.record.Record.{Record}
use Rattle.reader.specs.Log.{max_records, readable, read_log, checked, operations}
use Rattle.reader.specs.Readable.{Within}
use Rattle.reader.specs.declared.log.Counts.{Counts}
use Rattle.record.specs.declared.refusal.Refused.{Refused}
use Rattle.reader.proofs.Laws.{within, checked_readable, few_operations}
use Rattle.history.specs.History.{History}
use Rattle.history.specs.Operations.{history_of}
use Rattle.history.specs.Table.{table_length, tabled, Agree, Tabulated, TableOf}

pub record Tabled (log : List ℕ) (count size : ℕ) (table : List ℕ) : Type 0 where
  pub records : List Record
  pub reads : read_log log ≡ readable records
  pub counted : operations records ≡ count
  pub ended : length records ≡ size
  pub few : count ≤ max_records
  pub short : size ≤ max_records
  pub sized : length table ≡ table_length
  pub agree : Agree (tabled count (size + 1) table) (history_of records)

tabled_same : (table : List ℕ) (h : History) {count m end n : ℕ} → count ≡ m → end ≡ n → Agree (tabled count end table) h → Agree (tabled m n table) h
tabled_same table h o l agree = rw (← o, ← l) agree

-- a log that is checked and found readable is tabulated
pub log_tabled : (log : List ℕ) {answer : Result Counts Refused} {counts : Counts} → answer ≡ checked (read_log log) → answer ≡ Ok counts → (before table : List ℕ) → Tabulated (read_log log) before table
    → Tabled log counts.operations counts.records table
log_tabled log e f before table tabulated =
    let (records, reads, ended, counted) = checked_readable (read_log log) (sym e ∙ f) in
    let small : Within (readable records) = rw reads at (within log) in
    let held : Tabulated (readable records) before table = rw reads at tabulated in
    record {
      records = records;
      reads = reads;
      counted = counted;
      ended = ended;
      few = omega (arith, few_operations records);
      short = omega arith;
      sized = held.sized;
      agree = tabled_same table (history_of records) counted (ap (λ n. n + 1) ended) held.agree;
    }

-- the same as contracts say it
pub table_of : {log : List ℕ} {answer : Result Counts Refused} {counts : Counts} (before : List ℕ) {table : List ℕ} → answer ≡ checked (read_log log) → answer ≡ Ok counts → Tabulated (read_log log) before table
    → TableOf log counts.records counts.operations table
table_of {log} before {table} e f tabulated =
    let t = log_tabled log e f before table tabulated in
    record { whole = record { records = t.records; reads = t.reads; counted = t.ended }; counted = t.counted; agree = t.agree }
