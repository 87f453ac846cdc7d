-- The first line, by the answer of a check.
use mathlib.Core.Path.{◌≡◌, refl, sym, ◌∙◌}
use mathlib.Core.List.{[]}
use Rattle.std.specs.Prelude.{Result, Ok, Err}
use Rattle.record.specs.declared.refusal.Refused.{Refused}
use Rattle.reader.specs.Log.{Reading, checked}
use Rattle.reader.specs.declared.log.Counts.{Counts}
use Rattle.reader.proofs.Laws.{checked_readable, where_refused}
use Rattle.judge_cli.specs.Report.{counts_line}
use Rattle.judge_cli.specs.Writing.{counts_of}

pub counts_readable : (reading : Reading) {answer : Result Counts Refused} {counts : Counts} → answer ≡ checked reading → answer ≡ Ok counts → counts_of reading ≡ counts_line counts.records counts.operations
counts_readable reading e f = let (records, reads, counted, called) = checked_readable reading (sym e ∙ f) in rw reads (rw (counted, called) refl)

pub counts_refused : (reading : Reading) {answer : Result Counts Refused} {r : Refused} → answer ≡ checked reading → answer ≡ Err r → counts_of reading ≡ []
counts_refused reading e f = where_refused reading (sym e ∙ f) (λ reading r. counts_of reading ≡ []) (λ refusal index. refl)
