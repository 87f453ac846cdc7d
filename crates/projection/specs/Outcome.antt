-- What narrowing and the excerpt answer, and what they leave in the lent buffer. Document 01, "Turned down by how things stand": "then the input
-- list, 23, 24", with refusal 32 of document 02, change 4.
use Rattle.std.specs.Prelude.{ℕ, ◌⊎◌, List, Result, if◌then◌else◌}
use Rattle.std.proofs.Common.{inl, inr}
use Rattle.record.specs.Refusal.{refusing}
use Rattle.record.specs.declared.refusal.Refusal.TheVariants.{NoPattern, RemoveUnreturned}
use Rattle.record.specs.declared.refusal.Refused.{Refused}
use Rattle.record.specs.declared.record.Record.{Record}
use Rattle.buffer.specs.Buffer.{written}
use Rattle.buffer.specs.Output.{writing}
use Rattle.reader.specs.Log.{Reading, readable, refused, encode_log, has_pending_remove}
use Rattle.history.specs.Object.{Queue}
use Rattle.history.specs.Operations.{history_of}
use Rattle.violations.specs.Violations.{NoViolation}
use Rattle.violations.specs.Verdict.{SomeViolation}
use Rattle.violations.proofs.Laws.{first_violation}
use Rattle.projection.specs.Projection.{narrowed, excerpted}

-- narrowing of a log, as it was read: the log's refusal, or the narrowed log is written
abbrev pub narrow_answer : Reading → List ℕ → List ℕ → Result ℕ Refused
narrow_answer (refused refusal index) values out = refusing refusal index
narrow_answer (readable records) values out = writing (encode_log (narrowed records values)) out

abbrev pub narrow_leaves : Reading → List ℕ → List ℕ → List ℕ
narrow_leaves (refused refusal index) values out = out
narrow_leaves (readable records) values out = written (encode_log (narrowed records values)) out

-- the excerpt of a log without an open remove: 23 if no pattern occurs ("excerpt where the verdict is an order"), or the excerpt of the first pattern is
-- written
abbrev pub excerpt_answer_of : (records : List Record)
    → SomeViolation Queue (history_of records) ⊎ NoViolation Queue (history_of records) → List ℕ → Result ℕ Refused
excerpt_answer_of records (inl (number, listed, first)) out = writing (encode_log (excerpted records listed)) out
excerpt_answer_of records (inr clean) out = refusing NoPattern 0

abbrev pub excerpt_leaves_of : (records : List Record)
    → SomeViolation Queue (history_of records) ⊎ NoViolation Queue (history_of records) → List ℕ → List ℕ
excerpt_leaves_of records (inl (number, listed, first)) out = written (encode_log (excerpted records listed)) out
excerpt_leaves_of records (inr clean) out = out

-- the excerpt of a log, as it was read: the log's refusal, 32 ("It refuses with 32 an excerpt of a log with an open remove, before 23."), or what is
-- said above
abbrev pub excerpt_answer : Reading → List ℕ → Result ℕ Refused
excerpt_answer (refused refusal index) out = refusing refusal index
excerpt_answer (readable records) out =
    if has_pending_remove records then refusing RemoveUnreturned 0 else excerpt_answer_of records (first_violation Queue (history_of records)) out

abbrev pub excerpt_leaves : Reading → List ℕ → List ℕ
excerpt_leaves (refused refusal index) out = out
excerpt_leaves (readable records) out =
    if has_pending_remove records then out else excerpt_leaves_of records (first_violation Queue (history_of records)) out
