-- Every readable log has an archive: its verdict fits on a sheet that is as long as it, and the excerpt into a buffer that is as long as it.
use Prim.Native.Nat.{ℕ}
use native.Mathlib.Omega.{arith}
use mathlib.Core.Path.{◌≡◌, refl, sym, ◌∙◌}
use mathlib.Core.Bool.{Bool, true, false}
use mathlib.Core.Logic.{◌⊎◌, inl, inr}
use mathlib.Core.List.{List}
use lib.ListN.{length}
use borrow.Author.Tests.{le-ltb}
use Rattle.std.specs.Prelude.{Option, Some, None, Ok}
use Rattle.record.specs.declared.record.Record.{Record}
use Rattle.buffer.specs.Buffer.{written}
use Rattle.reader.specs.Log.{readable, read_log, encode_log, has_pending_remove}
use Rattle.reader.proofs.Laws.{readable_log}
use Rattle.history.specs.Object.{Queue}
use Rattle.history.specs.Operations.{history_of}
use Rattle.history.specs.Sheet.{order_verdict, sheet_of}
use Rattle.history.proofs.Laws.{history_lawful, history_lone}
use Rattle.violations.specs.Violations.{NoViolation}
use Rattle.violations.specs.Verdict.{SomeViolation}
use Rattle.violations.specs.Verdict as violations
use Rattle.violations.specs.Found.{FoundSettled}
use Rattle.violations.proofs.Laws.{first_violation, first_violation_one, occurs_numbered, found_verdict}
use Rattle.patterns.specs.Pattern.{number_of}
use Rattle.patterns.specs.declared.pattern.Pattern as patterns
use Rattle.patterns.proofs.Numbered.{named}
use Rattle.judge.specs.Judge.{byte_by, verdict_of, Delivers, Judges, judged}
use Rattle.judge.specs.declared.judge.Verdict.TheVariants.{Pattern}
use Rattle.projection.specs.Projection.{excerpted}
use Rattle.projection.specs.Outcome.{excerpt_answer_of, excerpt_answer}
use Rattle.archive.specs.Archive.{Archive, with_order, with_pattern, sheet_alone}

module _ (log : List ℕ) (records : List Record) (reads : read_log log ≡ readable records) where
  -- a verdict is judged into a sheet that is as long as its own
  judges_own : (found : Option patterns.Pattern) {listed : List ℕ} → violations.Verdict Queue (history_of records) (byte_by found) listed
      → (byte_by found ≡ order_verdict → FoundSettled (history_of records) listed)
      → (left : List ℕ) × Judges (read_log log) (sheet_of (byte_by found) listed) (verdict_of found (length listed)) left
  judges_own found {listed} v chosen =
      let byte = byte_by found in
      let fits = le-ltb (length (sheet_of byte listed)) (length (sheet_of byte listed)) (omega arith) in
      let delivers : Delivers found listed (sheet_of byte listed) (verdict_of found (length listed)) (written (sheet_of byte listed) (sheet_of byte listed)) =
      record { answers = rw fits refl; leaves = refl } in
      let own : Judges (readable records) (sheet_of byte listed) (verdict_of found (length listed)) (written (sheet_of byte listed) (sheet_of byte listed)) =
      judged (record { found = found; listed = listed; verdict = v; chosen = chosen; delivers = delivers }) in
      (written (sheet_of byte listed) (sheet_of byte listed), rw reads own)

  -- the excerpt fits into a buffer that is as long as it
  excerpt_own : {n : ℕ} {listed : List ℕ} → violations.FirstViolation Queue (history_of records) n listed
      → (found : SomeViolation Queue (history_of records) ⊎ NoViolation Queue (history_of records))
      → excerpt_answer_of records found (encode_log (excerpted records listed)) ≡ Ok (length (encode_log (excerpted records listed)))
  excerpt_own {n} {listed} first (inr clean) = absurd (clean n listed first.occurs)
  excerpt_own {n} {listed} first (inl (m, other, found)) =
      let bytes = encode_log (excerpted records other) in
      rw ((first_violation_one first found).1, le-ltb (length bytes) (length bytes) (omega arith)) refl

  pub archive_exists : (sheet : List ℕ) × (excerpt : List ℕ) × Archive log sheet excerpt
  archive_exists =
      let read = readable_log log records reads in
      let (byte, listed, v, chosen) = found_verdict (history_lawful read) (history_lone read) in
      go v chosen
    where
      go : {byte : ℕ} {listed : List ℕ} → violations.Verdict Queue (history_of records) byte listed → (byte ≡ order_verdict → FoundSettled (history_of records) listed)
          → (sheet : List ℕ) × (excerpt : List ℕ) × Archive log sheet excerpt
      go (violations.Verdict.linearization s x) chosen = let (left, j) = judges_own None (violations.Verdict.linearization s x) chosen in (_, _, with_order j)
      go {byte} {listed} (violations.Verdict.violation x none) chosen =
          let (low, high) = occurs_numbered x.occurs in
          let pattern = named byte low high in
          shown pattern.0 pattern.1 (violations.Verdict.violation x none)
        where
          by : {sheet left : List ℕ} {number k : ℕ} → Judges (read_log log) sheet (Pattern number k) left → (b : Bool) → has_pending_remove records ≡ b
              → (sheet : List ℕ) × (excerpt : List ℕ) × Archive log sheet excerpt
          by j true pending = (_, _, sheet_alone j reads pending)
          by j false returned =
              let bytes = encode_log (excerpted records listed) in
              let wrote : excerpt_answer (read_log log) bytes ≡ Ok (length bytes) = rw (reads, returned) (excerpt_own x (first_violation Queue (history_of records))) in
              (_, _, with_pattern j bytes wrote)

          shown : (p : patterns.Pattern) → number_of p ≡ byte → violations.Verdict Queue (history_of records) byte listed → (sheet : List ℕ) × (excerpt : List ℕ) × Archive log sheet excerpt
          shown p is v = let (left, j) = judges_own (Some p) (rw is v) (λ e. chosen (sym is ∙ e)) in by j (has_pending_remove records) refl
