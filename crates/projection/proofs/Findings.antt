-- From what the judge finds to the excerpt.
use Prim.Native.Nat.{ℕ, zero, suc, ◌+◌, ◌≤◌, ◌<◌}
use native.Mathlib.Omega.{arith}
use mathlib.Core.Path.{◌≡◌, refl, sym, ap, ◌∙◌}
use mathlib.Core.Bool.{Bool, true, false}
use mathlib.Core.Logic.{◌⊎◌, inl, inr}
use mathlib.Core.List.{List, [], ◌∷◌}
use lib.ListN.{length, get_or, take}
use lib.Seq.{length-take-le}
use Rattle.std.specs.Prelude.{Result, Option, Some, None}
use Rattle.std.specs.Option.{is_some}
use Rattle.buffer.specs.Buffer.{written}
use Rattle.buffer.specs.Output.{writing}
use Rattle.record.specs.Refusal.{refusing}
use Rattle.record.specs.declared.refusal.Refusal.TheVariants.{NoPattern, RemoveUnreturned}
use Rattle.record.specs.declared.refusal.Refused.{Refused}
use Rattle.reader.specs.Log.{max_records, read_log, encode_log, has_pending_remove}
use Rattle.history.specs.Object.{Queue}
use Rattle.history.specs.Each.{Each}
use Rattle.history.specs.History.{History, no_kind, RemovesReturned, Lawful}
use Rattle.history.specs.Operations.{history_of}
use Rattle.history.specs.Sheet.{order_verdict}
use Rattle.history.specs.Table.{kind_at, tabled, Agree, TableOf}
use Rattle.history.proofs.Along.{whole_readable}
use Rattle.history.proofs.Laws.{history_lawful, history_returned, history_none_pending}
use Rattle.violations.specs.Violations.{NoViolation}
use Rattle.violations.specs.Verdict.{FirstViolation, SomeViolation, CompleteVerdict}
use Rattle.violations.proofs.Laws.{first_violation, first_violation_one, occurs_known, excluded, judged_complete, complete_zero, complete_pattern, agree_complete_verdict}
use Rattle.matching.specs.Answers.{First, FirstIn}
use Rattle.matching.specs.Held.{Held}
use Rattle.matching.proofs.Firsts.{none_found}
use Rattle.matching.proofs.Holding.{agree_held}
use Rattle.judge.specs.Decision.{CompleteDecided}
use Rattle.projection.specs.Projection.{values_of, projection, excerpted}
use Rattle.projection.specs.Outcome.{excerpt_answer_of, excerpt_leaves_of, excerpt_answer, excerpt_leaves}
use Rattle.projection.specs.Marks.{entries_of}
use Rattle.projection.specs.Listed.{Listable}
use Rattle.projection.specs.Copies.{Writes}
use Rattle.projection.proofs.Answering.{count_small}

-- listed operations have the values of their entries
values_agree : (count end : ℕ) (table : List ℕ) (h : History) → Agree (tabled count end table) h → (listed : List ℕ) → Each (λ o. o < count) listed → values_of (entries_of table) listed ≡ values_of h listed
unfolding values_of
values_agree count end table h a [] known = refl
values_agree count end table h a (o ∷ listed) (l, known) = rw (a.kind o l, a.value o l, values_agree count end table h a listed known) refl

-- they are small numbers
known_small : {count : ℕ} → count ≤ max_records → (listed : List ℕ) → Each (λ o. o < count) listed → (i : ℕ) → i < length listed → get_or listed i 0 < max_records
known_small few [] known i l = absurd (omega arith)
known_small few (o ∷ listed) (k, known) zero l = omega arith
known_small few (o ∷ listed) (k, known) (suc i) l = known_small few listed known i (omega arith)

module _ {log : List ℕ} {n m : ℕ} {table : List ℕ} (of : TableOf log n m table) where
  -- the history of the log's records
  abbrev own : History
  own = history_of of.whole.records

  lawful : Lawful own
  lawful = history_lawful (whole_readable of.whole)

  -- the judge may be asked of the table
  pub held : Held (tabled m (n + 1) table)
  held = agree_held (whole_readable of.whole) of.agree

  -- a remove that has not returned is found in the table exactly if the log has one
  found_pending : {o : ℕ} → First (λ p. kind_at table p ≡ no_kind) m o → o < m → has_pending_remove of.whole.records ≡ true
  found_pending {o} first l = by (has_pending_remove of.whole.records) refl
    where
      by : (b : Bool) → has_pending_remove of.whole.records ≡ b → b ≡ true
      by true e = refl
      by false e =
          let kinded = history_returned (whole_readable of.whole) e o (omega (arith, of.agree.count)) in
          absurd (omega (arith, kinded, of.agree.kind o l, first.holds l))

  pub none_pending : (found : Option ℕ) → FirstIn (λ p. kind_at table p ≡ no_kind) m found → is_some found ≡ false → RemovesReturned (tabled m (n + 1) table)
  none_pending (Some o) first e = let z : ◌≡◌ {A = ℕ} 0 1 = cc in absurd (omega arith)
  none_pending None first e = λ p known. let unkinded : kind_at table p ≡ no_kind → ⊥ = none_found first refl p known in omega arith

  all_returned : RemovesReturned (tabled m (n + 1) table) → has_pending_remove of.whole.records ≡ false
  all_returned returned =
      history_none_pending (whole_readable of.whole)
      (λ o l. let known : o < m = omega (arith, of.agree.count) in omega (arith, returned o known, of.agree.kind o known))

  -- there is one
  pub pending_found : (found : Option ℕ) → FirstIn (λ p. kind_at table p ≡ no_kind) m found → is_some found ≡ true → (out : List ℕ)
      → (refusing RemoveUnreturned 0 ≡ excerpt_answer (read_log log) out) × (out ≡ excerpt_leaves (read_log log) out)
  pending_found (Some o) (l, first) e out = rw (of.whole.reads, found_pending first l) (refl, refl)
  pending_found None first e out = cc

  module _ (returned : RemovesReturned (tabled m (n + 1) table)) {verdict k : ℕ} {list : List ℕ} (decided : CompleteDecided (tabled m (n + 1) table) verdict k list) where
    -- the operations that it lists
    pub listed_length : k ≡ length (take k list)
    listed_length = sym (length-take-le k list (omega (arith, decided.within, decided.sized)))

    -- its verdict is right for the log's own history
    judged : CompleteVerdict Queue own verdict (take k list)
    judged = agree_complete_verdict Queue of.agree decided.verdict

    -- the verdict is an order
    pub order_found : verdict ≡ order_verdict → (out : List ℕ) → (refusing NoPattern 0 ≡ excerpt_answer (read_log log) out) × (out ≡ excerpt_leaves (read_log log) out)
    order_found e out = rw (of.whole.reads, all_returned returned) (go (first_violation Queue own))
      where
        go : (found : SomeViolation Queue own ⊎ NoViolation Queue own)
            → (refusing NoPattern 0 ≡ excerpt_answer_of of.whole.records found out) × (out ≡ excerpt_leaves_of of.whole.records found out)
        go (inl (number, listed, first)) = absurd (excluded lawful (judged_complete (complete_zero judged e)) first.occurs)
        go (inr clean) = (refl, refl)

    -- the verdict is a pattern
    module _ (some : verdict ≡ order_verdict → ⊥) where
      pattern : FirstViolation Queue own verdict (take k list)
      pattern = complete_pattern judged some

      -- its operations are in the table
      listed_known : Each (λ o. o < m) (take k list)
      listed_known = rw of.agree.count (occurs_known pattern.occurs)

      pub listed_listable : Listable (take k list)
      listed_listable = record { few = omega (arith, listed_length, decided.within); small = known_small (count_small of) (take k list) listed_known }

      -- and the excerpt is made from them
      pub pattern_found : {out out' : List ℕ} {r : Result ℕ Refused} → Writes log (λ records. projection records (take k list) (values_of (entries_of table) (take k list))) out r out'
          → (r ≡ excerpt_answer (read_log log) out) × (out' ≡ excerpt_leaves (read_log log) out)
      pattern_found {out} {out'} {r} writes = rw (of.whole.reads, all_returned returned) (go (first_violation Queue own))
        where
          same : {number : ℕ} (listed : List ℕ) → FirstViolation Queue own number listed
              → projection of.whole.records (take k list) (values_of (entries_of table) (take k list)) ≡ excerpted of.whole.records listed
          same listed first =
              rw (first_violation_one first pattern).1
              (ap (projection of.whole.records (take k list)) (values_agree m (n + 1) table own of.agree (take k list) listed_known))

          go : (found : SomeViolation Queue own ⊎ NoViolation Queue own)
              → (r ≡ excerpt_answer_of of.whole.records found out) × (out' ≡ excerpt_leaves_of of.whole.records found out)
          go (inl (number, listed, first)) = (
            writes.answers of.whole.records of.whole.reads ∙ ap (λ records. writing (encode_log records) out) (same listed first),
            writes.leaves of.whole.records of.whole.reads ∙ ap (λ records. written (encode_log records) out) (same listed first),
          )
          go (inr clean) = absurd (clean verdict (take k list) pattern.occurs)
