-- What the steps find is the first violation in the history in the table.
use Prim.Native.Nat.{ℕ, ◌-◌, ◌≤◌, ◌<◌}
use native.Mathlib.Omega.{arith}
use mathlib.Core.Path.{◌≡◌, ◌∙◌}
use mathlib.Core.Logic.{inl, inr}
use mathlib.Core.List.{List, [], ◌∷◌}
use lib.ListN.{length, take}
use lib.Seq.{sets, length-sets, sets-eq, take-append_seam}
use Rattle.reader.specs.Log.{max_records}
use Rattle.reader.specs.Search.{None}
use Rattle.history.specs.Object.{Queue}
use Rattle.history.specs.History.{History}
use Rattle.history.specs.Table.{tabled}
use Rattle.violations.specs.Violations.{NoViolation}
use Rattle.violations.specs.Verdict.{FirstViolation}
use Rattle.violations.specs.Search.{Single}
use Rattle.violations.proofs.Laws.{tables_match}
use Rattle.matching.specs.Held.{Held}
use Rattle.matching.specs.Answers.{First}
use Rattle.matching.specs.Matching.{Partners, partner_at}
use Rattle.matching.specs.Reaches.{ReachTable, Reaching}
use Rattle.patterns.specs.Signs.{Shows, Again}
use Rattle.patterns.specs.Blocked.{Blocks, Blocking}
use Rattle.patterns.specs.Chains.{FirstChained}
use Rattle.patterns.specs.Finding.{PatternListed, Clean, Unsigned, Signed, InTurn, Paired}
use Rattle.patterns.proofs.Signing.{unknown_first, twice_first, early_first, three_ruled_out, reaching}
use Rattle.patterns.proofs.Pairs.{stuck_first, overtaken_first, pairs_ruled_out}
use Rattle.patterns.proofs.FalseEmpties.{chained_first, chained_none}

-- numbers that are stored at the front of a list stand there
listed_first : (listed list : List ℕ) → length listed ≤ length list → take (length listed) (sets list 0 listed) ≡ listed
listed_first listed list fits = rw (sets-eq listed list 0 (omega arith)) (take-append_seam listed _)

-- a pattern whose operations are stored there is listed
listed_there : {h : History} {byte : ℕ} (listed list : List ℕ) → length list ≡ max_records → length listed ≤ max_records
    → FirstViolation Queue h byte listed → PatternListed h byte (length listed) (sets list 0 listed)
listed_there listed list sized few first = record {
  sized = length-sets list 0 listed ∙ sized;
  within = few;
  first = rw (listed_first listed list (omega arith)) first;
}

-- Patterns 1 to 3.
module _ {count end : ℕ} {table partner : List ℕ} (held : Held (tabled count end table)) (partners : Partners table count partner) (list : List ℕ) (sized : length list ≡ max_records) where
  abbrev h : History
  h = tabled count end table

  signed : {byte : ℕ} (listed : List ℕ) → 0 < byte → length listed ≤ max_records → FirstViolation Queue h byte listed
      → Signed h table partner byte (length listed) (sets list 0 listed)
  signed listed some few first = record { sized = length-sets list 0 listed ∙ sized; found = λ l. listed_there listed list sized few first; none = λ e. absurd (omega arith) }

  pub signed_unknown : {r : ℕ} → First (Shows table partner 1) count r → r < count → Signed h table partner 1 1 (sets list 0 (r ∷ []))
  signed_unknown {r} first l = signed (r ∷ []) (omega arith) (omega arith) (unknown_first held partners first l)

  pub signed_twice : {r s : ℕ} → None (Shows table partner 1) count → First (Shows table partner 2) count r → r < count → First (Again table partner r) count s → Signed h table partner 2 2 (sets list 0 (r ∷ s ∷ []))
  signed_twice {r} {s} known first l again = signed (r ∷ s ∷ []) (omega arith) (omega arith) (twice_first held partners known first l again).1

  pub signed_early : {r : ℕ} → None (Shows table partner 1) count → None (Shows table partner 2) count → First (Shows table partner 3) count r → r < count
      → Signed h table partner 3 2 (sets list 0 (r ∷ (partner_at partner r - 1) ∷ []))
  signed_early {r} known single first l = signed (r ∷ (partner_at partner r - 1) ∷ []) (omega arith) (omega arith) (early_first held partners known single first l)

module _ {count end : ℕ} {table partner : List ℕ} (held : Held (tabled count end table)) (partners : Partners table count partner) (unsigned : Unsigned table count partner) where
  clean_three : Clean (tabled count end table) 4
  clean_three = three_ruled_out held partners unsigned.known unsigned.single unsigned.timely

  pub reaches_right : {reach : List ℕ} → ReachTable count end table partner reach → Reaching (tabled count end table) reach
  reaches_right = reaching held partners unsigned.known unsigned.single

  module _ {reach : List ℕ} (right : Reaching (tabled count end table) reach) where
    pub single : Single (tabled count end table)
    single = (tables_match right.reaches (λ n listed l. clean_three n listed (omega arith))).single

    -- Patterns 4 and 5.
    paired : (list : List ℕ) → length list ≡ max_records → {pattern : ℕ} (listed : List ℕ) → 0 < length listed → length listed ≤ max_records
        → FirstViolation Queue (tabled count end table) pattern listed
        → Paired (tabled count end table) table partner reach pattern (length listed) (sets list 0 listed)
    paired list sized listed some few first = record { sized = length-sets list 0 listed ∙ sized; found = λ l. listed_there listed list sized few first; none = λ e. absurd (omega arith) }

    pub paired_stuck : (list : List ℕ) → length list ≡ max_records → {a b : ℕ} → First (Blocking table count partner reach 4) count a → a < count → First (Blocks table partner reach a) count b
        → Paired (tabled count end table) table partner reach 4 3 (sets list 0 (a ∷ b ∷ (partner_at partner b - 1) ∷ []))
    paired_stuck list sized {a} {b} first l blocked = paired list sized (a ∷ b ∷ (partner_at partner b - 1) ∷ []) (omega arith) (omega arith) (stuck_first held partners right clean_three first l blocked).1

    pub paired_overtaken : (list : List ℕ) → length list ≡ max_records → {a b : ℕ} → None (Blocking table count partner reach 4) count → First (Blocking table count partner reach 5) count a → a < count
        → First (Blocks table partner reach a) count b
        → Paired (tabled count end table) table partner reach 5 4 (sets list 0 (a ∷ b ∷ (partner_at partner b - 1) ∷ (partner_at partner a - 1) ∷ []))
    paired_overtaken list sized {a} {b} unstuck first l blocked =
        paired list sized (a ∷ b ∷ (partner_at partner b - 1) ∷ (partner_at partner a - 1) ∷ []) (omega arith) (omega arith) (overtaken_first held partners right clean_three unstuck first l blocked).1

    -- by the pattern that was looked for
    pub paired_stuck_at : (list : List ℕ) → length list ≡ max_records → {pattern a b : ℕ} → pattern ≡ 4 → First (Blocking table count partner reach pattern) count a → a < count → First (Blocks table partner reach a) count b
        → Paired (tabled count end table) table partner reach pattern 3 (sets list 0 (a ∷ b ∷ (partner_at partner b - 1) ∷ []))
    paired_stuck_at list sized e first l blocked = rw e (paired_stuck list sized (rw e at first) l blocked)

    pub paired_overtaken_at : (list : List ℕ) → length list ≡ max_records → {pattern a b : ℕ} → InTurn table count partner reach pattern → (pattern ≡ 4 → ⊥) → First (Blocking table count partner reach pattern) count a → a < count
        → First (Blocks table partner reach a) count b → Paired (tabled count end table) table partner reach pattern 4 (sets list 0 (a ∷ b ∷ (partner_at partner b - 1) ∷ (partner_at partner a - 1) ∷ []))
    paired_overtaken_at list sized (inl e) n first l blocked = absurd (n e)
    paired_overtaken_at list sized (inr (e, unstuck)) n first l blocked = rw e (paired_overtaken list sized unstuck (rw e at first) l blocked)

    -- Pattern 6, where nothing else is left.
    module _ (stuck : None (Blocking table count partner reach 4) count) (overtaken : None (Blocking table count partner reach 5) count) {k : ℕ} {list : List ℕ}
        (first : FirstChained (tabled count end table) k list) where
      clean_five : Clean (tabled count end table) 6
      clean_five = pairs_ruled_out held partners right clean_three stuck overtaken

      pub none_last : k ≡ 0 → NoViolation Queue (tabled count end table)
      none_last = chained_none clean_five first

      pub listed_last : 0 < k → PatternListed (tabled count end table) 6 k list
      listed_last some = record { sized = first.sized; within = first.within; first = chained_first clean_five first some }
