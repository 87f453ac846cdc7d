-- The records of kept operations are those that are chosen, or picked, by their operations. A call and its return are so together.
use Prim.Native.Nat.{ℕ, zero, suc, ◌≤◌, ◌<◌}
use native.Mathlib.Omega.{arith}
use mathlib.Core.Path.{◌≡◌, refl, sym, ap, ◌∙◌}
use mathlib.Core.Bool.{Bool, true, false}
use mathlib.Core.List.{List, [], ◌∷◌, ◌++◌, append_assoc, append-nil}
use lib.ListN.{length, take}
use Rattle.std.proofs.lemmas.List.{get_or-take}
use Rattle.std.specs.Prelude.{if◌then◌else◌}
use Rattle.record.specs.declared.record.Record.{Record}
use Rattle.reader.specs.Log.{readable, read_log}
use Rattle.reader.specs.Readable.{Orderly}
use Rattle.history.specs.Operations.{operation_of, operation_from, operation_at}
use Rattle.history.specs.Table.{Whole}
use Rattle.history.proofs.Along.{whole_readable, whole_one}
use Rattle.history.proofs.Owning.{operation_called, operation_answered}
use Rattle.projection.specs.Projection.{keep_records}
use Rattle.projection.specs.Marks.{is_set, MarksAre}
use Rattle.projection.specs.Copies.{chosen, marked}
use Rattle.projection.proofs.Picking.{Picked, picked_none, picked_first, picked_others}
use Rattle.projection.proofs.Turns.{Together}

-- The records of the operations that are kept are those picked by their operations.
pub keep_picks : (keep : ℕ → Bool) (past records : List Record) → Picked (λ i. keep (operation_from past records i)) records (keep_records keep past records)
unfolding keep_records operation_from
keep_picks keep past [] = picked_none _
keep_picks keep past (r ∷ records) = by (keep (operation_of past r)) refl (keep_picks keep (r ∷ past) records)
  where
    by : (b : Bool) → keep (operation_of past r) ≡ b → Picked (λ i. keep (operation_from (r ∷ past) records i)) records (keep_records keep (r ∷ past) records)
        → Picked (λ i. keep (operation_from past (r ∷ records) i)) (r ∷ records) (if b then r ∷ keep_records keep (r ∷ past) records else keep_records keep (r ∷ past) records)
    by true e rest = picked_first _ r e rest
    by false e rest = picked_others _ r e rest

-- a call and its return are of one operation, so they are kept together
pub kept_together : {records : List Record} → Orderly records → (keep : ℕ → Bool) → Together (λ i. keep (operation_at records i)) records
kept_together {records} orderly keep i j a =
    ap keep (operation_called records i (omega (arith, a.next.later, a.next.there)) a.is_call_lem ∙ sym (operation_answered orderly.regular i j a.next a.is_call_lem))

-- what is chosen alike is the same
chosen_same : (choose other : ℕ → Bool) (records : List Record) (n : ℕ) → ((i : ℕ) → i < n → choose i ≡ other i) → chosen choose records n ≡ chosen other records n
unfolding chosen
chosen_same choose other records zero same = refl
chosen_same choose other records (suc n) same = rw (chosen_same choose other records n (λ i l. same i (omega arith)), same n (omega arith)) refl

-- the first record is chosen or not, and the others as they are without it
chosen_first : (choose : ℕ → Bool) (r : Record) (records : List Record) (n : ℕ)
    → chosen choose (r ∷ records) (suc n) ≡ (if choose 0 then r ∷ [] else []) ++ chosen (λ i. choose (suc i)) records n
unfolding chosen
chosen_first choose r records zero = sym (append-nil _)
chosen_first choose r records (suc n) = rw (chosen_first choose r records n) (append_assoc (if choose 0 then r ∷ [] else []) (chosen (λ i. choose (suc i)) records n) _)

keep_chosen : (keep : ℕ → Bool) (past records : List Record) → keep_records keep past records ≡ chosen (λ i. keep (operation_from past records i)) records (length records)
unfolding chosen keep_records operation_from
keep_chosen keep past [] = refl
keep_chosen keep past (r ∷ records) =
    rw (chosen_first (λ i. keep (operation_from past (r ∷ records) i)) r records (length records), ← (keep_chosen keep (r ∷ past) records)) (by (keep (operation_of past r)))
  where
    by : (b : Bool) → (if b then r ∷ keep_records keep (r ∷ past) records else keep_records keep (r ∷ past) records) ≡ (if b then r ∷ [] else []) ++ keep_records keep (r ∷ past) records
    by true = refl
    by false = refl

-- operations that are kept alike have the same records
pub keep_same : (keep other : ℕ → Bool) (records : List Record) → ((i : ℕ) → i < length records → keep (operation_at records i) ≡ other (operation_at records i))
    → keep_records keep [] records ≡ keep_records other [] records
keep_same keep other records same = keep_chosen keep [] records ∙ chosen_same _ _ records (length records) same ∙ sym (keep_chosen other [] records)

-- there are marks for all records
pub marks_enough : {log : List ℕ} {end : ℕ} {kept marks : List Bool} → Whole log end → MarksAre log kept marks → end ≤ length marks
marks_enough whole are = omega (arith, whole.counted, (whole_readable whole).partial.regular.few, are.sized)

-- they are the marked records, by as many marks as there are records
pub keep_marked : {log : List ℕ} {end : ℕ} {kept marks : List Bool} → Whole log end → MarksAre log kept marks → (records : List Record) → read_log log ≡ readable records
    → keep_records (is_set kept) [] records ≡ marked (take end marks) records
keep_marked {end = end} {kept} {marks} whole are records reads =
    keep_chosen (is_set kept) [] records
    ∙ chosen_same _ _ records (length records)
    (λ i l. sym (get_or-take end marks i false (omega (arith, whole.counted, ap length (whole_one whole records reads))) ∙ are.marked records reads i l))
