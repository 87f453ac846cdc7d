-- Histories that are alike have the same verdict byte. Each is a part of the other in which everything is kept, so this rests
-- on the laws of parts.
use Prim.Native.Nat.{ℕ, ◌<◌}
use mathlib.Core.Path.{◌≡◌, refl, sym, ap, ◌∙◌}
use mathlib.Core.Logic.Iff
use mathlib.Core.List.{List}
use Rattle.history.specs.Each.{Each}
use Rattle.history.specs.Object.{Object}
use Rattle.history.specs.History.{History, Lawful}
use Rattle.violations.specs.Violations.{Occurs}
use Rattle.violations.specs.Verdict.{CompleteVerdict}
use Rattle.violations.specs.Parts.{HasValue, KeptAs, Part, Kept, Alike}
use Rattle.violations.proofs.Occurrences.{occurs_known}
use Rattle.violations.proofs.Corresponding.{Correspondence, part_up}
use Rattle.violations.proofs.Parts.{part_verdict}
use Rattle.violations.proofs.Lists.{each_map}

-- Likeness goes both ways: what is known of `from o` in one history is known of `to (from o)` in the other, which is o.
pub alike_sym : {h k : History} → Alike h k → Alike k h
alike_sym {h} {k} a = record {
  to = a.from;
  from = a.to;
  to_known = a.from_known;
  from_known = a.to_known;
  back = a.forth;
  forth = a.back;
  kind = kinds;
  returned = λ o l. rw (a.forth o l) at (Iff.symm (a.returned (a.from o) (a.from_known o l)));
  precedes = λ o p l l'. rw (a.forth o l, a.forth p l') at (Iff.symm (a.precedes (a.from o) (a.from p) (a.from_known o l) (a.from_known p l')));
  value = λ o p x y. rw (a.forth o x.known, a.forth p y.known) at (Iff.symm (a.value (a.from o) (a.from p) (valued x) (valued y)));
}
  where
    kinds : (o : ℕ) → o < k.count → h.kind (a.from o) ≡ k.kind o
    kinds o l = rw (a.forth o l) at (sym (a.kind (a.from o) (a.from_known o l)))

    valued : {o : ℕ} → HasValue k o → HasValue h (a.from o)
    valued {o} x = record { known = a.from_known o x.known; valued = rw (kinds o x.known) x.valued }

-- Each of two histories that are alike is a part of the other.
pub alike_part : {h k : History} → Alike h k → Part k h
alike_part a = record {
  to = a.to;
  known = a.to_known;
  one = λ o p l l' e. sym (a.back o l) ∙ ap a.from e ∙ a.back p l';
  kind = a.kind;
  returned = a.returned;
  precedes = a.precedes;
  value = a.value;
  whole = λ o p x y e. (a.from o, record { known = a.from_known o x.known; is = a.forth o x.known });
}

-- So their operations correspond.
pub alike_same : {h k : History} (a : Alike h k) → Correspondence h k (λ q o. KeptAs h a.to o q)
unfolding alike_part
alike_same a = part_up (alike_part a)

-- All that a pattern lists is kept.
alike_keeps : {object : Object} {h k : History} (a : Alike h k) → {n : ℕ} {listed : List ℕ} → Occurs object k n listed → Each (Kept (alike_part a)) listed
unfolding alike_part
alike_keeps a {listed = listed} x = each_map (λ o l. (a.from o, record { known = a.from_known o l; is = a.forth o l })) listed (occurs_known x)

-- The verdict byte is the same.
pub alike_complete_verdict : {object : Object} {h k : History} → Lawful h → Lawful k → Alike h k → {m n : ℕ} {xs ys : List ℕ}
    → CompleteVerdict object h m xs → CompleteVerdict object k n ys → m ≡ n
alike_complete_verdict laws-h laws-k a (CompleteVerdict.linearization x) (CompleteVerdict.linearization y) = refl
alike_complete_verdict laws-h laws-k a (CompleteVerdict.violation x) y =
    part_verdict (alike_part (alike_sym a)) laws-h laws-k x (alike_keeps (alike_sym a) x.occurs) y
alike_complete_verdict laws-h laws-k a (CompleteVerdict.linearization x) (CompleteVerdict.violation y) =
    sym (part_verdict (alike_part a) laws-k laws-h y (alike_keeps a y.occurs) (CompleteVerdict.linearization x))
