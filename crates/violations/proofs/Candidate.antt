-- Which fate of a remove that has not returned can succeed where leaving it out fails: that of the add which returns first of those
-- that are not removed, and only under patterns 4 and 6. So one fate is tried at the most.
use Prim.Native.Nat.{ℕ, ◌≤◌}
use native.Mathlib.Omega.{arith}
use native.Mathlib.Decide.{ℕ_discrete}
use mathlib.Core.Path.{◌≡◌, sym}
use mathlib.Core.Logic.{◌⊎◌, inl, inr}
use mathlib.Core.List.{List}
use Rattle.history.specs.Object.{Queue}
use Rattle.history.specs.History.{History, no_kind, Returned, Lawful, Lone}
use Rattle.history.specs.Sheet.{order_verdict}
use Rattle.violations.specs.Violations.{Is, Occurs, NoViolation}
use Rattle.violations.specs.Verdict.{JudgedLinearization, FirstViolation, SomeViolation, Verdict}
use Rattle.violations.specs.Fates.{taking, Free, takes_value, Succeeds, NoneSucceeds, Settled, took}
use Rattle.violations.proofs.FirstViolations.{first_violation}
use Rattle.violations.proofs.CompleteVerdicts.{complete_exactly}
use Rattle.violations.proofs.Fates.{taking_back, taking_takes, comes_back_lawful, Mends, takes_one, mends}

-- No fate succeeds, said of the remove and the add.
pub none_succeeds : {h : History} → ((o a : ℕ) → Is h no_kind o → Free h a → Succeeds (taking h o a) → ⊥) → NoneSucceeds Queue h
none_succeeds none fate (takes_value {o = o} {a = a} is free) success = none o a is free success

module _ {h : History} (lawful : Lawful h) (lone : Lone h) {o : ℕ} (pending : Is h no_kind o) where
  -- A fate that succeeds where a pattern occurs mends it, by the value of its add.
  pub fate_mends : {n : ℕ} {listed : List ℕ} → Occurs Queue h n listed → {a : ℕ} → Free h a → Succeeds (taking h o a)
      → Mends (taking_back lone pending a) n a
  fate_mends occurs {a} free success =
      let c = taking_back lone pending a in
      let (x, m) = mends lawful c ((complete_exactly (comes_back_lawful lawful c)).0 success) occurs in
      rw (takes_one lawful c m.adds free.adds m.takes (taking_takes pending free.adds)) at m

  -- So two fates that succeed are one.
  pub fate_one : {n : ℕ} {listed : List ℕ} → Occurs Queue h n listed → {a b : ℕ} → Free h a → Succeeds (taking h o a) → Free h b
      → Succeeds (taking h o b) → a ≡ b
  fate_one occurs {a} {b} free success free' success' = go (ℕ_discrete a b)
    where
      go : Dec (a ≡ b) → a ≡ b
      go (yes e) = e
      go (no n) = absurd (omega (arith, (fate_mends occurs free success).first b free' (λ e. n (sym e)), (fate_mends occurs free' success').first a free n))

  -- Where leaving it out fails, the add whose value is taken with success has returned.
  pub taken_returned : (Succeeds h → ⊥) → {a : ℕ} → Free h a → Succeeds (taking h o a) → Returned h a
  taken_returned fails {a} free success = go (first_violation Queue h)
    where
      go : SomeViolation Queue h ⊎ NoViolation Queue h → Returned h a
      go (inl (n, listed, first)) = (fate_mends first.occurs free success).back
      go (inr clean) = absurd (fails ((complete_exactly lawful).1 clean))

  module _ {n : ℕ} {listed : List ℕ} (first : FirstViolation Queue h n listed) where
    pending_same : {p : ℕ} (a : ℕ) → Is h no_kind p → Succeeds (taking h p a) → Succeeds (taking h o a)
    pending_same {p} a is success = rw (lone.one p o is.known pending.known is.kinds pending.kinds) at success

    unless_mended : ((a : ℕ) → Free h a → Succeeds (taking h o a) → Mends (taking_back lone pending a) n a → ⊥) → Verdict Queue h n listed
    unless_mended none =
        Verdict.violation first
        (none_succeeds (λ p a is free success. let s = pending_same a is success in none a free s (fate_mends first.occurs free s)))

    -- Patterns 1, 2, 3 and 5 stay,
    pub others_stay : (n ≡ 4 → ⊥) → (n ≡ 6 → ⊥) → Verdict Queue h n listed
    others_stay not_stuck not-empty = unless_mended (λ a free success m. go m.number)
      where
        go : (n ≡ 4) ⊎ (n ≡ 6) → ⊥
        go (inl e) = not_stuck e
        go (inr e) = not-empty e

    -- and so does any if no add that is not removed has returned.
    pub none_helps : ((a : ℕ) → Free h a → Returned h a → ⊥) → Verdict Queue h n listed
    none_helps none = unless_mended (λ a free success m. none a free m.back)

    -- Otherwise the one that returns first decides.
    module _ {a : ℕ} (free : Free h a) (soonest : (b : ℕ) → Free h b → Returned h b → h.ret a ≤ h.ret b) where
      only_one : {b : ℕ} → Free h b → Succeeds (taking h o b) → b ≡ a
      only_one {b} free' success = go (ℕ_discrete b a)
        where
          go : Dec (b ≡ a) → b ≡ a
          go (yes e) = e
          go (no n) = let m = fate_mends first.occurs free' success in absurd (omega (arith, m.first a free (λ e. n (sym e)), soonest b free' m.back))

      pub it_settles : Settled Queue h (taking h o a)
      it_settles = took pending free (λ success. (complete_exactly lawful).0 success n listed first.occurs) (λ b less free' success. omega (arith, only_one free' success))

      pub it_helps : {list : List ℕ} → JudgedLinearization Queue (taking h o a) list → Verdict Queue h order_verdict list
      it_helps judged = Verdict.linearization it_settles judged

      pub it_fails : (Succeeds (taking h o a) → ⊥) → Verdict Queue h n listed
      it_fails fails = unless_mended (λ b free' success m. fails (rw (only_one free' success) at success))
