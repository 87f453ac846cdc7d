-- From the verdicts on the history as it stands, and on the history with the fate that is tried, to the verdict.
use Prim.Native.Nat.{ℕ, ◌-◌, ◌≤◌, ◌<◌}
use mathlib.Core.Path.{◌≡◌}
use mathlib.Core.List.{List}
use Rattle.history.specs.Object.{Queue}
use Rattle.history.specs.History.{History, remove, no_kind, Returned, Lawful, Lone}
use Rattle.history.specs.Sheet.{order_verdict}
use Rattle.history.specs.Table.{value_at, call_at, tabled, Agree, Entered}
use Rattle.violations.specs.Violations.{Is}
use Rattle.violations.specs.Verdict.{FirstViolation, JudgedLinearization, Verdict}
use Rattle.violations.specs.Fates.{taking, Free}
use Rattle.violations.proofs.Laws.{complete_zero, complete_pattern, complete_exactly, agree_complete_verdict, agree_found, none_helps, it_settles, it_helps, it_fails, comes_back_lawful, taking_back}
use Rattle.matching.specs.Held.{Held}
use Rattle.matching.specs.Matching.{Partners}
use Rattle.fates.specs.Fates.{free_return, LeastAt}
use Rattle.fates.proofs.Laws.{entered_taking, none_free, soonest_is_free, soonest_is_first}
use Rattle.judge.specs.Decision.{CompleteDecided, Decided}

module _ {count end : ℕ} {table partner : List ℕ} (held : Held (tabled count end table)) (lone : Lone (tabled count end table))
    (partners : Partners table count partner) {o : ℕ} (pending : Is (tabled count end table) no_kind o)
    {number : ℕ} {listed : List ℕ} (violation : FirstViolation Queue (tabled count end table) number listed)
    {a : ℕ} (soonest : LeastAt (free_return (tabled count end table) partner) end count a) where
  abbrev h : History
  h = tabled count end table

  -- no value can have been taken
  pub no_fate_helps : count ≤ a → Verdict Queue h number listed
  no_fate_helps none = none_helps held.lawful lone pending violation (none_free held partners soonest none)

  module _ (some : a < count) {table' : List ℕ} (entered : Entered table o remove (value_at table a) (call_at table o) (end - 1) table')
      {byte' k' : ℕ} {order : List ℕ} (tried : CompleteDecided (tabled count end table') byte' k' order) where
    free : Free h a
    free = soonest_is_free held partners soonest some

    first : (b : ℕ) → Free h b → Returned h b → h.ret a ≤ h.ret b
    first = soonest_is_first held partners soonest some

    fate_lawful : Lawful (taking h o a)
    fate_lawful = comes_back_lawful held.lawful (taking_back lone pending a)

    agree : Agree (tabled count end table') (taking h o a)
    agree = entered_taking count a entered

    -- the fate succeeds
    pub fate_helps : byte' ≡ order_verdict → Decided h order_verdict k' order
    fate_helps e =
        let judged : JudgedLinearization Queue (taking h o a) _ = complete_zero (agree_complete_verdict Queue agree tried.verdict) e in
        record {
          sized = tried.sized;
          within = tried.within;
          verdict = it_helps held.lawful lone pending violation free first judged;
          chosen = λ z. record {
            settled = taking h o a;
            settles = it_settles held.lawful lone pending violation free first;
            judged = judged;
            found = agree_found agree (tried.chosen e);
          };
        }

    -- or the pattern stays
    pub fate_fails : (byte' ≡ order_verdict → ⊥) → Verdict Queue h number listed
    fate_fails n =
        let stays = complete_pattern (agree_complete_verdict Queue agree tried.verdict) n in
        it_fails held.lawful lone pending violation free first (λ success. (complete_exactly fate_lawful).0 success _ _ stays.occurs)
