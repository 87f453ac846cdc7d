-- The runs of the tables have the verdicts that are given for them.
use Prim.Native.Nat.{ℕ, ◌≤◌, ◌<◌}
use native.Mathlib.Decide.{dec_lt, dec_le, ℕ_discrete}
use mathlib.Core.Path.{◌≡◌, refl}
use mathlib.Core.Bool.{decide, decide_iff}
use mathlib.Core.Logic.Dec
use mathlib.Core.List.{map}
use Rattle.reader.specs.Log.{readable, read_log, encode_log}
use Rattle.history.specs.Each.{Each}
use Rattle.history.specs.Object.{Object, Queue, Cell}
use Rattle.history.specs.History.{History, no_kind, Returned, Lawful, Lone}
use Rattle.history.specs.Runs.{Holds, Correct}
use Rattle.history.specs.Operations.{history_of}
use Rattle.history.proofs.Deciding.{all_below?, implies?, equivalent?, some?}
use Rattle.history.proofs.Rows.{each?, history, reading, history_told, reading_told, rows_hold, rows_correct}
use Rattle.violations.specs.Violations.{Is}
use Rattle.violations.specs.Verdict.{FirstViolation, SomeViolation, JudgedLinearization}
use Rattle.violations.specs.Fates.{taking, Free}
use Rattle.violations.specs.Runs.{Expected, linearization, violation, Judged, runs, picks, ticked_runs, cell_runs, Settling, leaves_out, lets_take, Settles, open_runs}
use Rattle.violations.proofs.Lists.{each_map}
use Rattle.violations.proofs.Operations.{is?}
use Rattle.violations.proofs.FirstViolations.{violated?, first_violation?, judged_linearization?}
use Rattle.violations.proofs.CompleteVerdicts.{complete_exactly}
use Rattle.violations.proofs.Fates.{taking_back, comes_back_lawful}
use Rattle.violations.proofs.Candidate.{it_settles, it_fails}
use Rattle.violations.proofs.Verdicts.{free?}

-- whether what is expected is right
judged? : (object : Object) (h : History) (expected : Expected) → Dec (Judged object h expected)
unfolding judged_linearization? first_violation?
judged? object h (linearization listed) = judged_linearization? object h listed
judged? object h (violation number listed) = first_violation? object h number listed

pub runs_hold : Each (Holds (Judged Queue)) runs
unfolding decide each? judged? history reading
runs_hold = rows_hold (judged? Queue) runs refl refl

pub picks_hold : Each (Holds (Judged Queue)) picks
unfolding decide each? judged? history reading
picks_hold = rows_hold (judged? Queue) picks refl refl

-- the runs with equal ticks, and that their logs are read as their records
pub ticked_runs_judged : Each (λ row. Judged Queue (history_of row.records) row.says) ticked_runs
unfolding decide each? judged? history_told
ticked_runs_judged = (decide_iff (each? (λ row. judged? Queue (history_told row.records) row.says) ticked_runs)).0 refl

pub ticked_runs_read : map (λ row. read_log (encode_log row.records)) ticked_runs ≡ map (λ row. readable row.records) ticked_runs
unfolding reading_told
ticked_runs_read = refl

pub cell_runs_correct : Each (Correct (Judged Cell)) cell_runs
unfolding decide each? judged? history
cell_runs_correct = rows_correct (judged? Cell) cell_runs refl

-- whether a history is lawful, with at most one remove pending
lawful? : (h : History) → Dec (Lawful h)
unfolding equivalent? Dec.and Dec.not all_below? implies? dec_lt dec_le ℕ_discrete
lawful? h =
    equivalent? {P = _ × (_ × (_ × (_ × (_ × (_ × (_ × _))))))}
    (λ p. record {
      kinds = p.0;
      spans = p.1.0;
      ends = p.1.1.0;
      returned = p.1.1.1.0;
      unreturned = p.1.1.1.1.0;
      apart = λ o q l m. p.1.1.1.1.1.0 o l q m;
      numbered = λ o q l m. p.1.1.1.1.1.1.0 q m o l;
      once = λ a b l m. p.1.1.1.1.1.1.1 a l b m;
    })
    (λ w. (
      w.kinds,
      (w.spans, (w.ends, (w.returned, (w.unreturned, (λ o l q m. w.apart o q l m, (λ q m o l. w.numbered o q l m, λ a l b m. w.once a b l m)))))),
    ))
    (Dec.and (every (λ o. dec_le _ _)) (Dec.and (every (λ o. dec_lt _ _)) (Dec.and (every (λ o. dec_le _ _)) (Dec.and (every (λ o. implies? (dec_lt _ _) (dec_lt _ _)))
    (Dec.and (every (λ o. implies? (ℕ_discrete _ _) (Dec.not (dec_lt _ _)))) (Dec.and (every (λ o. every (λ q. Dec.not (ℕ_discrete _ _))))
    (Dec.and (every (λ q. all_below? (λ o. dec_lt _ _) q))
    (every (λ a. every (λ b. implies? (ℕ_discrete _ _) (implies? (ℕ_discrete _ _) (implies? (ℕ_discrete _ _) (ℕ_discrete _ _)))))))))))))
  where
    every : {P : ℕ → Type 0} → ((o : ℕ) → Dec (P o)) → Dec ((o : ℕ) → o < h.count → P o)
    every d = all_below? d h.count

lone? : (h : History) → Dec (Lone h)
unfolding equivalent? Dec.and all_below? implies? dec_lt ℕ_discrete
lone? h =
    equivalent? {P = _ × _} (λ p. record { one = λ o q l m. p.0 o l q m; spare = λ o q l m. p.1 o l q m })
    (λ w. (λ o l q m. w.one o q l m, λ o l q m. w.spare o q l m))
    (Dec.and (all_below? (λ o. all_below? (λ q. implies? (ℕ_discrete _ _) (implies? (ℕ_discrete _ _) (ℕ_discrete _ _))) h.count) h.count)
    (all_below? (λ o. all_below? (λ q. implies? (ℕ_discrete _ _) (dec_lt _ _)) h.count) h.count))

-- What is computed of a row with a remove that does not return: that there is an order with it left out, or else that it is
-- remove o and that of the adds which are not removed a returns first, and what comes of the one fate that can succeed.
record Candidate (h : History) (o a : ℕ) : Type 0 where
  pending : Is h no_kind o
  free : Free h a
  soonest : (b : ℕ) → b < h.count → Free h b → Returned h b → h.ret a ≤ h.ret b

abbrev Computed : History → Settling → Type 0
Computed h (leaves_out (linearization listed)) = JudgedLinearization Queue h listed
Computed h (leaves_out (violation number listed)) =
    (Lawful h × Lone h) × (FirstViolation Queue h number listed × ((o : ℕ) × ((a : ℕ) × (Candidate h o a × SomeViolation Queue (taking h o a)))))
Computed h (lets_take o a listed) = (Lawful h × Lone h) × (Candidate h o a × (SomeViolation Queue h × JudgedLinearization Queue (taking h o a) listed))

candidate? : (h : History) (o a : ℕ) → Dec (Candidate h o a)
unfolding equivalent? Dec.and all_below? implies? dec_lt dec_le is? free?
candidate? h o a =
    equivalent? {P = _ × (_ × _)} (λ p. record { pending = p.0; free = p.1.0; soonest = p.1.1 }) (λ t. (t.pending, (t.free, t.soonest)))
    (Dec.and (is? h no_kind o) (Dec.and (free? h a) (all_below? (λ b. implies? (free? h b) (implies? (dec_lt _ _) (dec_le _ _))) h.count)))

computed? : (h : History) (says : Settling) → Dec (Computed h says)
unfolding Dec.and some? lawful? lone? candidate? violated? judged_linearization? first_violation?
computed? h (leaves_out (linearization listed)) = judged_linearization? Queue h listed
computed? h (leaves_out (violation number listed)) =
    Dec.and (Dec.and (lawful? h) (lone? h)) (Dec.and (first_violation? Queue h number listed)
    (some? Fails (λ o. some? (FailsWith o) (λ a. Dec.and (candidate? h o a) (violated? Queue (taking h o a))) h.count (λ a f. f.0.free.adds.known)) h.count
    (λ o f. f.1.0.pending.known)))
  where
    FailsWith : ℕ → ℕ → Type 0
    FailsWith o a = Candidate h o a × SomeViolation Queue (taking h o a)

    Fails : ℕ → Type 0
    Fails o = (a : ℕ) × FailsWith o a
computed? h (lets_take o a listed) =
    Dec.and (Dec.and (lawful? h) (lone? h)) (Dec.and (candidate? h o a) (Dec.and (violated? Queue h) (judged_linearization? Queue (taking h o a) listed)))

-- that is enough
computed_settles : (h : History) (says : Settling) → Computed h says → Settles h says
computed_settles h (leaves_out (linearization listed)) judged = judged
computed_settles h (leaves_out (violation number listed)) ((lawful, lone), (first, (o, (a, (c, (n, pattern, there)))))) =
    it_fails lawful lone c.pending first c.free (λ b free. c.soonest b free.adds.known free)
    (λ success. (complete_exactly (comes_back_lawful lawful (taking_back lone c.pending a))).0 success n pattern there.occurs)
computed_settles h (lets_take o a listed) ((lawful, lone), (c, ((n, pattern, first), judged))) =
    (it_settles lawful lone c.pending first c.free (λ b free. c.soonest b free.adds.known free), judged)

pub open_runs_hold : Each (Holds Settles) open_runs
unfolding decide each? computed? history reading
open_runs_hold =
    each_map {P = Holds Computed} {Q = Holds Settles} (λ row h. record { read = h.read; right = computed_settles _ row.says h.right }) open_runs
    (rows_hold computed? open_runs refl refl)
