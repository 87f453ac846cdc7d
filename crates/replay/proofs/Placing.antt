-- An order is placed operation by operation: each step keeps `Kept`, or shows that the order is not legal.
use Prim.Native.Nat.{ℕ, max, ◌+◌, ◌≤◌, ◌<◌}
use native.Mathlib.Omega.{arith}
use native.Mathlib.Decide.{ℕ_discrete, dec_lt}
use native.Mathlib.Numerals.{add-one}
use mathlib.Core.Path.{◌≡◌, refl, sym, ap, ◌∙◌}
use mathlib.Core.Bool.{Bool, true, false}
use mathlib.Core.List.{List, [], ◌∷◌}
use lib.ListN.{length, get_or, set, drop, length-set}
use lib.Seq.{drop-cons, drop-length, get_or-set_same, get_or-set_other}
use Rattle.std.specs.Prelude.{Option, Some, None}
use Rattle.reader.specs.Log.{max_records}
use Rattle.history.specs.Answers.{Decides}
use Rattle.history.specs.History.{History, Precedes}
use Rattle.history.specs.Object.{Queue}
use Rattle.history.specs.RunFrom.{RunFrom, done, then}
use Rattle.history.specs.Linearization.{Moves, placed, Linearization}
use Rattle.history.proofs.Running.{run_first}
use Rattle.history.proofs.Queues.{moves_one}
use Rattle.history.proofs.Basics.{up_to}
use Rattle.replay.proofs.Marking.{total_mark}
use Rattle.replay.specs.Trial.{waiting, Served, Serves, Kept, After, Stepped, AllPlaced, AllMarked}
use Rattle.replay.specs.declared.order.Progress.{Progress}

-- an operation that a legal order may have next is placed, or cannot be run
module _ (h : History) (o latest : ℕ) (p : Progress) (marks : List Bool) (queue : List ℕ) (l : o < h.count) (fresh : get_or marks o false ≡ false) (timely : p.latest ≤ h.ret o)
    (latest_is : latest ≡ max p.latest (h.call o)) where
  abbrev q : Progress
  q = record { latest = latest; head = p.head; tail = p.tail }

  module _ (order : List ℕ) (i : ℕ) (below : i < length order) (here : placed order i ≡ o) (kept : Kept h order i p marks queue) where
    rest : drop i order ≡ o ∷ drop (i + 1) order
    rest = rw (add-one, ← here) (drop-cons order i 0 below)

    first : RunFrom (Moves h) order [] → (queue' : List ℕ) × Moves h o (waiting p queue) queue' × RunFrom (Moves h) (drop (i + 1) order) queue'
    first run = run_first (rw rest at (kept.rest_follows run))

    unplaced : ((queue' : List ℕ) → Moves h o (waiting p queue) queue' → ⊥) → Linearization Queue h order → ⊥
    unplaced served legal = let (queue', moved, more) = first legal.runs in served queue' moved

    not_before : (j : ℕ) → j < i → placed order j ≡ o → ⊥
    not_before j m e = let was : get_or marks o false ≡ true = rw e at (kept.marks_all j m) in cc

    abbrev marks' : List Bool
    marks' = set marks o true

    in_marks : o < length marks
    in_marks = omega (arith, kept.has_room.marks_sized, kept.has_room.few)

    marked' : (r : ℕ) → get_or marks' r false ≡ true → (j : ℕ) × (j < i + 1) × (placed order j ≡ r)
    marked' r m = go (ℕ_discrete r o)
      where
        go : Dec (r ≡ o) → (j : ℕ) × (j < i + 1) × (placed order j ≡ r)
        go (yes e) = (i, omega arith, here ∙ sym e)
        go (no n) = let (j, k, e) = kept.marked r (rw (get_or-set_other marks o r true false n) at m) in (j, omega arith, e)

    met' : 0 < latest → (j : ℕ) × (j < i + 1) × (h.call (placed order j) ≡ latest)
    met' z = go (dec_lt (h.call o) p.latest)
      where
        go : Dec (h.call o < p.latest) → (j : ℕ) × (j < i + 1) × (h.call (placed order j) ≡ latest)
        go (yes l) = let (j, k, c) = kept.met (omega arith) in (j, omega arith, omega arith)
        go (no n) = (i, omega arith, omega (arith, ap h.call here))

    one_placed : (s : Progress) (queue' : List ℕ) → length queue' ≡ max_records → Served h o q queue queue' (Some s) → Kept h order (i + 1) s marks' queue'
    one_placed s queue' sized (moved, same, held, more) = record {
      has_room = record {
        few = kept.has_room.few;
        marks_sized = length-set marks o true ∙ kept.has_room.marks_sized;
        queue_sized = sized;
        held = held;
        room = omega (arith, kept.has_room.room, total_mark h.count marks o l in_marks fresh);
      };
      known = up_to kept.known (rw here l);
      once = λ j k m b. up_to {P = λ k. j < k → placed order j ≡ placed order k → ⊥} (λ k b m. kept.once j k m b) (λ m e. not_before j m (e ∙ here)) k b m;
      keeps = λ j k m b. up_to {P = λ k. j < k → Precedes h (placed order k) (placed order j) → ⊥} (λ k b m. kept.keeps j k m b)
          (λ m e. omega (arith, kept.above j m, ap h.ret here)) k b m;
      marked = marked';
      marks_all = up_to (λ j m. get_or-set_other marks o (placed order j) true false (not_before j m) ∙ kept.marks_all j m) (rw here (get_or-set_same marks o true false in_marks));
      above = up_to (λ j m. omega (arith, kept.above j m)) (omega (arith, ap h.call here));
      met = rw same met';
      rest_suffices = λ run. kept.rest_suffices (rw rest (then moved run));
      rest_follows = λ run. let (queue'', moved', rest') = first run in rw (moves_one moved moved') rest';
    }

  pub stepped : {step : Option Progress} {queue' : List ℕ} → Serves (h.kind o) (h.value o) q queue step queue' → Stepped h o p marks queue step (set marks o true) queue'
  stepped {step} {queue'} serves = record { after = λ order i below here kept. go step order i below here kept (serves.served h o refl refl) }
    where
      go : (step : Option Progress) (order : List ℕ) (i : ℕ) → i < length order → placed order i ≡ o → Kept h order i p marks queue → Served h o q queue queue' step → After h order i (set marks o true) queue' step
      go None order i below here kept served = unplaced order i below here kept served
      go (Some s) order i below here kept served = one_placed order i below here kept s queue' serves.sized served

-- an order all of which is placed is legal exactly if it omits no returned operation
placed_legal : {h : History} {order : List ℕ} {marks : List Bool} → AllPlaced h order marks → AllMarked h marks → Linearization Queue h order
placed_legal {order = order} all marked = record {
  ordering = record {
    known = all.kept.known;
    every = λ o l r. let (j, m, e) = all.kept.marked o (marked o l r) in record { at = j; below = m; here = e };
    once = all.kept.once;
    keeps = all.kept.keeps;
  };
  runs = all.kept.rest_suffices (rw (drop-length order) done);
}

legal_marks : {h : History} {order : List ℕ} {marks : List Bool} → AllPlaced h order marks → Linearization Queue h order → AllMarked h marks
legal_marks all legal o l r = let listed = legal.ordering.every o l r in rw listed.here at (all.kept.marks_all listed.at listed.below)

pub legal_decided : {h : History} {order : List ℕ} {marks : List Bool} → AllPlaced h order marks → (marked : Bool) → Decides (AllMarked h marks) marked
    → Decides (Linearization Queue h order) marked
legal_decided all true marked = placed_legal all marked
legal_decided all false omitted = λ legal. omitted (legal_marks all legal)
