-- The order that the search finds: where no pattern occurs there is one, and there is only one.
use Prim.Native.Nat.{ℕ, ◌<◌}
use native.Mathlib.Omega.{arith}
use native.Mathlib.Decide.{dec_le, dec_lt, ℕ_discrete}
use mathlib.Core.Path.{◌≡◌, refl, sym, ap, ◌∙◌}
use mathlib.Core.Logic.Dec
use mathlib.Core.Logic.{◌⊎◌, inl, inr}
use mathlib.Core.List.{List, [], ◌∷◌}
use Rattle.history.specs.Object.{Queue}
use Rattle.history.specs.History.{History, add, empty_remove, Lawful}
use Rattle.history.specs.Table.{Agree}
use Rattle.history.proofs.Deciding.{all_below?, implies?, equivalent?}
use Rattle.violations.specs.Violations.{Is, RemoveOf, Reaches, removed, never, AllCovered, false_empty, NoViolation}
use Rattle.violations.specs.Verdict.{JudgedLinearization}
use Rattle.violations.specs.Search.{Single, Sound, Searched}
use Rattle.violations.specs.Found.{Safe, Serves, enqueues, dequeues, meets_empty, LastGap, Found}
use Rattle.violations.proofs.Lists.{listed_none}
use Rattle.violations.proofs.Operations.{is?, remove_of?}
use Rattle.violations.proofs.Chains.{reach_of, false_empty_lem, last_gap}
use Rattle.violations.proofs.Greedy.{left?, Search, search_finds, continues_one}
use Rattle.violations.proofs.Placing.{search_starts, search_places, search_ends}
use Rattle.violations.proofs.Progress.{search_goes_on}
use Rattle.violations.proofs.Constructing.{tables_fit}
use Rattle.violations.proofs.Agreeing.{SameTables, agree_continues}

-- the value of an add reaches to one place, if none is removed twice
reaches_one : {h : History} → Single h → {a x y : ℕ} → Reaches h a x → Reaches h a y → x ≡ y
reaches_one {h} single (removed r out e) (removed s off f) = sym e ∙ ap h.call (single r s out.removes off.removes (out.same ∙ sym off.same)) ∙ f
reaches_one single (removed r out e) (never n f) = absurd (n (r, out))
reaches_one single (never n e) (removed s off f) = absurd (n (s, off))
reaches_one single (never n e) (never m f) = sym e ∙ f

-- an empty remove has one last gap that no value covers
last_gap_one : {h : History} {e f g : ℕ} → LastGap h e f → LastGap h e g → f ≡ g
last_gap_one {h} {e} {f} {g} x y =
    let not_lower : f < g → ⊥ = λ l. y.uncovered (x.last g l y.lies) in
    let not_higher : g < f → ⊥ = λ l. x.uncovered (y.last f l x.lies) in
    omega arith

-- an operation makes only one thing of the queue
serves_one : {h : History} {reach gap : ℕ → ℕ} {order queue left right : List ℕ} {o : ℕ} → Serves h reach gap order o queue left → Serves h reach gap order o queue right → left ≡ right
serves_one (enqueues e s) (enqueues f t) = refl
serves_one (enqueues e s) (dequeues out) = absurd (omega (arith, out.removes.kinds))
serves_one (enqueues e s) (meets_empty f) = absurd (omega arith)
serves_one (dequeues out) (enqueues e s) = absurd (omega (arith, out.removes.kinds))
serves_one (dequeues out) (dequeues off) = refl
serves_one (meets_empty e) (enqueues f s) = absurd (omega arith)
serves_one (meets_empty e) (meets_empty f) = refl

-- The search finds only one order.
pub found_one : {h : History} → Single h → {xs ys : List ℕ} → Found h xs → Found h ys → xs ≡ ys
found_one {h} single x y =
    continues_one (λ order o queue left right. serves_one)
    (agree_continues itself same (λ a at. absurd (listed_none at)) x.continues) y.continues
  where
    itself : Agree h h
    itself = record { count = refl; end = refl; kind = λ o l. refl; value = λ o l. refl; call = λ o l. refl; ret = λ o l. refl }

    same : SameTables h x.reach x.gap y.reach y.gap
    same = record { reaches = λ a is. reaches_one single (x.reaches a is) (y.reaches a is); gaps = λ e is. last_gap_one (x.gaps e is) (y.gaps e is) }

-- whether an operation may be placed
module _ (h : History) (reach gap : ℕ → ℕ) (order : List ℕ) where
  safe? : (a : ℕ) → Dec (Safe h reach gap order a)
  safe? a =
      equivalent? {P = _ × _}
      (λ p. record { removes = λ b r is left out. p.0 b is.known r out.removes.known is left out; empties = λ e is. p.1 e is.known is })
      (λ s. (λ b l r m. s.removes b r, λ e l. s.empties e))
      (Dec.and (all_below? (λ b. all_below? (λ r. implies? (is? h add b) (implies? (left? h order b) (implies? (remove_of? h b r) (dec_lt _ _)))) h.count) h.count)
      (all_below? (λ e. implies? (is? h empty_remove e) (implies? (left? h order e) (dec_le _ _))) h.count))

  serves? : (o : ℕ) (queue : List ℕ) → Dec ((queue' : List ℕ) × Serves h reach gap order o queue queue')
  serves? o queue = go (Dec.and (ℕ_discrete (h.kind o) add) (safe? o)) (others queue)
    where
      Served : List ℕ → Type 0
      Served queue = (queue' : List ℕ) × Serves h reach gap order o queue queue'

      -- by what an operation that is no add may make of the queue
      others : (queue : List ℕ) → ((h.kind o ≡ add) × Safe h reach gap order o → ⊥) → Dec (Served queue)
      others [] idle =
          equivalent? {P = h.kind o ≡ empty_remove} (λ e. ([], meets_empty e)) (λ s. empties s.1) (ℕ_discrete (h.kind o) empty_remove)
        where
          empties : {queue' : List ℕ} → Serves h reach gap order o [] queue' → h.kind o ≡ empty_remove
          empties (enqueues e safe) = absurd (idle (e, safe))
          empties (meets_empty e) = e
      others (a ∷ rest) idle = equivalent? (λ out. (rest, dequeues out)) (λ s. removes s.1) (remove_of? h a o)
        where
          removes : {queue' : List ℕ} → Serves h reach gap order o (a ∷ rest) queue' → RemoveOf h a o
          removes (enqueues e safe) = absurd (idle (e, safe))
          removes (dequeues out) = out

      go : Dec ((h.kind o ≡ add) × Safe h reach gap order o) → (((h.kind o ≡ add) × Safe h reach gap order o → ⊥) → Dec (Served queue)) → Dec (Served queue)
      go (yes (e, safe)) other = yes (_, enqueues e safe)
      go (no n) other = other n

-- The search for an order of a queue's history.
queue_search : {h : History} {reach gap : ℕ → ℕ} → Lawful h → Sound h reach gap → Search h (Serves h reach gap) (Searched h reach gap)
queue_search {h} {reach} {gap} lawful sound = record {
  begun = λ order queue s. s.begun;
  places_more = λ order queue queue' o s. search_places lawful s sound.matched.single;
  goes_on = λ order queue o s. search_goes_on lawful sound s;
  serves? = serves? h reach gap;
}

-- the last gap of an empty remove that no value covers, if there is one
gap_of : {h : History} {e : ℕ} → AllCovered h e ⊎ ((g : ℕ) × LastGap h e g) → ℕ
gap_of (inl covered) = 0
gap_of (inr (g, last)) = g

gap_lies : {h : History} {e : ℕ} → (AllCovered h e → ⊥) → (u : AllCovered h e ⊎ ((g : ℕ) × LastGap h e g)) → LastGap h e (gap_of u)
unfolding gap_of
gap_lies n (inl covered) = absurd (n covered)
gap_lies n (inr (g, last)) = last

-- Where no pattern occurs, it finds a legal order.
pub found_exists : {h : History} → Lawful h → NoViolation Queue h → (order : List ℕ) × JudgedLinearization Queue h order × Found h order
found_exists {h} lawful clean =
    let sound = tables_fit lawful (λ a is. (reach_of h a).reaches) (λ n listed l. clean n listed) (λ e is. (gaps e is).lies) (λ e is. (gaps e is).uncovered) in
    let f = search_finds (queue_search lawful sound) [] (search_starts lawful _ _) in (
      f.more,
      search_ends lawful f.searched f.none_left,
      record {
        reach = λ a. (reach_of h a).to;
        gap = λ e. gap_of (last_gap h e);
        reaches = λ a is. (reach_of h a).reaches;
        gaps = gaps;
        continues = f.continues;
      },
    )
  where
    true_empty : {e : ℕ} → Is h empty_remove e → AllCovered h e → ⊥
    true_empty {e} is covered = let (chain, f) = false_empty_lem is covered in clean 6 (e ∷ chain) (false_empty f)

    gaps : (e : ℕ) → Is h empty_remove e → LastGap h e (gap_of (last_gap h e))
    gaps e is = gap_lies (true_empty is) (last_gap h e)
