-- Histories that agree on their operations are lawful together and have the same patterns, and the search finds the same order in
-- them. Nothing is known of numbers that are no operations, so what is said of an operation goes over along with the fact that it is
-- one.
use Prim.Native.Nat.{ℕ, ◌<◌}
use native.Mathlib.Omega.{arith}
use mathlib.Core.Path.{◌≡◌, refl, sym, ◌∙◌}
use mathlib.Core.Logic.{◌⊎◌, inl, inr}
use mathlib.Core.List.{List}
use Rattle.history.specs.Object.{Queue}
use Rattle.history.specs.History.{History, add, empty_remove, Returned, Precedes, Lawful, Lone}
use Rattle.history.specs.Linearization.{Listed}
use Rattle.history.specs.Table.{Agree}
use Rattle.history.proofs.Agreeing.{agree_sym}
use Rattle.violations.specs.Violations.{Is, RemoveOf, Removed, Unknown, Twice, Early, Stuck, Overtaken, Gap, Reaches, removed, never, Covers, Covered, AllCovered, Furthest, Chain, all, link, FalseEmpty, Occurs, unknown, twice, early, stuck, overtaken, false_empty}
use Rattle.violations.specs.Greedy.{Due, Left, Enabled, Placeable, Continues, ends, places}
use Rattle.violations.specs.Found.{Safe, Serves, enqueues, dequeues, meets_empty, LastGap, Found}
use Rattle.violations.proofs.Lists.{listed_none, listed_either, listed_here, listed_behind}

-- an operation of one is an operation of the other
pub agree_known : {h k : History} → Agree h k → {o : ℕ} → o < h.count → o < k.count
agree_known a l = omega (arith, a.count)

pub agree_lawful : {h k : History} → Agree h k → Lawful h → Lawful k
agree_lawful {h} {k} a lawful = record {
  kinds = λ o l. rw (← (a.kind o (back l))) (lawful.kinds o (back l));
  spans = λ o l. omega (arith, lawful.spans o (back l), a.call o (back l), a.ret o (back l));
  ends = λ o l. omega (arith, lawful.ends o (back l), a.ret o (back l), a.end);
  returned = λ o l n. omega (arith, lawful.returned o (back l) (omega (arith, a.kind o (back l))), a.ret o (back l), a.end);
  unreturned = λ o l e r. lawful.unreturned o (back l) (a.kind o (back l) ∙ e) (omega (arith, a.ret o (back l), a.end));
  apart = λ o p l m e. lawful.apart o p (back l) (back m) (a.ret o (back l) ∙ e ∙ sym (a.call p (back m)));
  numbered = λ o p less m. omega (arith, lawful.numbered o p less (back m), a.call o (omega (arith, back m)), a.call p (back m));
  once = λ x y l m e f same. lawful.once x y (back l) (back m) (a.kind x (back l) ∙ e) (a.kind y (back m) ∙ f) (a.value x (back l) ∙ same ∙ sym (a.value y (back m)));
}
  where
    back : {o : ℕ} → o < k.count → o < h.count
    back l = agree_known (agree_sym a) l

pub agree_lone : {h k : History} → Agree h k → Lone h → Lone k
agree_lone {h} {k} a lone = record {
  one = λ o p l m e f. lone.one o p (back l) (back m) (a.kind o (back l) ∙ e) (a.kind p (back m) ∙ f);
  spare = λ o p l m e. omega (arith, lone.spare o p (back l) (back m) (a.kind o (back l) ∙ e), a.call p (back m), a.end);
}
  where
    back : {o : ℕ} → o < k.count → o < h.count
    back l = agree_known (agree_sym a) l

-- what an operation is, whose value it removes, and what it precedes
pub agree_is : {h k : History} → Agree h k → {kind o : ℕ} → Is h kind o → Is k kind o
agree_is a {o = o} i = record { known = agree_known a i.known; kinds = sym (a.kind o i.known) ∙ i.kinds }

agree_remove_of : {h k : History} → Agree h k → {o r : ℕ} → o < h.count → RemoveOf h o r → RemoveOf k o r
agree_remove_of a {o} {r} l out = record { removes = agree_is a out.removes; same = sym (a.value r out.removes.known) ∙ out.same ∙ a.value o l }

pub agree_removed : {h k : History} → Agree h k → {o : ℕ} → o < h.count → Removed h o → Removed k o
agree_removed a l (r, out) = (r, agree_remove_of a l out)

-- what is never removed in one is never removed in the other
pub agree_never : {h k : History} → Agree h k → {o : ℕ} → o < h.count → (Removed h o → ⊥) → Removed k o → ⊥
agree_never a l n there = n (agree_removed (agree_sym a) (agree_known a l) there)

pub agree_precedes : {h k : History} → Agree h k → {o p : ℕ} → o < h.count → p < h.count → Precedes h o p → Precedes k o p
agree_precedes a {o} {p} l m before = omega (arith, a.ret o l, a.call p m)

-- how far values cover, and chains of them
agree_reaches : {h k : History} → Agree h k → {o reach : ℕ} → o < h.count → Reaches h o reach → Reaches k o reach
agree_reaches a l (removed r out e) = removed r (agree_remove_of a l out) (sym (a.call r out.removes.known) ∙ e)
agree_reaches a l (never n e) = never (agree_never a l n) (sym a.end ∙ e)

agree_covers : {h k : History} → Agree h k → {o reach g : ℕ} → Covers h o reach g → Covers k o reach g
agree_covers a {o} c =
    record { adds = agree_is a c.adds; reaches = agree_reaches a c.adds.known c.reaches; from = omega (arith, a.ret o c.adds.known, c.from); until = c.until }

agree_covered : {h k : History} → Agree h k → {g : ℕ} → Covered h g → Covered k g
agree_covered a (o, reach, c) = (o, reach, agree_covers a c)

agree_gap : {h k : History} → Agree h k → {e g : ℕ} → e < h.count → Gap h e g → Gap k e g
agree_gap a {e} l gap = record { from = omega (arith, a.call e l, gap.from); until = omega (arith, a.ret e l, gap.until) }

agree_all_covered : {h k : History} → Agree h k → {e : ℕ} → e < h.count → AllCovered h e → AllCovered k e
agree_all_covered a l covered g gap = agree_covered a (covered g (agree_gap (agree_sym a) (agree_known a l) gap))

agree_furthest : {h k : History} → Agree h k → {o reach g : ℕ} → Furthest h o reach g → Furthest k o reach g
agree_furthest a f = record { covers = agree_covers a f.covers; furthest = λ b far c. f.furthest b far (agree_covers (agree_sym a) c) }

agree_chain : {h k : History} → Agree h k → {return g : ℕ} {chain : List ℕ} → Chain h return g chain → Chain k return g chain
agree_chain a (all l) = all l
agree_chain a (link l f rest) = link l (agree_furthest a f) (agree_chain a rest)

agree_false_empty : {h k : History} → Agree h k → {e : ℕ} {chain : List ℕ} → FalseEmpty h e chain → FalseEmpty k e chain
agree_false_empty a {e} f = record {
  empties = agree_is a f.empties;
  covered = agree_all_covered a f.empties.known f.covered;
  chained = rw (← (a.ret e f.empties.known), ← (a.call e f.empties.known)) (agree_chain a f.chained);
}

-- the patterns
agree_unknown : {h k : History} → Agree h k → {r : ℕ} → Unknown h r → Unknown k r
agree_unknown a u = record { removes = agree_is a u.removes; unnamed = λ b adds out. u.unnamed b (agree_is (agree_sym a) adds) (agree_remove_of (agree_sym a) adds.known out) }

agree_twice : {h k : History} → Agree h k → {r s : ℕ} → Twice h r s → Twice k r s
agree_twice a {r} {s} t =
    record { first = agree_is a t.first; second = agree_is a t.second; lower = t.lower; same = sym (a.value r t.first.known) ∙ t.same ∙ a.value s t.second.known }

agree_early : {h k : History} → Agree h k → {r b : ℕ} → Early h r b → Early k r b
agree_early a t =
    record { adds = agree_is a t.adds; removes = agree_remove_of a t.adds.known t.removes; before = agree_precedes a t.removes.removes.known t.adds.known t.before }

agree_stuck : {h k : History} → Agree h k → {b c r : ℕ} → Stuck h b c r → Stuck k b c r
agree_stuck a t = record {
  first = agree_is a t.first;
  second = agree_is a t.second;
  before = agree_precedes a t.first.known t.second.known t.before;
  removes = agree_remove_of a t.second.known t.removes;
  never = agree_never a t.first.known t.never;
}

agree_overtaken : {h k : History} → Agree h k → {b c r s : ℕ} → Overtaken h b c r s → Overtaken k b c r s
agree_overtaken a t = record {
  first = agree_is a t.first;
  second = agree_is a t.second;
  added_before = agree_precedes a t.first.known t.second.known t.added_before;
  removes = agree_remove_of a t.second.known t.removes;
  removes_late = agree_remove_of a t.first.known t.removes_late;
  overtakes = agree_precedes a t.removes.removes.known t.removes_late.removes.known t.overtakes;
}

pub agree_occurs : {h k : History} → Agree h k → {n : ℕ} {listed : List ℕ} → Occurs Queue h n listed → Occurs Queue k n listed
agree_occurs a (unknown u) = unknown (agree_unknown a u)
agree_occurs a (twice t) = twice (agree_twice a t)
agree_occurs a (early t) = early (agree_early a t)
agree_occurs a (stuck t) = stuck (agree_stuck a t)
agree_occurs a (overtaken t) = overtaken (agree_overtaken a t)
agree_occurs a (false_empty t) = false_empty (agree_false_empty a t)

-- what is left, and what is enabled
agree_due : {h k : History} → Agree h k → {o : ℕ} → Due h o → Due k o
agree_due {h} {k} a {o} due = record {
  known = agree_known a due.known;
  kinded = omega (arith, due.kinded, a.kind o due.known);
  listed = go due.listed;
}
  where
    go : Returned h o ⊎ Removed h o → Returned k o ⊎ Removed k o
    go (inl returned) = inl (omega (arith, a.ret o due.known, a.end))
    go (inr there) = inr (agree_removed a due.known there)

agree_left : {h k : History} → Agree h k → {order : List ℕ} {o : ℕ} → Left h order o → Left k order o
agree_left a left = record { due = agree_due a left.due; unplaced = left.unplaced }

agree_enabled : {h k : History} → Agree h k → {order : List ℕ} {o : ℕ} → Enabled h order o → Enabled k order o
agree_enabled a {o = o} enabled = record {
  left = agree_left a enabled.left;
  first = λ p left.
      let there = agree_left (agree_sym a) left in omega (arith, enabled.first p there, a.call o enabled.left.due.known, a.ret p there.due.known);
}

-- The tables of two searches tell the same of the operations that they are asked for.
pub record SameTables (h : History) (reach gap reach' gap' : ℕ → ℕ) : Type 0 where
  pub reaches : (a : ℕ) → Is h add a → reach a ≡ reach' a
  pub gaps : (e : ℕ) → Is h empty_remove e → gap e ≡ gap' e

agree_tables : {h k : History} → Agree h k → {reach gap reach' gap' : ℕ → ℕ} → SameTables h reach gap reach' gap' → SameTables k reach' gap' reach gap
agree_tables a same = record { reaches = λ o is. sym (same.reaches o (agree_is (agree_sym a) is)); gaps = λ e is. sym (same.gaps e (agree_is (agree_sym a) is)) }

-- the queue holds operations, and still does when an operation is placed
abbrev pub KnownQueue : History → List ℕ → Type 0
KnownQueue h queue = (a : ℕ) → Listed queue a → a < h.count

serves_known : {h : History} {reach gap : ℕ → ℕ} {order queue queue' : List ℕ} {o : ℕ} → o < h.count → KnownQueue h queue → Serves h reach gap order o queue queue' → KnownQueue h queue'
serves_known {h} {o = o} l known (enqueues {queue = queue} e safe) = λ a at. go (listed_either queue o at)
  where
    go : {a : ℕ} → Listed queue a ⊎ (o ≡ a) → a < h.count
    go {a} (inl at) = known a at
    go (inr same) = omega arith
serves_known l known (dequeues {a = a} {queue = queue} out) = λ b at. known b (listed_behind a queue at)
serves_known l known (meets_empty e) = known

-- an operation that may be placed in one may be placed in the other
agree_safe : {h k : History} → Agree h k → {reach gap reach' gap' : ℕ → ℕ} → SameTables h reach gap reach' gap' → {order : List ℕ} {o : ℕ} → Is h add o → Safe h reach gap order o → Safe k reach' gap' order o
agree_safe a same {o = o} is safe = record {
  removes = λ b r adds left out.
      let there = agree_remove_of (agree_sym a) adds.known out in
      omega (arith, safe.removes b r (agree_is (agree_sym a) adds) (agree_left (agree_sym a) left) there, same.reaches o is, a.ret r there.removes.known);
  empties = λ e empty left.
      let there = agree_is (agree_sym a) empty in omega (arith, safe.empties e there (agree_left (agree_sym a) left), same.reaches o is, same.gaps e there);
}

agree_placeable : {h k : History} → Agree h k → {reach gap reach' gap' : ℕ → ℕ} → SameTables h reach gap reach' gap' → {order queue queue' : List ℕ} {o : ℕ} → KnownQueue h queue
    → Placeable h (Serves h reach gap) order queue o queue' → Placeable k (Serves k reach' gap') order queue o queue'
agree_placeable {h} {k} a {reach} {gap} {reach'} {gap'} same {order} {o = o} known p = record { enabled = agree_enabled a p.enabled; serves = go known p.serves }
  where
    here : o < h.count
    here = p.enabled.left.due.known

    kinds : {kind : ℕ} → h.kind o ≡ kind → k.kind o ≡ kind
    kinds e = sym (a.kind o here) ∙ e

    go : {queue queue' : List ℕ} → KnownQueue h queue → Serves h reach gap order o queue queue' → Serves k reach' gap' order o queue queue'
    go known (enqueues e safe) = enqueues (kinds e) (agree_safe a same (record { known = here; kinds = e }) safe)
    go known (dequeues {a = b} {queue = queue} out) = dequeues (agree_remove_of a (known b (listed_here b queue)) out)
    go known (meets_empty e) = meets_empty (kinds e)

-- so the search goes on alike in both
pub agree_continues : {h k : History} → Agree h k → {reach gap reach' gap' : ℕ → ℕ} → SameTables h reach gap reach' gap' → {order queue more : List ℕ} → KnownQueue h queue
    → Continues h (Serves h reach gap) order queue more → Continues k (Serves k reach' gap') order queue more
agree_continues a same known (ends none) = ends (λ o left. none o (agree_left (agree_sym a) left))
agree_continues a same known (places p lowest rest) =
    places (agree_placeable a same known p)
    (λ q other l there. lowest q other l (agree_placeable (agree_sym a) (agree_tables a same) (λ b at. agree_known a (known b at)) there))
    (agree_continues a same (serves_known p.enabled.left.due.known known p.serves) rest)

-- and finds the same order
agree_last_gap : {h k : History} → Agree h k → {e g : ℕ} → e < h.count → LastGap h e g → LastGap k e g
agree_last_gap {h} {k} a {e} l gap = record {
  lies = agree_gap a l gap.lies;
  uncovered = λ covered. gap.uncovered (agree_covered (agree_sym a) covered);
  last = λ later after lies. agree_covered a (gap.last later after (agree_gap (agree_sym a) (agree_known a l) lies));
}

pub agree_found : {h k : History} → Agree h k → {order : List ℕ} → Found h order → Found k order
agree_found a found = record {
  reach = found.reach;
  gap = found.gap;
  reaches = λ o is. let there = agree_is (agree_sym a) is in agree_reaches a there.known (found.reaches o there);
  gaps = λ e is. let there = agree_is (agree_sym a) is in agree_last_gap a there.known (found.gaps e there);
  continues = agree_continues a (record { reaches = λ o is. refl; gaps = λ e is. refl }) (λ b at. absurd (listed_none at)) found.continues;
}
