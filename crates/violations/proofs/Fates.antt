-- A remove that has not returned comes back last: the history in which it does is lawful; patterns 1, 2, 3 and 5 of the history as it
-- stands occur in it too; and where coming back mends pattern 4 or 6, the value that it takes is known.
use Prim.Native.Nat.{ℕ, ◌-◌, ◌≤◌, ◌<◌}
use native.Mathlib.Omega.{arith}
use native.Mathlib.Decide.{ℕ_discrete}
use mathlib.Core.Path.{◌≡◌, refl, sym, ap, ◌∙◌}
use mathlib.Core.Logic.{◌⊎◌, inl, inr}
use mathlib.Core.List.{List}
use lib.Dec.{eqb}
use borrow.Author.Tests.{eq-eqb, ne_eqb}
use Rattle.std.specs.Prelude.{if◌then◌else◌}
use Rattle.history.specs.Object.{Queue}
use Rattle.history.specs.History.{History, add, remove, empty_remove, no_kind, Returned, Precedes, Lawful, Lone}
use Rattle.violations.specs.Violations.{Is, RemoveOf, Removed, Unknown, Twice, Early, Stuck, Overtaken, Gap, Reaches, removed, never, Covers, Covered, AllCovered, Occurs, unknown, twice, early, stuck, overtaken, false_empty, NoViolation}
use Rattle.violations.specs.Found.{LastGap}
use Rattle.violations.specs.Fates.{taking, Free}
use Rattle.violations.proofs.Operations.{remove_of?}
use Rattle.violations.proofs.Chains.{false_empty_lem, last_gap}

-- the history in which operation o comes back last, as an operation of this kind on this value
abbrev pub coming_back : History → ℕ → ℕ → ℕ → History
coming_back h o kind value = record {
  count = h.count;
  kind = λ p. if eqb p o then kind else h.kind p;
  value = λ p. if eqb p o then value else h.value p;
  call = h.call;
  ret = λ p. if eqb p o then h.end - 1 else h.ret p;
  end = h.end;
}

-- k is h, but for operation o, which has not returned in h and comes back in k, after every call, as a remove or an empty remove.
pub record ComesBack (h k : History) (o : ℕ) : Type 0 where
  pub count : k.count ≡ h.count
  pub end : k.end ≡ h.end
  pub pending : Is h no_kind o
  pub kinded : add < k.kind o
  pub small : k.kind o ≤ empty_remove
  pub back : k.ret o < k.end
  pub last : (p : ℕ) → p < h.count → h.call p < k.ret o
  pub call : (p : ℕ) → k.call p ≡ h.call p
  pub kind : (p : ℕ) → (p ≡ o → ⊥) → k.kind p ≡ h.kind p
  pub value : (p : ℕ) → (p ≡ o → ⊥) → k.value p ≡ h.value p
  pub ret : (p : ℕ) → (p ≡ o → ⊥) → k.ret p ≡ h.ret p

pub coming_back_lem : {h : History} → Lone h → {o : ℕ} → Is h no_kind o → (kind value : ℕ) → add < kind → kind ≤ empty_remove
    → ComesBack h (coming_back h o kind value) o
coming_back_lem {h} lone {o} pending kind value l m = record {
  count = refl;
  end = refl;
  pending = pending;
  kinded = rw (eq-eqb o o refl) l;
  small = rw (eq-eqb o o refl) m;
  back = rw (eq-eqb o o refl) (omega (arith, lone.spare o o pending.known pending.known pending.kinds));
  last = λ p k. rw (eq-eqb o o refl) (omega (arith, lone.spare o p pending.known k pending.kinds));
  call = λ p. refl;
  kind = λ p n. rw (ne_eqb p o n) refl;
  value = λ p n. rw (ne_eqb p o n) refl;
  ret = λ p n. rw (ne_eqb p o n) refl;
}

-- It comes back with the value of an add.
pub taking_back : {h : History} → Lone h → {o : ℕ} → Is h no_kind o → (a : ℕ) → ComesBack h (taking h o a) o
taking_back {h} lone pending a = coming_back_lem lone pending remove (h.value a) (omega arith) (omega arith)

pub taking_takes : {h : History} {o a : ℕ} → Is h no_kind o → Is h add a → RemoveOf (taking h o a) a o
taking_takes {h} {o} {a} pending adds =
    let other : a ≡ o → ⊥ = λ e. omega (arith, ap h.kind e, adds.kinds, pending.kinds) in
    record { removes = record { known = pending.known; kinds = rw (eq-eqb o o refl) refl }; same = rw (eq-eqb o o refl, ne_eqb a o other) refl }

module _ {h k : History} {o : ℕ} (c : ComesBack h k o) where
  -- an operation that has a kind in h is not o, and has the same kind in k
  pub kinded_other : {kind p : ℕ} → Is h kind p → add ≤ kind → p ≡ o → ⊥
  kinded_other is l e = omega (arith, ap h.kind e, is.kinds, c.pending.kinds)

  pub is_there : {kind p : ℕ} → Is h kind p → add ≤ kind → Is k kind p
  is_there {p = p} is l = record { known = omega (arith, is.known, c.count); kinds = c.kind p (kinded_other is l) ∙ is.kinds }

  add_other : {p : ℕ} → Is k add p → p ≡ o → ⊥
  add_other is e = omega (arith, ap k.kind e, is.kinds, c.kinded)

  pub is_here : {kind p : ℕ} → Is k kind p → (p ≡ o → ⊥) → Is h kind p
  is_here {p = p} is n = record { known = omega (arith, is.known, c.count); kinds = sym (c.kind p n) ∙ is.kinds }

  add_here : {p : ℕ} → Is k add p → Is h add p
  add_here is = is_here is (add_other is)

  pub remove_there : {a r : ℕ} → Is h add a → RemoveOf h a r → RemoveOf k a r
  remove_there {a} {r} is out = record {
    removes = is_there out.removes (omega arith);
    same = c.value r (kinded_other out.removes (omega arith)) ∙ out.same ∙ sym (c.value a (kinded_other is (omega arith)));
  }

  pub remove_here : {a r : ℕ} → Is h add a → RemoveOf k a r → (r ≡ o → ⊥) → RemoveOf h a r
  remove_here {a} {r} is out n = record {
    removes = is_here out.removes n;
    same = sym (c.value r n) ∙ out.same ∙ c.value a (kinded_other is (omega arith));
  }

  precedes_there : {p q : ℕ} → (p ≡ o → ⊥) → Precedes h p q → Precedes k p q
  precedes_there {p} {q} n l = omega (arith, c.ret p n, c.call q)

  -- an add that is not removed, and whose value it does not take, is not removed there either
  never_there : {a : ℕ} → Is h add a → (RemoveOf k a o → ⊥) → (Removed h a → ⊥) → Removed k a → ⊥
  never_there {a} is free n (r, out) = go (ℕ_discrete r o)
    where
      go : Dec (r ≡ o) → ⊥
      go (yes e) = free (rw e at out)
      go (no m) = n (r, remove_here is out m)

  covers_there : {a reach g : ℕ} → (RemoveOf k a o → ⊥) → Covers h a reach g → Covers k a reach g
  covers_there {a} {reach} {g} free x = record {
    adds = is_there x.adds (omega arith);
    reaches = go x.reaches;
    from = omega (arith, x.from, c.ret a (kinded_other x.adds (omega arith)));
    until = x.until;
  }
    where
      go : Reaches h a reach → Reaches k a reach
      go (removed r out e) = removed r (remove_there x.adds out) (c.call r ∙ e)
      go (never n e) = never (never_there x.adds free n) (c.end ∙ e)

  -- patterns 1, 2, 3 and 5 stay, and 4 if its first add is another
  unknown_there : {r : ℕ} → Unknown h r → Unknown k r
  unknown_there u = record {
    removes = is_there u.removes (omega arith);
    unnamed = λ a is out. u.unnamed a (add_here is) (remove_here (add_here is) out (kinded_other u.removes (omega arith)));
  }

  twice_there : {r s : ℕ} → Twice h r s → Twice k r s
  twice_there {r} {s} t = record {
    first = is_there t.first (omega arith);
    second = is_there t.second (omega arith);
    lower = t.lower;
    same = c.value r (kinded_other t.first (omega arith)) ∙ t.same ∙ sym (c.value s (kinded_other t.second (omega arith)));
  }

  early_there : {r a : ℕ} → Early h r a → Early k r a
  early_there t = record {
    adds = is_there t.adds (omega arith);
    removes = remove_there t.adds t.removes;
    before = precedes_there (kinded_other t.removes.removes (omega arith)) t.before;
  }

  stuck_there : {a b r : ℕ} → (RemoveOf k a o → ⊥) → Stuck h a b r → Stuck k a b r
  stuck_there free t = record {
    first = is_there t.first (omega arith);
    second = is_there t.second (omega arith);
    before = precedes_there (kinded_other t.first (omega arith)) t.before;
    removes = remove_there t.second t.removes;
    never = never_there t.first free t.never;
  }

  overtaken_there : {a b r s : ℕ} → Overtaken h a b r s → Overtaken k a b r s
  overtaken_there t = record {
    first = is_there t.first (omega arith);
    second = is_there t.second (omega arith);
    added_before = precedes_there (kinded_other t.first (omega arith)) t.added_before;
    removes = remove_there t.second t.removes;
    removes_late = remove_there t.first t.removes_late;
    overtakes = precedes_there (kinded_other t.removes.removes (omega arith)) t.overtakes;
  }

  gap_here : {e g : ℕ} → Is h empty_remove e → Gap k e g → Gap h e g
  gap_here {e} is x = record { from = omega (arith, x.from, c.call e); until = omega (arith, x.until, c.ret e (kinded_other is (omega arith))) }

  -- Coming back mends pattern n, which is 4 or 6, by taking the value of add x. That add has returned, and every other add that
  -- is not removed returns later.
  pub record Mends (n x : ℕ) : Type 0 where
    pub number : (n ≡ 4) ⊎ (n ≡ 6)
    pub adds : Is h add x
    pub takes : RemoveOf k x o
    pub back : Returned h x
    pub first : (b : ℕ) → Free h b → (b ≡ x → ⊥) → h.ret x < h.ret b

-- The history in which it comes back is lawful, and where it has no pattern, coming back mends the patterns that there were.
module _ {h k : History} {o : ℕ} (lawful : Lawful h) (c : ComesBack h k o) where
  pub comes_back_lawful : Lawful k
  comes_back_lawful = record {
    kinds = λ p l. kinds p (back l) (ℕ_discrete p o);
    spans = λ p l. spans p (back l) (ℕ_discrete p o);
    ends = λ p l. ends p (back l) (ℕ_discrete p o);
    returned = λ p l m. returned p (back l) m (ℕ_discrete p o);
    unreturned = λ p l e r. unreturned p (back l) e r (ℕ_discrete p o);
    apart = λ p q l m e. apart p q (back l) (back m) e (ℕ_discrete p o);
    numbered = λ p q less m. omega (arith, lawful.numbered p q less (back m), c.call p, c.call q);
    once = λ a b l m e f same.
        let is : Is h add a = add_here c (record { known = l; kinds = e }) in
        let is' : Is h add b = add_here c (record { known = m; kinds = f }) in
        lawful.once a b is.known is'.known is.kinds is'.kinds
        (sym (c.value a (kinded_other c is (omega arith))) ∙ same ∙ c.value b (kinded_other c is' (omega arith)));
  }
    where
      back : {p : ℕ} → p < k.count → p < h.count
      back l = omega (arith, c.count)

      kinds : (p : ℕ) → p < h.count → Dec (p ≡ o) → k.kind p ≤ empty_remove
      kinds p l (yes e) = rw e c.small
      kinds p l (no n) = omega (arith, c.kind p n, lawful.kinds p l)

      spans : (p : ℕ) → p < h.count → Dec (p ≡ o) → k.call p < k.ret p
      spans p l (yes e) = omega (arith, c.call p, c.last p l, ap k.ret e)
      spans p l (no n) = omega (arith, c.call p, c.ret p n, lawful.spans p l)

      ends : (p : ℕ) → p < h.count → Dec (p ≡ o) → k.ret p ≤ k.end
      ends p l (yes e) = omega (arith, c.back, ap k.ret e)
      ends p l (no n) = omega (arith, c.ret p n, c.end, lawful.ends p l)

      returned : (p : ℕ) → p < h.count → add < k.kind p → Dec (p ≡ o) → k.ret p < k.end
      returned p l m (yes e) = omega (arith, c.back, ap k.ret e)
      returned p l m (no n) = omega (arith, c.ret p n, c.end, lawful.returned p l (omega (arith, c.kind p n)))

      unreturned : (p : ℕ) → p < h.count → k.kind p ≡ no_kind → k.ret p < k.end → Dec (p ≡ o) → ⊥
      unreturned p l e r (yes same) = omega (arith, c.kinded, ap k.kind same)
      unreturned p l e r (no n) = lawful.unreturned p l (sym (c.kind p n) ∙ e) (omega (arith, c.ret p n, c.end))

      apart : (p q : ℕ) → p < h.count → q < h.count → k.ret p ≡ k.call q → Dec (p ≡ o) → ⊥
      apart p q l m e (yes same) = omega (arith, c.call q, c.last q m, ap k.ret same)
      apart p q l m e (no n) = lawful.apart p q l m (sym (c.ret p n) ∙ e ∙ c.call q)

  -- only one value is taken
  pub takes_one : {a b : ℕ} → Is h add a → Is h add b → RemoveOf k a o → RemoveOf k b o → a ≡ b
  takes_one {a} {b} is is' out off =
      let value : h.value a ≡ h.value b =
      sym (c.value a (kinded_other c is (omega arith))) ∙ sym out.same ∙ off.same ∙ c.value b (kinded_other c is' (omega arith)) in
      lawful.once a b is.known is'.known is.kinds is'.kinds value

  -- Where a pattern occurs, and none does when it comes back, it has taken a value. It was pattern 4, whose first add is the one
  -- that is taken, or 6, where that add covered a gap that is not covered any more; any other add that is not removed and has
  -- returned no later would be stuck, or cover the gap, still.
  pub mends : NoViolation Queue k → {n : ℕ} {listed : List ℕ} → Occurs Queue h n listed → (x : ℕ) × Mends c n x
  mends clean (unknown x) = absurd (clean _ _ (unknown (unknown_there c x)))
  mends clean (twice x) = absurd (clean _ _ (twice (twice_there c x)))
  mends clean (early x) = absurd (clean _ _ (early (early_there c x)))
  mends clean (overtaken x) = absurd (clean _ _ (overtaken (overtaken_there c x)))
  mends clean (stuck {a = a} {b = b} t) = go (remove_of? k a o)
    where
      go : Dec (RemoveOf k a o) → (x : ℕ) × Mends c 4 x
      go (no free) = absurd (clean _ _ (stuck (stuck_there c free t)))
      go (yes out) = (
        a,
        record {
          number = inl refl;
          adds = t.first;
          takes = out;
          back = omega (arith, t.before, lawful.spans b t.second.known, lawful.ends b t.second.known);
          first = first;
        },
      )
        where
          first : (d : ℕ) → Free h d → (d ≡ a → ⊥) → h.ret a < h.ret d
          first d free n =
              let sooner : h.ret d ≤ h.ret a → Stuck h d b _ = λ l. record {
                first = free.adds;
                second = t.second;
                before = omega (arith, t.before);
                removes = t.removes;
                never = free.unremoved;
              } in
              let later : h.ret d ≤ h.ret a → ⊥ = λ l. clean _ _ (stuck (stuck_there c (λ off. n (takes_one free.adds t.first off out)) (sooner l))) in
              omega arith
  mends clean (false_empty {e = e} x) = go (last_gap k e)
    where
      at : (g : ℕ) → LastGap k e g → (x : ℕ) × Mends c 6 x
      at g last = by (x.covered g gap)
        where
          gap : Gap h e g
          gap = gap_here c x.empties last.lies

          by : Covered h g → (x : ℕ) × Mends c 6 x
          by (a, reach, covers) = taken (remove_of? k a o)
            where
              taken : Dec (RemoveOf k a o) → (x : ℕ) × Mends c 6 x
              taken (no free) = absurd (last.uncovered (a, reach, covers_there c free covers))
              taken (yes out) = (
                a,
                record {
                  number = inr refl;
                  adds = covers.adds;
                  takes = out;
                  back = omega (arith, covers.from, gap.until, lawful.ends e x.empties.known);
                  first = first;
                },
              )
                where
                  first : (d : ℕ) → Free h d → (d ≡ a → ⊥) → h.ret a < h.ret d
                  first d free n =
                      let still : h.ret d ≤ h.ret a → Covers h d h.end g = λ l. record {
                        adds = free.adds;
                        reaches = never free.unremoved refl;
                        from = omega (arith, covers.from);
                        until = omega (arith, gap.until, lawful.ends e x.empties.known);
                      } in
                      let other : RemoveOf k d o → ⊥ = λ off. n (takes_one free.adds covers.adds off out) in
                      let later : h.ret d ≤ h.ret a → ⊥ = λ l. last.uncovered (d, h.end, covers_there c other (still l)) in
                      omega arith

      go : AllCovered k e ⊎ ((g : ℕ) × LastGap k e g) → (x : ℕ) × Mends c 6 x
      go (inl covered) = let (chain, f) = false_empty_lem (is_there c x.empties (omega arith)) covered in absurd (clean _ _ (false_empty f))
      go (inr (g, last)) = at g last
