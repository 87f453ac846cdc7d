-- The order that the search finds is the lowest of the orders as the judge lists them, whatever is benched: whatever such an order
-- goes on with is enabled, and if it is placeable too, the search, which places the lowest, cannot have been undercut.
use Prim.Native.Nat.{ℕ, ◌≤◌, ◌<◌}
use native.Mathlib.Omega.{arith}
use mathlib.Core.Path.{◌≡◌, sym, ap, ◌∙◌}
use mathlib.Core.List.{List, [], ◌∷◌, ◌++◌, append-nil}
use lib.ListN.{length, length-append, get_or-append}
use lib.Seq.{append_snoc, get_or-append_seam}
use Rattle.history.specs.Object.{Object}
use Rattle.history.specs.History.{History, Precedes, Lawful}
use Rattle.history.specs.Linearization.{placed, Listed}
use Rattle.violations.specs.Verdict.{Lower, here, further, JudgedLinearization}
use Rattle.violations.specs.Greedy.{Left, Enabled, Placeable, Continues, ends, places}
use Rattle.violations.proofs.Lists.{snoc}
use Rattle.violations.proofs.Judged.{judged_due, due_judged}
use Rattle.violations.proofs.Orderings.{same_place, in_order}

-- An order goes on, after `order`, with o.
module _ (order : List ℕ) (o : ℕ) (rest : List ℕ) where
  abbrev pub whole : List ℕ
  whole = order ++ (o ∷ rest)

  abbrev pub goes_on_at : Listed whole o
  goes_on_at = record { at = length order; below = omega (arith, length-append order (o ∷ rest)); here = get_or-append_seam order o rest 0 }

  -- what is placed stands where it did
  abbrev pub listed_there : {p : ℕ} → Listed order p → Listed whole p
  listed_there l = record {
    at = l.at;
    below = omega (arith, length-append order (o ∷ rest), l.below);
    here = get_or-append order (o ∷ rest) 0 l.at l.below ∙ l.here;
  }

  -- what is left stands at the place of o or after it
  left_behind : {h : History} {p : ℕ} → Left h order p → (l : Listed whole p) → length order ≤ l.at
  left_behind left l =
      let not_before : l.at < length order → ⊥ = λ b. left.unplaced (record {
        at = l.at;
        below = b;
        here = sym (get_or-append order (o ∷ rest) 0 l.at b) ∙ l.here;
      }) in
      omega arith

  -- and if it is another, after it
  pub other_behind : {h : History} {p : ℕ} → Left h order p → (o ≡ p → ⊥) → (l : Listed whole p) → length order < l.at
  other_behind left n l =
      let not-here : length order ≡ l.at → ⊥ = λ e. n (sym goes_on_at.here ∙ ap (placed whole) e ∙ l.here) in
      omega (arith, left_behind left l)

-- If it is an order as the judge lists it, o is left, and enabled.
module _ {object : Object} {h : History} (lawful : Lawful h) (order : List ℕ) (o : ℕ) (rest : List ℕ)
    (judged : JudgedLinearization object h (order ++ (o ∷ rest))) where
  abbrev at_o : Listed (whole order o rest) o
  at_o = goes_on_at order o rest

  pub goes_on_left : Left h order o
  goes_on_left = record { due = rw at_o.here at (judged_due lawful judged at_o.at at_o.below); unplaced = unplaced }
    where
      unplaced : Listed order o → ⊥
      unplaced l =
          let m = listed_there order o rest l in
          omega (arith, l.below, same_place judged.legal.ordering l.at (length order) m.below at_o.below (m.here ∙ sym at_o.here))

  pub goes_on_enabled : Enabled h order o
  goes_on_enabled = record { left = goes_on_left; first = first }
    where
      first : (p : ℕ) → Left h order p → h.call o < h.ret p
      first p l =
          let m = due_judged lawful judged l.due in
          let not_before : Precedes h p o → ⊥ = λ before. omega (arith, in_order judged.legal.ordering lawful before m at_o, left_behind order o rest l m) in
          let apart : h.ret p ≡ h.call o → ⊥ = lawful.apart p o l.due.known goes_on_left.due.known in
          omega arith

-- After a common start no order as the judge lists it is lower than what the search lists. `Stands` is whatever holds while
-- operations are placed and lets one place what such an order goes on with.
module _ {object : Object} {S : Type 0} {h : History} {Serves : List ℕ → ℕ → S → S → Type 0} (lawful : Lawful h) (Stands : List ℕ → S → Type 0)
    (stands-more : (order : List ℕ) (s s' : S) (o : ℕ) → Stands order s → Placeable h Serves order s o s' → Stands (snoc order o) s')
    (next : (order : List ℕ) (s : S) (o : ℕ) (rest : List ℕ) → Stands order s → JudgedLinearization object h (order ++ (o ∷ rest))
    → (s' : S) × Placeable h Serves order s o s') where
  pub continues_lowest : {order found : List ℕ} {s : S} → Continues h Serves order s found → Stands order s → (other : List ℕ)
      → JudgedLinearization object h (order ++ other) → Lower other found → ⊥
  continues_lowest (ends none) stands [] judged lower = elim lower [ ]
  continues_lowest {order} {s = s} (ends none) stands (x ∷ xs) judged lower = none x (next order s x xs stands judged).1.enabled.left
  continues_lowest {order} (places p low rest) stands [] judged lower =
      p.enabled.left.unplaced (due_judged lawful (rw (append-nil order) at judged) p.enabled.left.due)
  continues_lowest {order} {s = s} (places {more = more} {s' = s'} {o = o} p low rest) stands (x ∷ xs) judged lower =
      by lower (continues_lowest rest (stands-more order s s' o stands p))
    where
      by : Lower (x ∷ xs) (o ∷ more) → ((other : List ℕ) → JudgedLinearization object h (snoc order o ++ other) → Lower other more → ⊥) → ⊥
      by (here l) again = let (there, q) = next order s x xs stands judged in low x there l q
      by (further e l) again = again xs (rw (append_snoc order o xs, ← e) judged) l
