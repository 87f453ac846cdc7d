-- What an operation makes of the queue that the code keeps in an array.
use Prim.Native.Nat.{ℕ, ◌+◌, ◌-◌, ◌≤◌, ◌<◌}
use native.Mathlib.Omega.{arith}
use native.Mathlib.Numerals.{add-one}
use mathlib.Core.Path.{◌≡◌, refl, sym, ap, ◌∙◌}
use mathlib.Core.List.{List, [], ◌∷◌, ◌++◌}
use lib.ListN.{length, get_or, set, take, length-set}
use lib.Seq.{slice, slice_empty, slice-cons, length-slice, take-suc-set, drop-append-le, length-take-le}
use Rattle.std.specs.Prelude.{Some, None}
use Rattle.reader.specs.Log.{max_records}
use Rattle.history.specs.History.{add, remove, empty_remove, no_kind}
use Rattle.history.specs.Linearization.{puts, takes, meets, makes, takes_front, finds_none}
use Rattle.replay.specs.Trial.{waiting, Serves}
use Rattle.replay.specs.declared.order.Progress.{Progress}
use Rattle.history.proofs.Queues.{makes_remove, makes_empty, moves_kinded}

module _ (kind value : ℕ) (p : Progress) (queue : List ℕ) (held : (p.head ≤ p.tail) × (p.tail < max_records) × (length queue ≡ max_records)) where
  few : length (waiting p queue) ≡ p.tail - p.head
  few = length-slice p.head p.tail queue (omega arith)

  -- an add puts its value at the back
  back : waiting (record { latest = p.latest; head = p.head; tail = p.tail + 1 }) (set queue p.tail value) ≡ waiting p queue ++ (value ∷ [])
  back = rw (add-one, take-suc-set queue p.tail value (omega arith)) (drop-append-le p.head (take p.tail queue) (value ∷ []) (omega (arith, length-take-le p.tail queue (omega arith))))

  pub serves_add : kind ≡ add → Serves kind value p queue (Some (record { latest = p.latest; head = p.head; tail = p.tail + 1 })) (set queue p.tail value)
  serves_add k = record {
    sized = length-set queue p.tail value ∙ held.2;
    served = λ h o e v. (rw (back, ← v) (makes (puts (e ∙ k))), refl, omega arith, omega arith);
  }

  -- a remove with a value takes it from the front
  front : p.head < p.tail → waiting p queue ≡ get_or queue p.head 0 ∷ slice (p.head + 1) p.tail queue
  front l = rw add-one (slice-cons p.head p.tail queue 0 l (omega arith))

  pub serves_remove : kind ≡ remove → (p.head ≡ p.tail → ⊥) → get_or queue p.head 0 ≡ value
      → Serves kind value p queue (Some (record { latest = p.latest; head = p.head + 1; tail = p.tail })) queue
  serves_remove k n f = record {
    sized = held.2;
    served = λ h o e v. (rw (front (omega arith)) (makes (takes (e ∙ k) (v ∙ sym f))), refl, omega arith, omega arith);
  }

  pub serves_not_there : kind ≡ remove → p.head ≡ p.tail → Serves kind value p queue None queue
  serves_not_there k e = record {
    sized = held.2;
    served = λ h o ek v rest moved. omega (arith, few, ap length (makes_remove (moves_kinded moved (omega arith)) (ek ∙ k)));
  }

  pub serves_not_front : kind ≡ remove → (p.head ≡ p.tail → ⊥) → (get_or queue p.head 0 ≡ value → ⊥) → Serves kind value p queue None queue
  serves_not_front k n f = record {
    sized = held.2;
    served = λ h o ek v rest moved. let same : get_or queue p.head 0 ∷ slice (p.head + 1) p.tail queue ≡ h.value o ∷ rest = sym (front (omega arith)) ∙ makes_remove (moves_kinded moved (omega arith)) (ek ∙ k) in f (ap (λ l. get_or l 0 0) same ∙ v);
  }

  -- an empty remove meets an empty queue
  pub serves_empty : kind ≡ empty_remove → p.head ≡ p.tail → Serves kind value p queue (Some p) queue
  serves_empty k e = record {
    sized = held.2;
    served = λ h o ek v. (rw (e, slice_empty p.tail queue) (makes (meets (ek ∙ k))), refl, omega arith, omega arith);
  }

  pub serves_not_empty : kind ≡ empty_remove → (p.head ≡ p.tail → ⊥) → Serves kind value p queue None queue
  serves_not_empty k n = record {
    sized = held.2;
    served = λ h o ek v rest moved. omega (arith, few, ap length (makes_empty (moves_kinded moved (omega arith)) (ek ∙ k)));
  }

  -- a remove that has not returned takes the front value if there is one, and otherwise changes nothing
  pub serves_front : kind ≡ no_kind → (p.head ≡ p.tail → ⊥)
      → Serves kind value p queue (Some (record { latest = p.latest; head = p.head + 1; tail = p.tail })) queue
  serves_front k n = record {
    sized = held.2;
    served = λ h o e v. (rw (front (omega arith)) (takes_front (e ∙ k)), refl, omega arith, omega arith);
  }

  pub serves_idle : kind ≡ no_kind → p.head ≡ p.tail → Serves kind value p queue (Some p) queue
  serves_idle k e = record {
    sized = held.2;
    served = λ h o ek v. (rw (e, slice_empty p.tail queue) (finds_none (ek ∙ k)), refl, omega arith, omega arith);
  }
