-- Parts that are not the whole, of a queue's history and of a cell's, and two histories that are alike and not the same: the
-- records can be met.
use Prim.Native.Nat.{ℕ, zero, suc, ◌<◌}
use native.Mathlib.Omega.{arith}
use native.Mathlib.Decide.{dec_lt, ℕ_discrete}
use mathlib.Core.Path.{◌≡◌, refl}
use mathlib.Core.Bool.{true, decide, decide_iff}
use mathlib.Core.Logic.Dec
use mathlib.Core.Logic.{◌↔◌}
use mathlib.Core.List.{[], ◌∷◌}
use lib.ListN.{get_or}
use Rattle.history.specs.History.{History, add, remove, empty_remove, write, initial_read, no_kind, Returned, Precedes}
use Rattle.history.proofs.Deciding.{all_below?, implies?}
use Rattle.violations.specs.Parts.{HasValue, KeptAs, Part, Alike}

-- A0( A0) Ra( Ra-) Rb( Rb-) of three operations, and without Rb of two
abbrev empties : ℕ → ℕ → History
empties count end = record {
  count = count;
  kind = λ o. get_or (add ∷ empty_remove ∷ empty_remove ∷ []) o 0;
  value = λ o. 0;
  call = λ o. get_or (0 ∷ 2 ∷ 4 ∷ []) o 0;
  ret = λ o. get_or (1 ∷ 3 ∷ 5 ∷ []) o 0;
  end = end;
}

-- The excerpt of its pattern 6: the value 0 is not shared by the empty remove that is left out, though its entry is 0 too.
pub excerpt : Part (empties 3 6) (empties 2 4)
excerpt = record {
  to = λ o. o;
  known = λ o l. omega arith;
  one = λ o p l m e. e;
  kind = λ o l. refl;
  returned = returned;
  precedes = λ o p l m. (λ x. x, λ x. x);
  value = λ o p x y. (λ e. e, λ e. e);
  whole = λ o p x y e. whole o x;
}
  where
    returned : (o : ℕ) → o < 2 → Returned (empties 3 6) o ↔ Returned (empties 2 4) o
    returned zero l = (λ x. omega arith, λ x. omega arith)
    returned (suc zero) l = (λ x. omega arith, λ x. omega arith)
    returned (suc (suc o)) l = absurd (omega arith)

    whole : (o : ℕ) → HasValue (empties 3 6) o → (q : ℕ) × KeptAs (empties 2 4) (λ o. o) o q
    whole zero x = (0, record { known = omega arith; is = refl })
    whole (suc zero) x = absurd (omega (arith, x.valued.1))
    whole (suc (suc zero)) x = absurd (omega (arith, x.valued.1))
    whole (suc (suc (suc o))) x = absurd (omega (arith, x.known))

-- W0( W0) Ra( Rb( Rb-) Rc( Rc-) of a cell, and the excerpt of its pattern 10, with all initial reads. Ra, which does not return, is
-- left out: it has no value, though its entry is that of the write.
abbrev initial_reads : History
initial_reads = record {
  count = 4;
  kind = λ o. get_or (write ∷ no_kind ∷ initial_read ∷ initial_read ∷ []) o 0;
  value = λ o. 0;
  call = λ o. get_or (0 ∷ 2 ∷ 3 ∷ 5 ∷ []) o 0;
  ret = λ o. get_or (1 ∷ 7 ∷ 4 ∷ 6 ∷ []) o 0;
  end = 7;
}

abbrev all_returned : History
all_returned = record {
  count = 3;
  kind = λ o. get_or (write ∷ initial_read ∷ initial_read ∷ []) o 0;
  value = λ o. 0;
  call = λ o. get_or (0 ∷ 2 ∷ 4 ∷ []) o 0;
  ret = λ o. get_or (1 ∷ 3 ∷ 5 ∷ []) o 0;
  end = 6;
}

abbrev kept_as : ℕ → ℕ
kept_as o = get_or (0 ∷ 2 ∷ 3 ∷ []) o 0

-- what is decided by computing
computed : {P : Type 0} (d : Dec P) → decide d ≡ true → P
computed d e = (decide_iff d).0 e

pub cell_excerpt : Part initial_reads all_returned
unfolding decide all_below? implies? Dec.and dec_lt ℕ_discrete
cell_excerpt = record {
  to = kept_as;
  known = computed (all_below? (λ o. dec_lt _ _) 3) refl;
  one = λ o p l m. one o l p m;
  kind = computed (all_below? (λ o. ℕ_discrete _ _) 3) refl;
  returned = computed (all_below? (λ o. Dec.and (implies? (dec_lt _ _) (dec_lt _ _)) (implies? (dec_lt _ _) (dec_lt _ _))) 3) refl;
  precedes = λ o p l m. precedes o l p m;
  value = λ o p x y. (λ e. refl, λ e. refl);
  whole = λ o p x y e. whole o x;
}
  where
    one : (o : ℕ) → o < 3 → (p : ℕ) → p < 3 → kept_as o ≡ kept_as p → o ≡ p
    one = computed (all_below? (λ o. all_below? (λ p. implies? (ℕ_discrete _ _) (ℕ_discrete _ _)) 3) 3) refl

    precedes : (o : ℕ) → o < 3 → (p : ℕ) → p < 3 → Precedes initial_reads (kept_as o) (kept_as p) ↔ Precedes all_returned o p
    precedes = computed (all_below? (λ o. all_below? (λ p. Dec.and (implies? (dec_lt _ _) (dec_lt _ _)) (implies? (dec_lt _ _) (dec_lt _ _))) 3) 3) refl

    whole : (o : ℕ) → HasValue initial_reads o → (q : ℕ) × KeptAs all_returned kept_as o q
    whole zero x = (0, record { known = omega arith; is = refl })
    whole (suc zero) x = absurd (omega (arith, x.valued.0))
    whole (suc (suc zero)) x = absurd (omega (arith, x.valued.1))
    whole (suc (suc (suc zero))) x = absurd (omega (arith, x.valued.1))
    whole (suc (suc (suc (suc o)))) x = absurd (omega (arith, x.known))

-- R( A7( R7) A7) and A9( R( R9) A9): the two calls have traded places, and the value is another
abbrev remove_first : History
remove_first = record {
  count = 2;
  kind = λ o. get_or (remove ∷ add ∷ []) o 0;
  value = λ o. 7;
  call = λ o. get_or (0 ∷ 1 ∷ []) o 0;
  ret = λ o. get_or (2 ∷ 3 ∷ []) o 0;
  end = 4;
}

abbrev add_first : History
add_first = record {
  count = 2;
  kind = λ o. get_or (add ∷ remove ∷ []) o 0;
  value = λ o. 9;
  call = λ o. get_or (0 ∷ 1 ∷ []) o 0;
  ret = λ o. get_or (3 ∷ 2 ∷ []) o 0;
  end = 4;
}

abbrev trade : ℕ → ℕ
trade o = get_or (1 ∷ 0 ∷ []) o 0

pub traded : Alike remove_first add_first
traded = record {
  to = trade;
  from = trade;
  to_known = below;
  from_known = below;
  back = twice;
  forth = twice;
  kind = kind;
  returned = returned;
  precedes = precedes;
  value = λ o p x y. (λ e. refl, λ e. refl);
}
  where
    below : (o : ℕ) → o < 2 → trade o < 2
    below zero l = omega arith
    below (suc zero) l = omega arith
    below (suc (suc o)) l = absurd (omega arith)

    twice : (o : ℕ) → o < 2 → trade (trade o) ≡ o
    twice zero l = refl
    twice (suc zero) l = refl
    twice (suc (suc o)) l = absurd (omega arith)

    kind : (o : ℕ) → o < 2 → add_first.kind (trade o) ≡ remove_first.kind o
    kind zero l = refl
    kind (suc zero) l = refl
    kind (suc (suc o)) l = absurd (omega arith)

    returned : (o : ℕ) → o < 2 → Returned add_first (trade o) ↔ Returned remove_first o
    returned zero l = (λ x. omega arith, λ x. omega arith)
    returned (suc zero) l = (λ x. omega arith, λ x. omega arith)
    returned (suc (suc o)) l = absurd (omega arith)

    precedes : (o p : ℕ) → o < 2 → p < 2 → Precedes add_first (trade o) (trade p) ↔ Precedes remove_first o p
    precedes zero zero l m = (λ x. omega arith, λ x. omega arith)
    precedes zero (suc zero) l m = (λ x. omega arith, λ x. omega arith)
    precedes (suc zero) zero l m = (λ x. omega arith, λ x. omega arith)
    precedes (suc zero) (suc zero) l m = (λ x. omega arith, λ x. omega arith)
    precedes (suc (suc o)) p l m = absurd (omega arith)
    precedes zero (suc (suc p)) l m = absurd (omega arith)
    precedes (suc zero) (suc (suc p)) l m = absurd (omega arith)
