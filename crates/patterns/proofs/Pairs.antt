-- The pairs of adds of which one blocks the other are the pairs with which the patterns 4 and 5 occur in the history.
use Prim.Native.Nat.{ℕ, ◌-◌, ◌<◌}
use native.Mathlib.Omega.{arith}
use native.Mathlib.Decide.{dec_lt}
use mathlib.Core.Path.{◌≡◌, refl}
use mathlib.Core.List.{List, [], ◌∷◌}
use borrow.Author.Tests.{eq-eqb, ne_eqb}
use Rattle.reader.specs.Search.{None}
use Rattle.history.specs.Object.{Queue}
use Rattle.history.specs.History.{History, add, Precedes}
use Rattle.history.specs.Table.{tabled}
use Rattle.violations.specs.Violations.{Is, RemoveOf, Stuck, Overtaken, removed, never, Occurs, unknown, twice, early, stuck, overtaken, false_empty}
use Rattle.violations.specs.Verdict.{Lower, FirstViolation}
use Rattle.violations.proofs.Lowest.{lower_differs}
use Rattle.violations.proofs.Operations.{is_returned}
use Rattle.violations.proofs.Constructing.{tables_match}
use Rattle.matching.specs.Held.{Held}
use Rattle.matching.specs.Answers.{First}
use Rattle.matching.specs.Matching.{partner_at, Partners}
use Rattle.matching.specs.Reaches.{reach_at, Reaching}
use Rattle.matching.proofs.Firsts.{first_not_above}
use Rattle.matching.proofs.Partnering.{remover_latest, remover_of, remover_is, unpartnered_never, never_unpartnered}
use Rattle.patterns.specs.Blocked.{Blocks, pattern_by, Blocking}
use Rattle.patterns.proofs.Lower.{not_lower}

-- an add that is never removed shows pattern 4, one that is removed pattern 5
stuck_pattern : (partner : List ℕ) (a : ℕ) → partner_at partner a ≡ 0 → pattern_by partner a ≡ 4
stuck_pattern partner a e = rw (eq-eqb (partner_at partner a) 0 e) refl

overtaken_pattern : (partner : List ℕ) (a : ℕ) → 0 < partner_at partner a → pattern_by partner a ≡ 5
overtaken_pattern partner a l = rw (ne_eqb (partner_at partner a) 0 (λ e. omega arith)) refl

-- A list begins with an add that shows a pattern and one that it blocks; `rest` says how a list goes on that begins with them.
record Pair (table : List ℕ) (count : ℕ) (partner reach : List ℕ) (pattern : ℕ) (rest : ℕ → ℕ → List ℕ) (listed : List ℕ) : Type 0 where
  first : ℕ
  second : ℕ
  known : first < count
  shows : Blocking table count partner reach pattern first
  blocks : Blocks table partner reach first second
  lists : listed ≡ first ∷ second ∷ rest first second

module _ {count end : ℕ} {table partner reach : List ℕ} (held : Held (tabled count end table)) (partners : Partners table count partner) (right : Reaching (tabled count end table) reach)
    (clean : (n : ℕ) (listed : List ℕ) → n < 4 → Occurs Queue (tabled count end table) n listed → ⊥) where
  abbrev h : History
  h = tabled count end table

  abbrev Shown : ℕ → (ℕ → ℕ → List ℕ) → List ℕ → Type 0
  Shown = Pair table count partner reach

  -- what the patterns 4 and 5 list behind the adds: their removes
  abbrev stuck_rest : ℕ → ℕ → List ℕ
  stuck_rest a b = (partner_at partner b - 1) ∷ []

  abbrev overtaken_rest : ℕ → ℕ → List ℕ
  overtaken_rest a b = (partner_at partner b - 1) ∷ (partner_at partner a - 1) ∷ []

  -- the only remove of an add's value is the partner of the add
  remove_is : {a r : ℕ} → Is h add a → RemoveOf h a r → r ≡ partner_at partner a - 1
  remove_is adds out = omega (arith, remover_is held partners (tables_match right.reaches (λ n listed l. clean n listed (omega arith))).single adds out)

  -- an add blocks another that it precedes and that is removed while the first's value is still there
  pair_shown : {n a b r : ℕ} {rest : ℕ → ℕ → List ℕ} {listed : List ℕ} → Is h add a → Is h add b → Precedes h a b → RemoveOf h b r → h.ret r < reach_at reach a
      → pattern_by partner a ≡ n → listed ≡ a ∷ b ∷ rest a b → Shown n rest listed
  pair_shown {a = a} {b = b} adds adds' before out l is lists =
      record { first = a; second = b; known = adds.known; shows = record { adds = adds.kinds; is = is; some = (b, adds'.known, there) }; blocks = there; lists = lists }
    where
      there : Blocks table partner reach a b
      there = record { adds = adds'.kinds; removed = omega (arith, remover_latest held partners adds' out); before = before; early = rw (← (remove_is adds' out)) l }

  -- Pattern 4: the value of the first add is there until the end.
  stuck_shown : (listed : List ℕ) → Occurs Queue h 4 listed → Shown 4 stuck_rest listed
  stuck_shown _ (stuck {a = a} t) =
      pair_shown t.first t.second t.before t.removes
      (omega (arith, is_returned held.lawful t.removes.removes (omega arith), right.only a end t.first (never t.never refl)))
      (stuck_pattern partner a (never_unpartnered held partners t.first t.never))
      (rw (← (remove_is t.second t.removes)) refl)

  blocks_stuck : (a b : ℕ) → Is h add a → Is h add b → pattern_by partner a ≡ 4 → Blocks table partner reach a b → Stuck h a b (partner_at partner b - 1)
  blocks_stuck a b first second is there = record {
    first = first;
    second = second;
    before = there.before;
    removes = remover_of held partners second there.removed;
    never = unpartnered_never held partners first (go (dec_lt 0 (partner_at partner a)));
  }
    where
      go : Dec (0 < partner_at partner a) → partner_at partner a ≡ 0
      go (yes some) = absurd (omega (arith, overtaken_pattern partner a some))
      go (no none) = omega arith

  -- Pattern 5: the value of the first add is there until its remove is called.
  overtaken_shown : (listed : List ℕ) → Occurs Queue h 5 listed → Shown 5 overtaken_rest listed
  overtaken_shown _ (overtaken {a = a} {s = s} t) =
      pair_shown t.first t.second t.added_before t.removes
      (omega (arith, t.overtakes, right.only a (h.call s) t.first (removed s t.removes_late refl)))
      (overtaken_pattern partner a (omega (arith, remover_latest held partners t.first t.removes_late)))
      (rw (← (remove_is t.second t.removes), ← (remove_is t.first t.removes_late)) refl)

  blocks_overtaken : (a b : ℕ) → Is h add a → Is h add b → pattern_by partner a ≡ 5 → Blocks table partner reach a b → Overtaken h a b (partner_at partner b - 1) (partner_at partner a - 1)
  blocks_overtaken a b first second is there = record {
    first = first;
    second = second;
    added_before = there.before;
    removes = remover_of held partners second there.removed;
    removes_late = late;
    overtakes = omega (arith, there.early, right.only a (h.call (partner_at partner a - 1)) first (removed (partner_at partner a - 1) late refl));
  }
    where
      some : partner_at partner a ≡ 0 → ⊥
      some e = omega (arith, stuck_pattern partner a e)

      late : RemoveOf h a (partner_at partner a - 1)
      late = remover_of held partners first (omega (arith, some))

  -- Below k, one of 4 to 6, no pattern occurs if no add shows one.
  below_ruled_out : (k : ℕ) → k < 7 → (4 < k → None (Blocking table count partner reach 4) count) → (5 < k → None (Blocking table count partner reach 5) count)
      → (n : ℕ) (listed : List ℕ) → n < k → Occurs Queue h n listed → ⊥
  below_ruled_out k small unstuck in_turn _ _ l (unknown t) = clean 1 _ (omega arith) (unknown t)
  below_ruled_out k small unstuck in_turn _ _ l (twice t) = clean 2 _ (omega arith) (twice t)
  below_ruled_out k small unstuck in_turn _ _ l (early t) = clean 3 _ (omega arith) (early t)
  below_ruled_out k small unstuck in_turn _ _ l (stuck t) = let s = stuck_shown _ (stuck t) in unstuck l s.first s.known s.shows
  below_ruled_out k small unstuck in_turn _ _ l (overtaken t) = let s = overtaken_shown _ (overtaken t) in in_turn l s.first s.known s.shows
  below_ruled_out k small unstuck in_turn _ _ l (false_empty t) = omega arith

  -- The lowest pair that shows a pattern is the first violation, if no lower pattern occurs.
  pair_first : {n : ℕ} {rest : ℕ → ℕ → List ℕ} → ((listed : List ℕ) → Occurs Queue h n listed → Shown n rest listed)
      → ((a b : ℕ) → Is h add a → Is h add b → pattern_by partner a ≡ n → Blocks table partner reach a b → Occurs Queue h n (a ∷ b ∷ rest a b))
      → ((m : ℕ) (listed : List ℕ) → m < n → Occurs Queue h m listed → ⊥)
      → {a b : ℕ} → First (Blocking table count partner reach n) count a → a < count → First (Blocks table partner reach a) count b
      → (b < count) × FirstViolation Queue h n (a ∷ b ∷ rest a b)
  pair_first {n} {rest} shown occurs lower {a} {b} first l second = (
    below,
    record {
      occurs = occurs a b (record { known = l; kinds = (first.holds l).adds }) (record { known = below; kinds = (second.holds below).adds }) (first.holds l).is (second.holds below);
      lowest_number = lower;
      lowest_list = λ other there. lowest (shown other there);
    },
  )
    where
      below : b < count
      below = let (other, m, there) = (first.holds l).some in omega (arith, first_not_above second there)

      lowest : {other : List ℕ} → Shown n rest other → Lower other (a ∷ b ∷ rest a b) → ⊥
      lowest s = rw s.lists (not_lower (first_not_above first s.shows) (λ e. not_lower (first_not_above second (rw e at s.blocks)) (λ e' less. lower_differs less (rw (e, e') refl))))

  -- Pattern 4 is the first violation if an add shows it, 5 if an add shows it and none shows 4.
  pub stuck_first : {a b : ℕ} → First (Blocking table count partner reach 4) count a → a < count → First (Blocks table partner reach a) count b
      → (b < count) × FirstViolation Queue h 4 (a ∷ b ∷ (partner_at partner b - 1) ∷ [])
  stuck_first = pair_first stuck_shown (λ a b first second is there. stuck (blocks_stuck a b first second is there)) clean

  pub overtaken_first : None (Blocking table count partner reach 4) count → {a b : ℕ} → First (Blocking table count partner reach 5) count a → a < count → First (Blocks table partner reach a) count b
      → (b < count) × FirstViolation Queue h 5 (a ∷ b ∷ (partner_at partner b - 1) ∷ (partner_at partner a - 1) ∷ [])
  overtaken_first unstuck =
      pair_first overtaken_shown (λ a b first second is there. overtaken (blocks_overtaken a b first second is there))
      (below_ruled_out 5 (omega arith) (λ m. unstuck) (λ m. absurd (omega arith)))

  -- The patterns 1 to 5 do not occur if no add shows 4 or 5.
  pub pairs_ruled_out : None (Blocking table count partner reach 4) count → None (Blocking table count partner reach 5) count
      → (n : ℕ) (listed : List ℕ) → n < 6 → Occurs Queue h n listed → ⊥
  pairs_ruled_out unstuck in_turn = below_ruled_out 6 (omega arith) (λ m. unstuck) (λ m. in_turn)
