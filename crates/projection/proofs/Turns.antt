-- Records picked out of the records of a readable log are again those of one, if a call and its return are picked together: each client's
-- records still go call, return, call, .., and the rest goes along with the sources.
use Prim.Native.Nat.{ℕ, ◌≤◌, ◌<◌}
use native.Mathlib.Omega.{arith}
use native.Mathlib.Decide.{dec_lt, ℕ_discrete}
use mathlib.Core.Path.{◌≡◌, sym, ap, ◌∙◌}
use mathlib.Core.Bool.{Bool}
use mathlib.Core.Logic.{◌⊎◌, inl, inr}
use mathlib.Core.List.{List}
use lib.ListN.{length}
use Rattle.record.specs.declared.record.Event.TheVariants.{CallAdd}
use Rattle.record.specs.declared.record.Record.{Record}
use Rattle.reader.specs.Log.{is_call, leaves}
use Rattle.reader.specs.Readable.{record_of, asks, Next, Unreturned, Orderly}
use Rattle.reader.proofs.Laws.{follows}
use Rattle.reader.proofs.Records.{precedes_law}
use Rattle.history.proofs.Numbering.{next_is_return, next_of_one}
use Rattle.reader.proofs.Events.{leaves_call, call_leaves, turns_change}
use Rattle.projection.proofs.Picking.{Picked, PickedAt, client_same, event_same, next_picked}

-- Record i is a call, and record j its return.
pub record Answers (records : List Record) (i j : ℕ) : Type 0 where
  pub next : Next records i j
  pub is_call_lem : is_call (record_of records i).event ≡ 1

-- a record asks for no call, or has its call before it
pub answers : {records : List Record} → Orderly records → (j : ℕ) → j < length records → (asks (record_of records j).event ≡ 0) ⊎ ((i : ℕ) × Answers records i j)
answers {records} orderly j h = by (ℕ_discrete (asks (record_of records j).event) 0) (precedes_law records j h)
  where
    by : Dec (asks (record_of records j).event ≡ 0) → ((i : ℕ) × Next records i j) ⊎ ((k : ℕ) → k < j → (record_of records k).client ≡ (record_of records j).client → ⊥)
        → (asks (record_of records j).event ≡ 0) ⊎ ((i : ℕ) × Answers records i j)
    by (yes a) before = inl a
    by (no a) (inr alone) = inl (orderly.regular.first j h alone)
    by (no a) (inl (i, next)) = inr (i, record { next = next; is_call_lem = call_leaves (record_of records i).event (λ l. a (orderly.regular.next i j next ∙ l)) })

-- a call and its return are marked alike
abbrev pub Together : (ℕ → Bool) → List Record → Type 0
Together marked records = (i j : ℕ) → Answers records i j → marked i ≡ marked j

module _ {marked : ℕ → Bool} {records kept : List Record} (together : Together marked records) (p : Picked marked records kept) where
  -- the return of a picked call is picked
  pub return_picked : (i j : ℕ) → i < length kept → Answers records (p.source i) j → (k : ℕ) × PickedAt p.source kept j k
  return_picked i j h a = p.every j a.next.there (sym (together (p.source i) j a) ∙ p.only i h)

  -- and so is the call of a picked return
  call_picked : (i j : ℕ) → j < length kept → Answers records i (p.source j) → (k : ℕ) × PickedAt p.source kept i k
  call_picked i j h a = p.every i (omega (arith, a.next.later, a.next.there)) (together i (p.source j) a ∙ p.only j h)

  -- what follows a picked call among those picked follows it among all
  pub next_of_call : (i j : ℕ) → Next kept i j → is_call (record_of kept i).event ≡ 1 → Next records (p.source i) (p.source j)
  next_of_call i j next c = go (follows records (p.source i))
    where
      here : i < length kept
      here = omega (arith, next.later, next.there)

      client : (record_of records (p.source j)).client ≡ (record_of records (p.source i)).client
      client = sym (client_same p j next.there) ∙ next.same ∙ client_same p i here

      go : ((r : ℕ) × Next records (p.source i) r) ⊎ ((k : ℕ) → p.source i < k → k < length records → (record_of records k).client ≡ (record_of records (p.source i)).client → ⊥) → Next records (p.source i) (p.source j)
      go (inr alone) = absurd (alone (p.source j) (p.rises i j next.later next.there) (p.below j next.there) client)
      go (inl (r, n)) =
          let (k, at) = return_picked i r here (record { next = n; is_call_lem = ap is_call (sym (event_same p i here)) ∙ c }) in
          let e : k ≡ j = sym (next_is_return kept i k (next_picked p i k here at.below (rw (← at.is) at n))) ∙ next_is_return kept i j next in
          rw (sym at.is ∙ ap p.source e) at n

module _ {marked : ℕ → Bool} {records kept : List Record} (orderly : Orderly records) (together : Together marked records) (p : Picked marked records kept) where
  -- a picked record asks for no call, or its call is picked before it
  answers_picked : (j : ℕ) → j < length kept → (asks (record_of kept j).event ≡ 0) ⊎ ((i : ℕ) × (i < length kept) × Answers records (p.source i) (p.source j))
  answers_picked j h = go (answers orderly (p.source j) (p.below j h))
    where
      go : (asks (record_of records (p.source j)).event ≡ 0) ⊎ ((i : ℕ) × Answers records i (p.source j))
          → (asks (record_of kept j).event ≡ 0) ⊎ ((i : ℕ) × (i < length kept) × Answers records (p.source i) (p.source j))
      go (inl a) = inl (ap asks (event_same p j h) ∙ a)
      go (inr (i, a)) = let (k, same) = call_picked together p i j h a in inr (k, same.below, rw (← same.is) at a)

  -- a client's first record is a call
  first : (j : ℕ) → j < length kept → ((k : ℕ) → k < j → (record_of kept k).client ≡ (record_of kept j).client → ⊥) → asks (record_of kept j).event ≡ 0
  first j h alone = go (answers_picked j h)
    where
      go : (asks (record_of kept j).event ≡ 0) ⊎ ((i : ℕ) × (i < length kept) × Answers records (p.source i) (p.source j)) → asks (record_of kept j).event ≡ 0
      go (inl a) = a
      go (inr (i, here, a)) = let next : Next kept i j = next_picked p i j here h a.next in absurd (alone i next.later (sym next.same))

  -- each that follows asks for what the one before it leaves: behind a call stands its return, and behind a return no other return, whose call
  -- would stand between
  next : (i j : ℕ) → Next kept i j → asks (record_of kept j).event ≡ leaves (record_of kept i).event
  next i j n = by (ℕ_discrete (leaves (record_of kept i).event) 0) (answers_picked j n.there)
    where
      here : i < length kept
      here = omega (arith, n.later, n.there)

      by : Dec (leaves (record_of kept i).event ≡ 0) → (asks (record_of kept j).event ≡ 0) ⊎ ((k : ℕ) × (k < length kept) × Answers records (p.source k) (p.source j))
          → asks (record_of kept j).event ≡ leaves (record_of kept i).event
      by (no l) w =
          let up : Next records (p.source i) (p.source j) = next_of_call together p i j n (call_leaves (record_of kept i).event l) in
          ap asks (event_same p j n.there) ∙ orderly.regular.next (p.source i) (p.source j) up ∙ ap leaves (sym (event_same p i here))
      by (yes l) (inl a) = a ∙ sym l
      by (yes l) (inr (k, there, a)) =
          let e : k ≡ i = next_of_one kept k i j (next_picked p k j there n.there a.next) n in
          absurd (leaves_call (record_of kept i).event (ap (λ x. is_call (record_of kept x).event) (sym e) ∙ ap is_call (event_same p k there) ∙ a.is_call_lem) l)

  -- the rest is known of the sources: a picked remove without return has none among all, since that would be picked
  unreturned : (i : ℕ) → Unreturned kept i → Unreturned records (p.source i)
  unreturned i u =
      let e = sym (event_same p i u.there) ∙ u.removes in
      record {
        there = p.below i u.there;
        removes = e;
        last = λ r n.
            let (j, same) = return_picked together p i r u.there (record { next = n; is_call_lem = ap is_call e }) in
            u.last j (next_picked p i j u.there same.below (rw (← same.is) at n));
      }

  lone : (i j : ℕ) → Unreturned kept i → Unreturned kept j → i ≡ j
  lone i j u v = by (dec_lt i j) (dec_lt j i)
    where
      same : p.source i ≡ p.source j
      same = orderly.lone (p.source i) (p.source j) (unreturned i u) (unreturned j v)

      by : Dec (i < j) → Dec (j < i) → i ≡ j
      by (yes l) d = absurd (omega (arith, same, p.rises i j l v.there))
      by (no l) (yes m) = absurd (omega (arith, same, p.rises j i m u.there))
      by (no l) (no m) = omega arith

  ticks : (i j : ℕ) → i ≤ j → j < length kept → (record_of kept i).tick ≤ (record_of kept j).tick
  ticks i j l h = rw (p.same i (omega arith), p.same j h) (orderly.regular.ticks (p.source i) (p.source j) (by (dec_lt i j)) (p.below j h))
    where
      by : Dec (i < j) → p.source i ≤ p.source j
      by (yes m) = omega (arith, p.rises i j m h)
      by (no m) = let e : i ≡ j = omega arith in omega (arith, ap p.source e)

  -- a client's call has a higher tick than its return before: already the call after that return among all records has
  rises : (i j : ℕ) → Next kept i j → is_call (record_of kept j).event ≡ 1 → (record_of kept i).tick < (record_of kept j).tick
  rises i j n call = rw (p.same i here, p.same j n.there) (go (follows records (p.source i)))
    where
      here : i < length kept
      here = omega (arith, n.later, n.there)

      later : p.source i < p.source j
      later = p.rises i j n.later n.there

      client : (record_of records (p.source j)).client ≡ (record_of records (p.source i)).client
      client = sym (client_same p j n.there) ∙ n.same ∙ client_same p i here

      return : is_call (record_of records (p.source i)).event ≡ 0
      return = omega (arith, call, turns_change (record_of kept i).event (record_of kept j).event (next i j n), ap is_call (event_same p i here))

      go : ((k : ℕ) × Next records (p.source i) k) ⊎ ((k : ℕ) → p.source i < k → k < length records → (record_of records k).client ≡ (record_of records (p.source i)).client → ⊥)
          → (record_of records (p.source i)).tick < (record_of records (p.source j)).tick
      go (inr alone) = absurd (alone (p.source j) later (p.below j n.there) client)
      go (inl (k, m)) = by (dec_lt (p.source j) k)
        where
          by : Dec (p.source j < k) → (record_of records (p.source i)).tick < (record_of records (p.source j)).tick
          by (yes l) = absurd (m.between (p.source j) later l client)
          by (no l) =
              let turns = turns_change (record_of records (p.source i)).event (record_of records k).event (orderly.regular.next (p.source i) k m) in
              omega (arith, orderly.regular.rises (p.source i) k m (omega (arith, return, turns)), orderly.regular.ticks k (p.source j) (omega arith) (p.below j n.there))

  once : (i j v : ℕ) → i < j → j < length kept → (record_of kept i).event ≡ CallAdd v → (record_of kept j).event ≡ CallAdd v → ⊥
  once i j v l h e f = orderly.regular.once (p.source i) (p.source j) v (p.rises i j l h) (p.below j h) (sym (event_same p i (omega arith)) ∙ e) (sym (event_same p j h) ∙ f)

  -- so they are those of a readable log
  pub picked_orderly : Orderly kept
  picked_orderly = record {
    regular = record {
      few = omega (arith, p.fewer, orderly.regular.few);
      ticks = ticks;
      first = first;
      next = next;
      rises = rises;
      once = once;
    };
    small = λ i h. rw (p.same i h) (orderly.small (p.source i) (p.below i h));
    lone = lone;
  }
