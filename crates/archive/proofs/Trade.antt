-- Records of which two neighbours trade places that may. They are of different clients, so the records of each client stay in their order, and returns
-- compare with calls by their ticks as before. So orderly records stay orderly.
use Prim.Native.Nat.{ℕ, zero, suc, ◌+◌, ◌<◌}
use native.Mathlib.Omega.{arith}
use native.Mathlib.Decide.{dec_lt}
use mathlib.Core.Path.{◌≡◌, refl, sym, ap, ◌∙◌}
use mathlib.Core.List.{List, [], ◌∷◌}
use lib.ListN.{length}
use Rattle.record.specs.Record.{value_in}
use Rattle.record.specs.declared.record.Event.TheVariants.{CallAdd}
use Rattle.record.specs.declared.record.Record.{Record}
use Rattle.reader.specs.Log.{is_call, leaves}
use Rattle.reader.specs.Readable.{record_of, asks, Next, Unreturned, Orderly}
use Rattle.reader.proofs.Events.{turns_change}
use Rattle.archive.specs.Trade.{with_tick, traded, MayTrade, one_tick, two_calls, two_returns, Tradable}
use Rattle.archive.proofs.Exchange.{exchange, exchange_low, exchange_high, exchange_back, exchange_keeps, exchange_below}
use Rattle.archive.proofs.Ticks.{TicksAlike, tick_trades}

-- What is used of such a trade: the records at an index and the next one, of different clients, take each other's place, each place keeps its tick,
-- and a return has a lower tick than a call exactly if it has in their new places.
pub record Trades (records records' : List Record) (i : ℕ) : Type 0 where
  pub there : i + 1 < length records
  pub apart : (record_of records i).client ≡ (record_of records (i + 1)).client → ⊥
  pub long : length records' ≡ length records
  pub tick : (j : ℕ) → (record_of records' j).tick ≡ (record_of records j).tick
  pub client : (j : ℕ) → (record_of records' (exchange i j)).client ≡ (record_of records j).client
  pub event : (j : ℕ) → (record_of records' (exchange i j)).event ≡ (record_of records j).event
  pub ticks : TicksAlike records i

-- the trade goes back
pub trades_back : {records records' : List Record} {i : ℕ} → Trades records records' i → Trades records' records i
trades_back {records} {records'} {i} t = record {
  there = omega (arith, t.there, t.long);
  apart = λ e. t.apart (rw (exchange_low i) at (sym (t.client i)) ∙ sym e ∙ rw (exchange_high i) at (t.client (i + 1)));
  long = sym t.long;
  tick = λ j. sym (t.tick j);
  client = λ j. rw (exchange_back i j) at (sym (t.client (exchange i j)));
  event = event;
  ticks = λ a b h k c d.
      let (there, back) = t.ticks (exchange i a) (exchange i b) (below a h) (below b k) (ap is_call (event a) ∙ c) (ap is_call (event b) ∙ d) in
      rw (t.tick a, t.tick b, t.tick (exchange i a), t.tick (exchange i b)) (rw (exchange_back i a, exchange_back i b) at back, rw (exchange_back i a, exchange_back i b) at there);
}
  where
    event : (j : ℕ) → (record_of records (exchange i j)).event ≡ (record_of records' j).event
    event j = rw (exchange_back i j) at (sym (t.event (exchange i j)))

    below : (j : ℕ) → j < length records' → exchange i j < length records
    below j h = exchange_below i j (length records) t.there (omega (arith, t.long))

module _ {records records' : List Record} {i : ℕ} (t : Trades records records' i) where
  -- the records of a client stay in their order
  client_keeps : (a b : ℕ) → a < b → (record_of records a).client ≡ (record_of records b).client → exchange i a < exchange i b
  client_keeps a b l e = exchange_keeps i a b l (λ p q. t.apart (rw (p, q) at e))

  -- every record has a new place
  pub index_there : (j : ℕ) → j < length records → exchange i j < length records'
  index_there j h = omega (arith, t.long, exchange_below i j (length records) t.there h)

-- the next record of a client is the next one still
pub next_trades : {records records' : List Record} {i a b : ℕ} → Trades records records' i → Next records a b → Next records' (exchange i a) (exchange i b)
next_trades {records} {records'} {i} {a} {b} t next = record {
  later = client_keeps t a b next.later (sym next.same);
  there = index_there t b next.there;
  same = t.client b ∙ next.same ∙ sym (t.client a);
  between = λ k l m e. next.between (exchange i k)
      (rw (exchange_back i a) at (client_keeps (trades_back t) (exchange i a) k l (sym e)))
      (rw (exchange_back i b) at (client_keeps (trades_back t) k (exchange i b) m (e ∙ t.client a ∙ sym next.same ∙ sym (t.client b))))
      ((trades_back t).client k ∙ e ∙ t.client a);
}

-- and a remove without return has none still
pub unreturned_trades : {records records' : List Record} {i a : ℕ} → Trades records records' i → Unreturned records a → Unreturned records' (exchange i a)
unreturned_trades {records} {records'} {i} {a} t u = record {
  there = index_there t a u.there;
  removes = t.event a ∙ u.removes;
  last = λ j next. u.last (exchange i j) (rw (exchange_back i a) at (next_trades (trades_back t) next));
}

-- orderly records stay orderly
pub trades_orderly : {records records' : List Record} {i : ℕ} → Trades records records' i → Orderly records → Orderly records'
trades_orderly {records} {records'} {i} t orderly = record {
  regular = record {
    few = omega (arith, orderly.regular.few, t.long);
    ticks = λ a b l h. omega (arith, t.tick a, t.tick b, orderly.regular.ticks a b l (omega (arith, t.long)));
    first = λ j h alone. sym (ap asks (back.event j)) ∙ orderly.regular.first (exchange i j) (index_there back j h)
        (λ k l e. alone (exchange i k) (rw (exchange_back i j) at (client_keeps t k (exchange i j) l e)) (t.client k ∙ e ∙ back.client j));
    next = λ a b next. sym (ap asks (back.event b)) ∙ orderly.regular.next (exchange i a) (exchange i b) (next_trades back next) ∙ ap leaves (back.event a);
    rises = rises;
    once = λ a b v l h p q. once a b v l h (back.event a ∙ p) (back.event b ∙ q) (dec_lt (exchange i a) (exchange i b)) (dec_lt (exchange i b) (exchange i a));
  };
  small = λ j h. record {
    client = omega (arith, back.client j, (orderly.small (exchange i j) (index_there back j h)).client);
    tick = omega (arith, t.tick j, (orderly.small j (omega (arith, t.long))).tick);
    value = omega (arith, ap value_in (back.event j), (orderly.small (exchange i j) (index_there back j h)).value);
  };
  lone = λ a b u v. let same = orderly.lone (exchange i a) (exchange i b) (unreturned_trades back u) (unreturned_trades back v) in
      omega (arith, exchange_back i a, exchange_back i b, ap (exchange i) same);
}
  where
    back : Trades records' records i
    back = trades_back t

    rises : (a b : ℕ) → Next records' a b → is_call (record_of records' b).event ≡ 1 → (record_of records' a).tick < (record_of records' b).tick
    rises a b next call =
        let was : Next records (exchange i a) (exchange i b) = next_trades back next in
        let turns = turns_change (record_of records (exchange i a)).event (record_of records (exchange i b)).event (orderly.regular.next (exchange i a) (exchange i b) was) in
        let return : is_call (record_of records' a).event ≡ 0 = omega (arith, turns, ap is_call (back.event a), ap is_call (back.event b)) in
        (back.ticks a b (omega (arith, next.later, next.there)) next.there return call).1
        (rw (t.tick (exchange i a), t.tick (exchange i b)) (orderly.regular.rises (exchange i a) (exchange i b) was (ap is_call (back.event b) ∙ call)))

    once : (a b v : ℕ) → a < b → b < length records' → (record_of records (exchange i a)).event ≡ CallAdd v → (record_of records (exchange i b)).event ≡ CallAdd v
        → Dec (exchange i a < exchange i b) → Dec (exchange i b < exchange i a) → ⊥
    once a b v l h p q (yes m) d = orderly.regular.once (exchange i a) (exchange i b) v m (index_there back b h) p q
    once a b v l h p q (no n) (yes m) = orderly.regular.once (exchange i b) (exchange i a) v m (index_there back a (omega arith)) q p
    once a b v l h p q (no n) (no m) =
        let same : exchange i a ≡ exchange i b = omega arith in
        omega (arith, exchange_back i a, exchange_back i b, ap (exchange i) same)

-- what `traded` puts at an index
traded_at : (i : ℕ) (records : List Record) (j : ℕ) → i + 1 < length records → record_of (traded i records) j ≡ with_tick (record_of records j).tick (record_of records (exchange i j))
unfolding traded exchange
traded_at i [] j h = absurd (omega arith)
traded_at i (r ∷ []) j h = absurd (omega arith)
traded_at zero (r ∷ s ∷ records) zero h = refl
traded_at zero (r ∷ s ∷ records) (suc zero) h = refl
traded_at zero (r ∷ s ∷ records) (suc (suc j)) h = refl
traded_at (suc i) (r ∷ s ∷ records) zero h = refl
traded_at (suc i) (r ∷ s ∷ records) (suc j) h = traded_at i (s ∷ records) j (omega arith)

-- it leaves as many records
pub traded_length : (i : ℕ) (records : List Record) → length (traded i records) ≡ length records
unfolding traded
traded_length i [] = refl
traded_length i (r ∷ []) = refl
traded_length zero (r ∷ s ∷ records) = refl
traded_length (suc i) (r ∷ s ∷ records) = ap suc (traded_length i (s ∷ records))

-- the two are of different clients: of one tick they are so said, and a client's calls and returns take turns
neighbours_apart : {records : List Record} {i : ℕ} → Orderly records → Tradable records i → (record_of records i).client ≡ (record_of records (i + 1)).client → ⊥
neighbours_apart {records} {i} orderly tradable e = go tradable.may
  where
    turns : is_call (record_of records i).event + is_call (record_of records (i + 1)).event ≡ 1
    turns = turns_change (record_of records i).event (record_of records (i + 1)).event
        (orderly.regular.next i (i + 1) (record { later = omega arith; there = tradable.there; same = sym e; between = λ k l m. absurd (omega arith) }))

    go : MayTrade records i → ⊥
    go (one_tick t other) = other e
    go (two_calls c d none) = omega (arith, turns)
    go (two_returns c d none) = omega (arith, turns)

-- so `traded` makes such a trade
pub traded_trades : {records : List Record} {i : ℕ} → Orderly records → Tradable records i → Trades records (traded i records) i
traded_trades {records} {i} orderly tradable = record {
  there = tradable.there;
  apart = neighbours_apart orderly tradable;
  long = traded_length i records;
  tick = λ j. ap (λ r. r.tick) (at j);
  client = λ j. ap (λ r. r.client) (at (exchange i j)) ∙ ap (λ k. (record_of records k).client) (exchange_back i j);
  event = λ j. ap (λ r. r.event) (at (exchange i j)) ∙ ap (λ k. (record_of records k).event) (exchange_back i j);
  ticks = tick_trades i orderly.regular tradable.there tradable.may;
}
  where
    at : (j : ℕ) → record_of (traded i records) j ≡ with_tick (record_of records j).tick (record_of records (exchange i j))
    at j = traded_at i records j tradable.there

-- where two neighbours trade places, orderly records stay orderly
pub traded_orderly : {records : List Record} {i : ℕ} → Orderly records → Tradable records i → Orderly (traded i records)
traded_orderly orderly tradable = trades_orderly (traded_trades orderly tradable) orderly
