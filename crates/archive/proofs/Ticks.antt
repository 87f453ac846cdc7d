-- Where two neighbours trade places that may, a return compares with a call by its tick as before.
use Prim.Native.Nat.{ℕ, ◌+◌, ◌<◌}
use native.Mathlib.Omega.{arith}
use native.Mathlib.Decide.{dec_lt, ℕ_discrete}
use mathlib.Core.Path.{◌≡◌, refl, ap}
use mathlib.Core.Logic.Iff
use mathlib.Core.Logic.{◌↔◌}
use mathlib.Core.List.{List}
use lib.ListN.{length}
use Rattle.record.specs.declared.record.Record.{Record}
use Rattle.reader.specs.Log.{is_call}
use Rattle.reader.specs.Readable.{record_of, Regular}
use Rattle.archive.specs.Trade.{NoneHas, MayTrade, one_tick, two_calls, two_returns}
use Rattle.archive.proofs.Exchange.{exchange, exchange_low, exchange_high, exchange_other}

-- A return has a lower tick than a call exactly if the places to which they go have.
abbrev pub TicksAlike : List Record → ℕ → Type 0
TicksAlike records i = (a b : ℕ) → a < length records → b < length records → is_call (record_of records a).event ≡ 0 → is_call (record_of records b).event ≡ 1
    → ((record_of records a).tick < (record_of records b).tick) ↔ ((record_of records (exchange i a)).tick < (record_of records (exchange i b)).tick)

module _ {records : List Record} (i : ℕ) (regular : Regular records) (there : i + 1 < length records) where
  abbrev tick : ℕ → ℕ
  tick j = (record_of records j).tick

  abbrev sort : ℕ → ℕ
  sort j = is_call (record_of records j).event

  -- a number compares with the ticks of both neighbours alike
  abbrev Beside : ℕ → Type 0
  Beside x = ((x < tick i) ↔ (x < tick (i + 1))) × ((tick i < x) ↔ (tick (i + 1) < x))

  -- so it compares with a record's tick as with that of the place to which it goes
  beside_moved : (x : ℕ) → Beside x → (j : ℕ) → ((x < tick j) ↔ (x < tick (exchange i j))) × ((tick j < x) ↔ (tick (exchange i j) < x))
  beside_moved x beside j = go (ℕ_discrete j i) (ℕ_discrete j (i + 1))
    where
      go : Dec (j ≡ i) → Dec (j ≡ i + 1) → ((x < tick j) ↔ (x < tick (exchange i j))) × ((tick j < x) ↔ (tick (exchange i j) < x))
      go (yes e) d = rw (e, exchange_low i) beside
      go (no n) (yes e) = rw (e, exchange_high i) ((beside.0.1, beside.0.0), (beside.1.1, beside.1.0))
      go (no n) (no m) = rw (exchange_other i j n m) (Iff.rfl, Iff.rfl)

  -- a record of another sort than both, whose sort has neither tick, has a tick beside both and stays where it is
  beside_tick : {low high : ℕ} → sort i ≡ low → sort (i + 1) ≡ low → NoneHas records i high → (low ≡ high → ⊥) → (j : ℕ) → j < length records → sort j ≡ high
      → Beside (tick j) × (exchange i j ≡ j)
  beside_tick e f none n j h c = (go (dec_lt j i), exchange_other i j not_low not_high)
    where
      not_low : j ≡ i → ⊥
      not_low z = n (omega (arith, ap sort z))

      not_high : j ≡ i + 1 → ⊥
      not_high z = n (omega (arith, ap sort z))

      go : Dec (j < i) → Beside (tick j)
      go (yes l) = omega (arith, (none j h c).0, (none j h c).1, regular.ticks j i (omega arith) (omega arith), regular.ticks i (i + 1) (omega arith) there)
      go (no l) = omega (arith, (none j h c).0, (none j h c).1, regular.ticks (i + 1) j (omega (arith, not_low, not_high)) h, regular.ticks i (i + 1) (omega arith) there)

  pub tick_trades : MayTrade records i → TicksAlike records i
  tick_trades (one_tick same apart) a b h k c d = rw (stays a, stays b) Iff.rfl
    where
      stays : (j : ℕ) → tick (exchange i j) ≡ tick j
      stays j = go (ℕ_discrete j i) (ℕ_discrete j (i + 1))
        where
          go : Dec (j ≡ i) → Dec (j ≡ i + 1) → tick (exchange i j) ≡ tick j
          go (yes e) d = rw (e, exchange_low i) (omega arith)
          go (no n) (yes e) = rw (e, exchange_high i) same
          go (no n) (no m) = rw (exchange_other i j n m) refl
  tick_trades (two_calls e f none) a b h k c d = let (beside, stays) = beside_tick e f none (λ z. omega arith) a h c in rw stays (beside_moved (tick a) beside b).0
  tick_trades (two_returns e f none) a b h k c d = let (beside, stays) = beside_tick e f none (λ z. omega arith) b k d in rw stays (beside_moved (tick b) beside a).1
