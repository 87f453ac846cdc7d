-- The marks of placed operations: how many there can be, and that there is room for a value for each.
use Prim.Native.Nat.{ℕ, zero, suc, ◌+◌, ◌≤◌, ◌<◌}
use native.Mathlib.Omega.{arith}
use native.Mathlib.Decide.{ℕ_discrete}
use mathlib.Core.Path.{◌≡◌, refl, sym}
use mathlib.Core.Bool.{Bool, true, false}
use mathlib.Core.List.{List}
use lib.ListN.{length, get_or, set, replicate}
use lib.Seq.{get_or-set_same, get_or-set_other}
use Rattle.std.specs.Prelude.{if◌then◌else◌}
use Rattle.reader.specs.Log.{max_records}
use Rattle.replay.specs.Trial.{total, Unmarked, Room}
use Rattle.replay.specs.declared.order.Progress.{Progress}

-- a mark counts once at most
counted : (mark : Bool) → (if mark then 1 else 0) ≤ 1
counted true = omega arith
counted false = omega arith

-- there are no more marks than places, and fewer if one of the places is not marked
total_few : (n : ℕ) (marks : List Bool) → total n marks ≤ n
unfolding total
total_few zero marks = omega arith
total_few (suc n) marks = omega (arith, total_few n marks, counted (get_or marks n false))

total_fewer : (n : ℕ) (marks : List Bool) (o : ℕ) → o < n → get_or marks o false ≡ false → total n marks < n
unfolding total
total_fewer zero marks o h e = absurd (omega arith)
total_fewer (suc n) marks o h e = go (ℕ_discrete o n) (total_fewer n marks o)
  where
    go : Dec (o ≡ n) → (o < n → get_or marks o false ≡ false → total n marks < n) → total n marks + (if get_or marks n false then 1 else 0) < suc n
    go (yes s) ih = rw (← s, e) (omega (arith, total_few o marks))
    go (no d) ih = omega (arith, ih (omega arith) e, counted (get_or marks n false))

-- one mark more
total_before : (n : ℕ) (marks : List Bool) (o : ℕ) → n ≤ o → total n (set marks o true) ≡ total n marks
unfolding total
total_before zero marks o h = refl
total_before (suc n) marks o h = rw (total_before n marks o (omega arith), get_or-set_other marks o n true false (λ e. omega arith)) refl

pub total_mark : (n : ℕ) (marks : List Bool) (o : ℕ) → o < n → o < length marks → get_or marks o false ≡ false → total n (set marks o true) ≡ total n marks + 1
unfolding total
total_mark zero marks o h l e = absurd (omega arith)
total_mark (suc n) marks o h l e = go (ℕ_discrete o n) (total_mark n marks o)
  where
    go : Dec (o ≡ n) → (o < n → o < length marks → get_or marks o false ≡ false → total n (set marks o true) ≡ total n marks + 1)
        → total n (set marks o true) + (if get_or (set marks o true) n false then 1 else 0) ≡ total n marks + (if get_or marks n false then 1 else 0) + 1
    go (yes s) ih = rw (← s, total_before o marks o (omega arith), get_or-set_same marks o true false l, e) (omega arith)
    go (no d) ih = rw (get_or-set_other marks o n true false (λ q. d (sym q))) (omega (arith, ih (omega arith) l e))

-- there is room for the value of an operation that is not marked
pub room_left : {count : ℕ} {p : Progress} {marks : List Bool} {queue : List ℕ} → Room count p marks queue → {o : ℕ} → o < count → get_or marks o false ≡ false → p.tail < max_records
room_left {count} {marks = marks} room {o} h n = omega (arith, room.room, room.few, total_fewer count marks o h n)

-- a new table of marks
cleared : (n o : ℕ) → get_or (replicate n false) o false ≡ false
cleared zero o = refl
cleared (suc n) zero = refl
cleared (suc n) (suc o) = cleared n o

pub unmarked_new : Unmarked (replicate max_records false)
unmarked_new = record { sized = refl; none = cleared max_records }
