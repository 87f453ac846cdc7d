-- Laws of events: which are calls, and what they ask for and leave pending.
use Prim.Native.Nat.{◌+◌, ◌*◌, ◌≤◌}
use native.Mathlib.Omega.{arith}
use mathlib.Core.Path.{◌≡◌, refl}
use Rattle.record.specs.declared.record.Removed.{Removed}
use Rattle.record.specs.declared.record.Event.{Event}
use Rattle.record.specs.declared.record.Event.TheVariants.{CallAdd, CallRemove, ReturnAdd, ReturnRemove}
use Rattle.reader.specs.Log.{is_call, leaves}
use Rattle.reader.specs.Readable.{asks}

-- a call asks for nothing and leaves something, a return asks for something and leaves nothing
pub call_or_return : (e : Event) → (1 ≤ asks e + is_call e) × (asks e + 2 * is_call e ≤ 2) × (is_call e ≤ leaves e) × (leaves e ≤ 2 * is_call e)
call_or_return (CallAdd v) = omega arith
call_or_return CallRemove = omega arith
call_or_return ReturnAdd = omega arith
call_or_return (ReturnRemove x) = omega arith

-- what a call leaves pending is not nothing, and only a call leaves something
pub leaves_call : (e : Event) → is_call e ≡ 1 → leaves e ≡ 0 → ⊥
leaves_call (CallAdd v) c l = omega arith
leaves_call CallRemove c l = omega arith
leaves_call ReturnAdd c l = omega arith
leaves_call (ReturnRemove x) c l = omega arith

pub asks_call : (e : Event) → is_call e ≡ 1 → asks e ≡ 0
asks_call (CallAdd v) c = refl
asks_call CallRemove c = refl
asks_call ReturnAdd c = absurd (omega arith)
asks_call (ReturnRemove x) c = absurd (omega arith)

pub call_leaves : (e : Event) → (leaves e ≡ 0 → ⊥) → is_call e ≡ 1
call_leaves (CallAdd v) l = refl
call_leaves CallRemove l = refl
call_leaves ReturnAdd l = absurd (l refl)
call_leaves (ReturnRemove x) l = absurd (l refl)

-- a return asks for a call
pub return_asks : (e : Event) → is_call e ≡ 0 → asks e ≡ 0 → ⊥
return_asks e c a = omega (arith, call_or_return e)

-- only a return of a remove asks for a remove
pub asks_remove : (e : Event) → asks e ≡ 2 → (x : Removed) × (e ≡ ReturnRemove x)
asks_remove (CallAdd v) a = absurd (omega arith)
asks_remove CallRemove a = absurd (omega arith)
asks_remove ReturnAdd a = absurd (omega arith)
asks_remove (ReturnRemove x) a = (x, refl)

-- and only the call of a remove leaves one pending
pub leaves_remove : (e : Event) → leaves e ≡ 2 → e ≡ CallRemove
leaves_remove (CallAdd v) l = absurd (omega arith)
leaves_remove CallRemove l = refl
leaves_remove ReturnAdd l = absurd (omega arith)
leaves_remove (ReturnRemove x) l = absurd (omega arith)

-- a record makes at most one call
pub is_call_small : (e : Event) → is_call e ≤ 1
is_call_small (CallAdd v) = omega arith
is_call_small CallRemove = omega arith
is_call_small ReturnAdd = omega arith
is_call_small (ReturnRemove x) = omega arith

-- of two events of which one asks for what the other leaves, one is a call and one a return
pub turns_change : (e f : Event) → asks f ≡ leaves e → is_call e + is_call f ≡ 1
turns_change e f follows = omega (arith, call_or_return e, call_or_return f)
