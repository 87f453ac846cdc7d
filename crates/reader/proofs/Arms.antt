-- What is known of an event by the call that it leaves pending, or asks for.
use Prim.Native.Nat.{ℕ}
use native.Mathlib.Omega.{arith}
use mathlib.Core.Path.{◌≡◌, refl}
use mathlib.Core.Bool.{not}
use mathlib.Core.List.{[]}
use mathlib.Core.Logic.{◌⊎◌, inl, inr}
use lib.Dec.{eqb}
use mir.Val.{bool_byte}
use Rattle.record.specs.declared.record.Event.{Event}
use Rattle.record.specs.declared.record.Removed.{Removed}
use Rattle.record.specs.declared.record.Event.TheVariants.{CallAdd, CallRemove, ReturnAdd, ReturnRemove}
use Rattle.reader.specs.Log.{is_call, leaves, value_of}
use Rattle.reader.specs.Readable.{asks}

-- returns call nothing, leave nothing pending and add no value
pub returns_nothing : (e : Event) → (e ≡ ReturnAdd) ⊎ ((x : Removed) × (e ≡ ReturnRemove x)) → (is_call e ≡ 0) × (leaves e ≡ 0) × (value_of e ≡ [])
returns_nothing e (inl added) = rw added (refl, refl, refl)
returns_nothing e (inr removed) = rw removed.1 (refl, refl, refl)

-- an event calls an operation exactly if it leaves a call pending
pub calls_one : (e : Event) → bool_byte (not (eqb (leaves e) 0)) ≡ is_call e
calls_one (CallAdd v) = refl
calls_one CallRemove = refl
calls_one ReturnAdd = refl
calls_one (ReturnRemove x) = refl

-- the arm of all but a call of add, where the event is a call
pub remove_called : (e : Event) → ((v : ℕ) → e ≡ CallAdd v → ⊥) → asks e ≡ 0 → e ≡ CallRemove
remove_called (CallAdd v) other z = absurd (other v refl)
remove_called CallRemove other z = refl
remove_called ReturnAdd other z = absurd (omega (arith, z))
remove_called (ReturnRemove x) other z = absurd (omega (arith, z))
