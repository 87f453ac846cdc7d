-- The form of a sheet that lists an order.
use Prim.Native.Nat.{ℕ, ◌+◌, ◌*◌, ◌≤◌}
use native.Mathlib.Omega.{arith}
use mathlib.Core.Path.{◌≡◌, refl}
use mathlib.Core.Bool.{Bool, true, false, not}
use mathlib.Core.List.{List}
use lib.ListN.{length, get_or}
use lib.Dec.{ltb, eqb}
use borrow.Author.Tests.{eqb-true, le-ltb, ne_eqb, eq-eqb}
use Rattle.std.specs.Prelude.{if◌then◌else◌}
use Rattle.history.specs.Sheet.{sheet_header, sheet_version, order_verdict, listed_field, is_order_sheet}

-- the tests of a sheet's form, in their order
pub sheet_other_version : (sheet : List ℕ) → sheet_header ≤ length sheet → (get_or sheet 0 0 ≡ sheet_version → ⊥) → false ≡ is_order_sheet sheet
sheet_other_version sheet l v = rw (le-ltb _ _ l, ne_eqb _ _ v) refl

pub sheet_other_verdict : (sheet : List ℕ) → sheet_header ≤ length sheet → get_or sheet 0 0 ≡ sheet_version → (get_or sheet 1 0 ≡ order_verdict → ⊥) → false ≡ is_order_sheet sheet
sheet_other_verdict sheet l v o = rw (le-ltb _ _ l, eq-eqb _ _ v, ne_eqb _ _ o) refl

pub sheet_by_length : (sheet : List ℕ) → sheet_header ≤ length sheet → get_or sheet 0 0 ≡ sheet_version → get_or sheet 1 0 ≡ order_verdict
    → eqb (length sheet) (sheet_header + 2 * listed_field sheet) ≡ is_order_sheet sheet
sheet_by_length sheet l v o = rw (le-ltb _ _ l, eq-eqb _ _ v, eq-eqb _ _ o) refl

-- a sheet that passes them is as long as it says
pub sheet_long : (sheet : List ℕ) → is_order_sheet sheet ≡ true → length sheet ≡ sheet_header + 2 * listed_field sheet
sheet_long sheet e = go (ltb (length sheet) sheet_header) (eqb (get_or sheet 0 0) sheet_version) (eqb (get_or sheet 1 0) order_verdict) e
  where
    go : (short version verdict : Bool)
        → (if short then false else if not version then false else if not verdict then false else eqb (length sheet) (sheet_header + 2 * listed_field sheet)) ≡ true
        → length sheet ≡ sheet_header + 2 * listed_field sheet
    go true version verdict e = let z : ◌≡◌ {A = ℕ} 0 1 = cc in absurd (omega arith)
    go false false verdict e = let z : ◌≡◌ {A = ℕ} 0 1 = cc in absurd (omega arith)
    go false true false e = let z : ◌≡◌ {A = ℕ} 0 1 = cc in absurd (omega arith)
    go false true true e = eqb-true _ _ e
