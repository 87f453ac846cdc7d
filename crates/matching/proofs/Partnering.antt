-- What the table of partners says of the history in a table: of each add its latest remove, of each remove its add.
use Prim.Native.Nat.{ℕ, ◌+◌, ◌-◌, ◌<◌}
use native.Mathlib.Omega.{arith}
use native.Mathlib.Decide.{dec_lt}
use mathlib.Core.Path.{◌≡◌, sym, ◌∙◌}
use mathlib.Core.List.{List}
use Rattle.history.specs.History.{History, add, remove}
use Rattle.history.specs.Table.{tabled}
use Rattle.violations.specs.Violations.{Is, RemoveOf, Removed}
use Rattle.violations.specs.Search.{Single}
use Rattle.violations.proofs.Operations.{same_adder}
use Rattle.matching.specs.Held.{Held}
use Rattle.matching.specs.Matching.{partner_at, Partners}

module _ {count end : ℕ} {table partner : List ℕ} (held : Held (tabled count end table)) (partners : Partners table count partner) where
  abbrev h : History
  h = tabled count end table

  -- a remove of an add's value is the partner of the add or lower
  pub remover_latest : {a r : ℕ} → Is h add a → RemoveOf h a r → r < partner_at partner a
  remover_latest {a} {r} adds out = (partners.removers a adds.known adds.kinds).latest r out.removes.known (record { removes = out.removes.kinds; same = out.same })

  -- the partner of an add, if it has one, removes its value
  pub remover_of : {a : ℕ} → Is h add a → 0 < partner_at partner a → RemoveOf h a (partner_at partner a - 1)
  remover_of {a} adds l =
      let (known, takes) = (partners.removers a adds.known adds.kinds).some l in
      record { removes = record { known = known; kinds = takes.removes }; same = takes.same }

  -- which is the only one to do so if no value is removed twice
  pub remover_is : Single h → {a r : ℕ} → Is h add a → RemoveOf h a r → partner_at partner a ≡ r + 1
  remover_is single {a} {r} adds out =
      let some = remover_latest adds out in
      let last = remover_of adds (omega (arith, some)) in
      omega (arith, some, single r (partner_at partner a - 1) out.removes last.removes (out.same ∙ sym last.same))

  -- an add has no partner exactly if its value is never removed
  pub unpartnered_never : {a : ℕ} → Is h add a → partner_at partner a ≡ 0 → Removed h a → ⊥
  unpartnered_never adds e (r, out) = omega (arith, remover_latest adds out)

  pub never_unpartnered : {a : ℕ} → Is h add a → (Removed h a → ⊥) → partner_at partner a ≡ 0
  never_unpartnered {a} adds n = go (dec_lt 0 (partner_at partner a))
    where
      go : Dec (0 < partner_at partner a) → partner_at partner a ≡ 0
      go (yes l) = absurd (n (partner_at partner a - 1, remover_of adds l))
      go (no l) = omega arith

  -- the partner of a remove, if it has one, is an add of its value
  pub adder_of : {r : ℕ} → Is h remove r → 0 < partner_at partner r → Is h add (partner_at partner r - 1) × RemoveOf h (partner_at partner r - 1) r
  adder_of {r} removes l =
      let (known, adds) = (partners.adders r removes.known removes.kinds).some l in
      (record { known = known; kinds = adds.adds }, record { removes = removes; same = sym adds.values })

  -- so the partner of a remove of an add's value is that add
  pub adder_is : {a r : ℕ} → Is h add a → RemoveOf h a r → partner_at partner r ≡ a + 1
  adder_is {a} {r} adds out = go (dec_lt 0 (partner_at partner r))
    where
      go : Dec (0 < partner_at partner r) → partner_at partner r ≡ a + 1
      go (yes l) = let (there, out') = adder_of out.removes l in omega (arith, same_adder held.lawful there adds out' out)
      go (no l) = absurd ((partners.adders r out.removes.known out.removes.kinds).none (omega arith) a adds.known (record { adds = adds.kinds; values = sym out.same }))
