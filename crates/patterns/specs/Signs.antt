-- What the code finds of the patterns 1 to 3. What the judge answers can be understood without this file.
use Rattle.std.specs.Prelude.{ℕ, ◌+◌, ◌-◌, ◌<◌, ◌≡◌, List}
use Rattle.history.specs.History.{remove}
use Rattle.history.specs.Table.{kind_at, call_at, return_at}
use Rattle.matching.specs.Matching.{partner_at}

-- what a remove shows of the patterns 1 to 3, by its partner: it has none; its partner's is another, later remove; its partner is called behind
-- its return
pub data Shows (table partner : List ℕ) (pattern r : ℕ) : Type 0 where
  unknown : pattern ≡ 1 → kind_at table r ≡ remove → partner_at partner r ≡ 0 → Shows table partner pattern r
  twice : pattern ≡ 2 → kind_at table r ≡ remove → 0 < partner_at partner r → (partner_at partner (partner_at partner r - 1) ≡ r + 1 → ⊥) → Shows table partner pattern r
  early : pattern ≡ 3 → kind_at table r ≡ remove → 0 < partner_at partner r → return_at table r < call_at table (partner_at partner r - 1) → Shows table partner pattern r

-- s is a remove above r with the same partner
pub record Again (table partner : List ℕ) (r s : ℕ) : Type 0 where
  pub above : r < s
  pub removes : kind_at table s ≡ remove
  pub same : partner_at partner s ≡ partner_at partner r
