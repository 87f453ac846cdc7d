-- An operation of a kind.
use Rattle.std.specs.Prelude.{ℕ, ◌<◌, ◌≡◌}
use Rattle.history.specs.History.{History}

-- o is an operation of this kind
pub record Is (h : History) (kind o : ℕ) : Type 0 where
  pub known : o < h.count
  pub kinds : h.kind o ≡ kind
