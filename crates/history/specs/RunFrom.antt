-- Operations that are run one after the other, on a queue, on a cell or on whatever else has states.
use Rattle.std.specs.Prelude.{ℕ, List, [], ◌∷◌}

-- The operations of an order can be run from a state on. `Step o s s'` says that operation o makes s' of the state s.
pub data RunFrom {S : Type 0} (Step : ℕ → S → S → Type 0) : List ℕ → S → Type 0 where
  done : {s : S} → RunFrom Step [] s
  then : {o : ℕ} {order : List ℕ} {s s' : S} → Step o s s' → RunFrom Step order s' → RunFrom Step (o ∷ order) s
