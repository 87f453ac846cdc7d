-- What the code may rest on of the history in its table: it is lawful and small, as that of a readable log is.
use Rattle.std.specs.Prelude.{ℕ, ◌≤◌, ◌<◌, ◌≡◌}
use Rattle.reader.specs.Log.{max_records}
use Rattle.history.specs.History.{History, empty_remove, Lawful}
use Rattle.history.specs.Positions.{max_positions}

pub record Held (h : History) : Type 0 where
  pub lawful : Lawful h
  pub few : h.count ≤ max_records
  pub short : h.end ≤ max_positions
  -- an empty remove returns at the position of a record, so that it and the adds that cover its gaps fit a list
  pub empties : (e : ℕ) → e < h.count → h.kind e ≡ empty_remove → h.ret e < max_records
