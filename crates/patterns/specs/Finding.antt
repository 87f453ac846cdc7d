-- What is found of the six patterns, step by step, for the history in the code's table. What the judge answers can be understood without this file.
use Rattle.std.specs.Prelude.{ℕ, ◌≤◌, ◌<◌, ◌≡◌, ◌⊎◌, List, length, take}
use Rattle.reader.specs.Log.{max_records}
use Rattle.reader.specs.Search.{None}
use Rattle.history.specs.Object.{Queue}
use Rattle.history.specs.History.{History}
use Rattle.violations.specs.Violations.{Occurs}
use Rattle.violations.specs.Verdict.{FirstViolation}
use Rattle.patterns.specs.Signs.{Shows}
use Rattle.patterns.specs.Blocked.{Blocking}

-- The first k numbers of the list are the operations of the first violation.
pub record PatternListed (h : History) (pattern k : ℕ) (list : List ℕ) : Type 0 where
  pub sized : length list ≡ max_records
  pub within : k ≤ max_records
  pub first : FirstViolation Queue h pattern (take k list)

-- No pattern below n occurs.
abbrev pub Clean : History → ℕ → Type 0
Clean h n = (m : ℕ) (listed : List ℕ) → m < n → Occurs Queue h m listed → ⊥

-- No remove shows a pattern from 1 to 3.
pub record Unsigned (table : List ℕ) (count : ℕ) (partner : List ℕ) : Type 0 where
  pub known : None (Shows table partner 1) count
  pub single : None (Shows table partner 2) count
  pub timely : None (Shows table partner 3) count

-- One of the patterns 1 to 3 is found, or none is there.
pub record Signed (h : History) (table partner : List ℕ) (byte k : ℕ) (list : List ℕ) : Type 0 where
  pub sized : length list ≡ max_records
  pub found : 0 < byte → PatternListed h byte k list
  pub none : byte ≡ 0 → Unsigned table h.count partner

-- Pattern 4 or 5 may be looked for: 5 if 4 is not there.
abbrev pub InTurn : List ℕ → ℕ → List ℕ → List ℕ → ℕ → Type 0
InTurn table count partner reach pattern = (pattern ≡ 4) ⊎ ((pattern ≡ 5) × None (Blocking table count partner reach 4) count)

-- The pattern is found, or no add shows it.
pub record Paired (h : History) (table partner reach : List ℕ) (pattern k : ℕ) (list : List ℕ) : Type 0 where
  pub sized : length list ≡ max_records
  pub found : 0 < k → PatternListed h pattern k list
  pub none : k ≡ 0 → None (Blocking table h.count partner reach pattern) h.count
