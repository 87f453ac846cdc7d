-- What the code finds of a remove that has not returned. What the judge answers can be understood without this file.
use Rattle.std.specs.Prelude.{ℕ, ◌≤◌, ◌<◌, ◌≡◌, List, Option, Some, None, eqb, if◌then◌else◌}
use Rattle.history.specs.History.{History, add}
use Rattle.matching.specs.Matching.{partner_at}

-- when an add that is never removed returns; the end for every other operation
abbrev pub free_return : History → List ℕ → ℕ → ℕ
free_return h partner a = if eqb (h.kind a) add then (if eqb (partner_at partner a) 0 then h.ret a else h.end) else h.end

-- r is a number below `count` at which f is least, or `count` if f is nowhere below `none` there.
pub record LeastAt (f : ℕ → ℕ) (none count r : ℕ) : Type 0 where
  pub within : r ≤ count
  pub below : r < count → f r < none
  pub least : (p : ℕ) → p < count → f p < none → (r < count) × (f r ≤ f p)

-- the number below `count` at which f is least, if f is below `none` somewhere there
abbrev pub LeastIn : (ℕ → ℕ) → ℕ → ℕ → Option ℕ → Type 0
LeastIn f none count (Some r) = (r < count) × LeastAt f none count r
LeastIn f none count None = LeastAt f none count count

-- where among the first n numbers f is x, if x is below `none`
abbrev pub MetAt : (ℕ → ℕ) → ℕ → ℕ → Option ℕ → ℕ → Type 0
MetAt f none n (Some r) x = (r < n) × (f r ≡ x) × (x < none)
MetAt f none n None x = x ≡ none

-- So far as the first n numbers have been gone through, x is the least value of f, or `none`, and this is where f has it.
pub record LeastSoFar (f : ℕ → ℕ) (none n : ℕ) (soonest : Option ℕ) (x : ℕ) : Type 0 where
  pub within : x ≤ none
  pub least : (p : ℕ) → p < n → x ≤ f p
  pub met : MetAt f none n soonest x
