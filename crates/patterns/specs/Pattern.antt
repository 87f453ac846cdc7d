-- The patterns by their numbers, and how many operations are listed.
use Rattle.std.specs.Prelude.{ℕ, ◌<◌, Option, Some, None}
use Rattle.patterns.specs.declared.pattern.Pattern.{Pattern}
use Rattle.patterns.specs.declared.pattern.Pattern.TheVariants.{Unknown, Twice, Early, Stuck, Overtaken, FalseEmpty}
use Rattle.patterns.specs.declared.find.Finding.{Finding}

abbrev pub number_of : Pattern → ℕ
number_of Unknown = 1
number_of Twice = 2
number_of Early = 3
number_of Stuck = 4
number_of Overtaken = 5
number_of FalseEmpty = 6

-- the number of what is found, and how many operations it lists; 0 and 0 if nothing is found
abbrev pub number_in : Option Finding → ℕ
number_in (Some found) = number_of found.pattern
number_in None = 0

abbrev pub listed_in : Option Finding → ℕ
listed_in (Some found) = found.listed
listed_in None = 0

-- So many operations are listed; none where P speaks of 0.
abbrev pub Listed : (ℕ → Type 0) → Option ℕ → Type 0
Listed P (Some k) = (0 < k) × P k
Listed P None = P 0
