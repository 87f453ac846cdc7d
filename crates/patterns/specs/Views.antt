-- What is found, said of the values that the code passes on: a matched history, and one with how far its values reach. What the judge answers can be
-- understood without this file.
use Rattle.std.specs.Prelude.{ℕ, List}
use Rattle.matching.specs.View.{history_in}
use Rattle.matching.specs.declared.view.Matched.{Matched}
use Rattle.matching.specs.declared.view.Reached.{Reached}
use Rattle.patterns.specs.Signs.{Shows, Again}
use Rattle.patterns.specs.Blocked.{Blocks, Blocking, SoonestTable}
use Rattle.patterns.specs.Finding.{Unsigned, Signed, InTurn, Paired}

-- of the patterns 1 to 3
abbrev pub ShowsIn : Matched → ℕ → ℕ → Type 0
ShowsIn m pattern r = Shows m.history.table.now m.partner.now pattern r

abbrev pub AgainIn : Matched → ℕ → ℕ → Type 0
AgainIn m r s = Again m.history.table.now m.partner.now r s

abbrev pub UnsignedIn : Matched → Type 0
UnsignedIn m = Unsigned m.history.table.now m.history.count m.partner.now

abbrev pub SignedIn : Matched → ℕ → ℕ → List ℕ → Type 0
SignedIn m byte k list = Signed (history_in m.history) m.history.table.now m.partner.now byte k list

-- of the patterns 4 and 5
abbrev pub SoonestIn : Matched → List ℕ → Type 0
SoonestIn m soonest = SoonestTable (history_in m.history) m.partner.now 0 soonest

abbrev pub BlocksIn : Reached → ℕ → ℕ → Type 0
BlocksIn r a b = Blocks r.matched.history.table.now r.matched.partner.now r.reach.now a b

abbrev pub BlockingIn : Reached → ℕ → ℕ → Type 0
BlockingIn r pattern a = Blocking r.matched.history.table.now r.matched.history.count r.matched.partner.now r.reach.now pattern a

abbrev pub InTurnIn : Reached → ℕ → Type 0
InTurnIn r pattern = InTurn r.matched.history.table.now r.matched.history.count r.matched.partner.now r.reach.now pattern

abbrev pub PairedIn : Reached → ℕ → ℕ → List ℕ → Type 0
PairedIn r pattern k list = Paired (history_in r.matched.history) r.matched.history.table.now r.matched.partner.now r.reach.now pattern k list
