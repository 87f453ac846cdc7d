-- What the code keeps of removes and the adds of their values: a table of partners. What the judge answers can be understood without this
-- file.
use Rattle.std.specs.Prelude.{ℕ, ◌+◌, ◌-◌, ◌≤◌, ◌<◌, ◌≡◌, List, length, get_or, Option, Some, None}
use Rattle.reader.specs.Log.{max_records}
use Rattle.history.specs.History.{add, remove}
use Rattle.history.specs.Table.{kind_at, value_at}
use Rattle.matching.specs.declared.values.Adds.{Adds}

-- a is an add of this value
pub record AddOf (table : List ℕ) (value a : ℕ) : Type 0 where
  pub adds : kind_at table a ≡ add
  pub values : value_at table a ≡ value

-- The values of the adds among the first m operations are the entries of a map, and the adds stand in a list: the one at i has the value of
-- entry i.
pub record AddsMapped (table : List ℕ) (m : ℕ) (adds : Adds) : Type 0 where
  pub sized : length adds.indices ≡ max_records
  pub within : adds.values.count ≤ m
  pub are : (i : ℕ) → i < adds.values.count → (get_or adds.indices i 0 < m) × AddOf table (get_or adds.values.keys i 0) (get_or adds.indices i 0)
  pub all : (a : ℕ) → a < m → kind_at table a ≡ add → (i : ℕ) × (i < adds.values.count) × (get_or adds.indices i 0 ≡ a)

-- r is a remove of the value of a
pub record Takes (table : List ℕ) (a r : ℕ) : Type 0 where
  pub removes : kind_at table r ≡ remove
  pub same : value_at table r ≡ value_at table a

-- A table of so many numbers, all of them 0.
pub record Cleared (size : ℕ) (numbers : List ℕ) : Type 0 where
  pub sized : length numbers ≡ size
  pub zero : (o : ℕ) → get_or numbers o 0 ≡ 0

-- the partner of an operation: a number 1 above an operation, or 0
abbrev pub partner_at : List ℕ → ℕ → ℕ
partner_at partner o = get_or partner o 0

-- the operation that stands in the table as the partner of operation o, if one does
abbrev pub PartnerOf : ℕ → List ℕ → ℕ → Option ℕ → Type 0
PartnerOf count partner o (Some p) = (p < count) × (partner_at partner o ≡ p + 1)
PartnerOf count partner o None = partner_at partner o ≡ 0

-- x is 1 above an add of the value of remove r; 0 if there is none
pub record Adder (table : List ℕ) (count r x : ℕ) : Type 0 where
  pub some : 0 < x → (x - 1 < count) × AddOf table (value_at table r) (x - 1)
  pub none : x ≡ 0 → (a : ℕ) → a < count → AddOf table (value_at table r) a → ⊥

-- x is 1 above the latest of the first n operations that removes the value of add a; 0 if none does
pub record Remover (table : List ℕ) (n a x : ℕ) : Type 0 where
  pub some : 0 < x → (x - 1 < n) × Takes table a (x - 1)
  pub latest : (r : ℕ) → r < n → Takes table a r → r < x

-- The first n operations, as far as they are removes, are matched with the adds of their values.
pub record Matching (table : List ℕ) (count n : ℕ) (partner : List ℕ) : Type 0 where
  pub sized : length partner ≡ max_records
  pub adders : (r : ℕ) → r < n → kind_at table r ≡ remove → Adder table count r (partner_at partner r)
  pub removers : (a : ℕ) → a < count → kind_at table a ≡ add → Remover table n a (partner_at partner a)
  -- what is no add, and no remove among the first n, has no partner
  pub unmatched : (o : ℕ) → (kind_at table o ≡ add → ⊥) → (kind_at table o ≡ remove → n ≤ o) → partner_at partner o ≡ 0

-- All removes are matched.
abbrev pub Partners : List ℕ → ℕ → List ℕ → Type 0
Partners table count partner = Matching table count count partner

-- Values are added once.
abbrev pub AddedOnce : List ℕ → ℕ → Type 0
AddedOnce table count = (a b : ℕ) → a < count → b < count → kind_at table a ≡ add → kind_at table b ≡ add → value_at table a ≡ value_at table b → a ≡ b

-- Operation r is matched too.
pub record Noted (table : List ℕ) (count r : ℕ) (partner partner' : List ℕ) : Type 0 where
  pub matched : AddedOnce table count → Matching table count r partner → Matching table count (r + 1) partner'
