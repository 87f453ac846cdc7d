-- A map: a table of keys, of which the first `count` are in use, and chains that lead to them. What is found in it is said by the keys alone.
use Rattle.std.specs.Prelude.{ℕ, ◌+◌, ◌-◌, ◌*◌, ◌/◌, ◌%◌, ◌≤◌, ◌<◌, ◌≡◌, List, length, get_or, Option, Some, None}

-- as many entries as a log may have records
abbrev pub map_size : ℕ
map_size = 1024

-- r is the latest of the first `count` entries that holds x, or `count` if none does. An entry that is not there is read as `unused`.
pub record LatestOf {K : Type 0} (unused : K) (keys : List K) (count : ℕ) (x : K) (r : ℕ) : Type 0 where
  pub within : r ≤ count
  pub holds : r < count → get_or keys r unused ≡ x
  pub last : (p : ℕ) → p < count → get_or keys p unused ≡ x → (r < count) × (p ≤ r)

-- the same of keys that are numbers
abbrev pub Latest : List ℕ → ℕ → ℕ → ℕ → Type 0
Latest keys count x r = LatestOf 0 keys count x r

-- What is found is the latest of the first `count` entries that holds x, and nothing if none does.
abbrev pub Found : {K : Type 0} → K → List K → ℕ → K → Option ℕ → Type 0
Found unused keys count x (Some r) = (r < count) × LatestOf unused keys count x r
Found unused keys count x None = LatestOf unused keys count x count

-- n is the index plus 1 of the latest of the first `count` entries that has a slot, or 0 if none has it.
pub record Top {K : Type 0} (unused : K) (slot_of : K → ℕ) (keys : List K) (count slot n : ℕ) : Type 0 where
  pub within : n ≤ count
  pub above : (p : ℕ) → p < count → slot_of (get_or keys p unused) ≡ slot → p < n
  pub shares : 0 < n → slot_of (get_or keys (n - 1) unused) ≡ slot

-- The heads lead from each slot to its latest entry, and the links from each entry to the one before it in its slot.
pub record Chained {K : Type 0} (unused : K) (slot_of : K → ℕ) (slots : ℕ) (keys : List K) (count : ℕ) (head link : ℕ → ℕ) : Type 0 where
  pub heads : (slot : ℕ) → slot < slots → Top unused slot_of keys count slot (head slot)
  pub links : (i : ℕ) → i < count → Top unused slot_of keys i (slot_of (get_or keys i unused)) (link i)

-- The same of tables, which have their sizes.
pub record Chains {K : Type 0} (unused : K) (slot_of : K → ℕ) (slots : ℕ) (keys : List K) (heads links : List ℕ) (count : ℕ) : Type 0 where
  pub within : count ≤ map_size
  pub keys_sized : length keys ≡ map_size
  pub heads_sized : length heads ≡ slots
  pub links_sized : length links ≡ map_size
  pub chained : Chained unused slot_of slots keys count (λ slot. get_or heads slot 0) (λ i. get_or links i 0)

abbrev pub slot_count : ℕ
slot_count = 512

-- the slot of a key: bits 23 to 31 of its product with a prime near 2^32 divided by the golden ratio
abbrev pub map_slot_of : ℕ → ℕ
map_slot_of x = x * 2654435761 / 8388608 % slot_count

-- the slot of a narrow key, one of 16 bits: the ten low bits of the sum of the key and its six high bits
abbrev pub narrow_slot_of : ℕ → ℕ
narrow_slot_of x = (x + x / map_size) % map_size
