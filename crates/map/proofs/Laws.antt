-- What the crates above know of a map.
use Prim.Native.Nat.{ℕ, ◌≤◌, ◌<◌}
use native.Mathlib.Omega.{arith}
use native.Mathlib.Decide.{dec_lt}
use mathlib.Core.Path.{◌≡◌, sym, ◌∙◌}
use mathlib.Core.List.{List}
use lib.ListN.{length, get_or, set, replicate, take, length-replicate}
use lib.Seq.{get_or-take, get_or-set_same, get_or-set_other}
use lib.Dec.{ltb}
use borrow.Author.Tests.{lt-ltb, le-ltb}
use Rattle.std.specs.Prelude.{Option, Some, None, is_some, unwrap_or}
use Rattle.table.specs.Table.{is_in}
use Rattle.table.proofs.Lists.{used, zeros, is_in_at, is_in_nowhere}
use Rattle.map.specs.Map.{map_size, Chained, Chains, Latest, Found}

-- without entries no slot leads to one
none_chained : {slot_of : ℕ → ℕ} {slots : ℕ} {keys : List ℕ} {head link : ℕ → ℕ} → ((slot : ℕ) → slot < slots → head slot ≡ 0) → Chained 0 slot_of slots keys 0 head link
none_chained none = record {
  heads = λ slot l. rw (none slot l) (record { within = omega arith; above = λ p b. absurd (omega arith); shares = λ some. absurd (omega arith) });
  links = λ i l. absurd (omega arith);
}

-- a new map has no entries, and its chains lead to them
pub new_linked : (slot_of : ℕ → ℕ) (slots : ℕ) → Chains 0 slot_of slots (replicate map_size 0) (replicate slots 0) (replicate map_size 0) 0
new_linked slot_of slots = record { within = omega arith; keys_sized = sized; heads_sized = length-replicate {A = ℕ} slots 0; links_sized = sized; chained = none_chained (λ slot l. zeros slots slot) }
  where
    sized : length (replicate {A = ℕ} map_size 0) ≡ map_size
    sized = length-replicate {A = ℕ} map_size 0

-- a key that is put in stands after those in use, which stay as they were
module _ (keys : List ℕ) (count x : ℕ) {keys' : List ℕ} (put : keys' ≡ set keys count x) where
  pub key_new : count < length keys → get_or keys' count 0 ≡ x
  key_new room = rw put (get_or-set_same keys count x 0 room)

  pub key_old : (p : ℕ) → p < count → get_or keys' p 0 ≡ get_or keys p 0
  key_old p l = rw put (get_or-set_other keys count p x 0 (λ e. omega arith))

module _ {keys : List ℕ} {count x r : ℕ} (long : count ≤ length keys) (latest : Latest keys count x r) where
  in_use : length (take count keys) ≡ count
  in_use = used keys count long

  -- an entry below the count that holds x is one of the list of the entries in use
  at : (p : ℕ) → p < count → get_or keys p 0 ≡ x → get_or (take count keys) p 0 ≡ x
  at p l e = get_or-take count keys p 0 l ∙ e

  below : (p : ℕ) → p < length (take count keys) → get_or (take count keys) p 0 ≡ x → (r < count) × (p ≤ r)
  below p l e = let h : p < count = omega (arith, in_use) in latest.last p h (sym (get_or-take count keys p 0 h) ∙ e)

  -- `find` finds an entry exactly if x is among the keys
  pub latest_is_in : ltb r count ≡ is_in x (take count keys)
  latest_is_in = by (dec_lt r count)
    where
      by : Dec (r < count) → ltb r count ≡ is_in x (take count keys)
      by (yes l) = lt-ltb r count l ∙ sym (is_in_at x (take count keys) r (omega (arith, in_use)) (at r l (latest.holds l)))
      by (no n) = le-ltb r count (omega arith) ∙ sym (is_in_nowhere x (take count keys) (λ p l e. n (below p l e).0))

-- the entry that is found, or `count`, is the latest
pub found_latest : {keys : List ℕ} {count x : ℕ} (r : Option ℕ) → Found 0 keys count x r → Latest keys count x (unwrap_or r count)
found_latest (Some i) found = found.1
found_latest None found = found

-- and there is one exactly if x is among the keys
pub found_is_in : (keys : List ℕ) {count : ℕ} (x : ℕ) (r : Option ℕ) → count ≤ length keys → Found 0 keys count x r → is_some r ≡ is_in x (take count keys)
found_is_in keys x (Some i) long found = sym (lt-ltb i _ found.0) ∙ latest_is_in long found.1
found_is_in keys {count = count} x None long found = sym (le-ltb count count (omega arith)) ∙ latest_is_in long found
