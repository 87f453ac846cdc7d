-- Chains of entries that share a slot: the search along one, and one entry more. What a slot is does not matter here.
use Prim.Native.Nat.{ℕ, ◌+◌, ◌-◌, ◌≤◌, ◌<◌}
use native.Mathlib.Omega.{arith}
use native.Mathlib.Decide.{dec_lt}
use mathlib.Core.Path.{◌≡◌}
use mathlib.Core.List.{List}
use lib.ListN.{get_or, set}
use Rattle.std.proofs.lemmas.Grind.{common_steps}
use Rattle.map.specs.Map.{map_size, Top, Chains}

-- The search for x along its chain has come to n: no entry from there on holds x, and the one below n, if there is one, has its slot.
pub record Unmet {K : Type 0} (unused : K) (slot_of : K → ℕ) (keys : List K) (count : ℕ) (x : K) (n : ℕ) : Type 0 where
  pub within : n ≤ count
  pub none : (p : ℕ) → n ≤ p → p < count → get_or keys p unused ≡ x → ⊥
  pub shares : 0 < n → slot_of (get_or keys (n - 1) unused) ≡ slot_of x

-- one entry more: its link leads to the entry that its slot led to, and its slot leads to it
pub chains_more : {K : Type 0} {unused : K} {slot_of : K → ℕ} {slots : ℕ} {keys : List K} {heads links : List ℕ} {count : ℕ} (x : K)
    → Chains unused slot_of slots keys heads links count → count < map_size → slot_of x < slots
    → Chains unused slot_of slots (set keys count x) (set heads (slot_of x) (count + 1)) (set links count (get_or heads (slot_of x) 0)) (count + 1)
chains_more {unused = unused} {slot_of = slot_of} {keys = keys} {heads = heads} {links = links} {count = count} x chains room small = record {
  within = omega arith;
  keys_sized = grind (arith, common_steps);
  heads_sized = grind (arith, common_steps);
  links_sized = grind (arith, common_steps);
  chained = record { heads = λ slot l. grind (arith, common_steps); links = λ i l. link_more i l (dec_lt i count) };
}
  where
    link_more : (i : ℕ) → i < count + 1 → Dec (i < count) → Top unused slot_of (set keys count x) i (slot_of (get_or (set keys count x) i unused)) (get_or (set links count (get_or heads (slot_of x) 0)) i 0)
    link_more i l (yes old) = let top = chains.chained.links i old in grind (arith, common_steps)
    link_more i l (no new) =
        let e : i ≡ count = omega arith in
        let top = chains.chained.heads (slot_of x) small in
        rw e (grind (arith, common_steps))
