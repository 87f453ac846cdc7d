-- Entries of the table: four stores make one, and leave the others as they were.
use Prim.Native.Nat.{ℕ, ◌+◌, ◌*◌, ◌<◌}
use native.Mathlib.Omega.{arith}
use mathlib.Core.Path.{◌≡◌, refl, ◌∙◌}
use mathlib.Core.List.{List}
use lib.ListN.{length, get_or, set, length-set}
use lib.Seq.{get_or-set_same, get_or-set_other}
use Rattle.reader.specs.Log.{max_records}
use Rattle.history.specs.Table.{fields, table_length, Entry, Entered}

-- four stores make an entry
pub entry_made : (table : List ℕ) (o kind value call ret : ℕ) → o < max_records → length table ≡ table_length
    → Entered table o kind value call ret (set (set (set (set table (o * fields + 0) kind) (o * fields + 1) value) (o * fields + 2) call) (o * fields + 3) ret)
entry_made table o kind value call ret h l = record {
  entry = record {
    kind_is = rw (off _ 3 0 ret (omega arith), off _ 2 0 call (omega arith), off _ 1 0 value (omega arith)) (on table 0 kind (omega arith) l);
    value_is = rw (off _ 3 1 ret (omega arith), off _ 2 1 call (omega arith)) (on (set table (o * fields + 0) kind) 1 value (omega arith) (simp length-set l));
    call_is = rw (off _ 3 2 ret (omega arith)) (on (set (set table (o * fields + 0) kind) (o * fields + 1) value) 2 call (omega arith) (simp length-set l));
    ret_is = on (set (set (set table (o * fields + 0) kind) (o * fields + 1) value) (o * fields + 2) call) 3 ret (omega arith) (simp length-set l);
  };
  others = λ p f few n.
      rw (away _ p f 3 ret few n (omega arith), away _ p f 2 call few n (omega arith), away _ p f 1 value few n (omega arith), away table p f 0 kind few n (omega arith)) refl;
  sized = simp length-set refl;
}
  where
    on : (xs : List ℕ) (f x : ℕ) → f < fields → length xs ≡ table_length → get_or (set xs (o * fields + f) x) (o * fields + f) 0 ≡ x
    on xs f x few long = get_or-set_same xs (o * fields + f) x 0 (omega arith)

    off : (xs : List ℕ) (f g x : ℕ) → (g ≡ f → ⊥) → get_or (set xs (o * fields + f) x) (o * fields + g) 0 ≡ get_or xs (o * fields + g) 0
    off xs f g x n = get_or-set_other xs (o * fields + f) (o * fields + g) x 0 (λ e. n (omega arith))

    away : (xs : List ℕ) (p g f x : ℕ) → g < fields → (p ≡ o → ⊥) → f < fields → get_or (set xs (o * fields + f) x) (p * fields + g) 0 ≡ get_or xs (p * fields + g) 0
    away xs p g f x small n few = get_or-set_other xs (o * fields + f) (p * fields + g) x 0 (λ e. n (omega arith))

-- the entry of another operation stays
pub entry_stays : {table table' : List ℕ} {o k v c r : ℕ} → Entered table o k v c r table' → {p kind value call ret : ℕ} → (p ≡ o → ⊥) → Entry table p kind value call ret → Entry table' p kind value call ret
entry_stays e {p} n entry = record {
  kind_is = e.others p 0 (omega arith) n ∙ entry.kind_is;
  value_is = e.others p 1 (omega arith) n ∙ entry.value_is;
  call_is = e.others p 2 (omega arith) n ∙ entry.call_is;
  ret_is = e.others p 3 (omega arith) n ∙ entry.ret_is;
}
