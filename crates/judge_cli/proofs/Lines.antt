-- The lines of a report, as the pieces that are put one behind the other.
use Prim.Native.Nat.{ℕ, ◌+◌}
use native.Mathlib.Omega.{arith}
use mathlib.Core.Path.{◌≡◌, refl, ap, ◌∙◌}
use mathlib.Core.List.{List, [], ◌∷◌, ◌++◌, map, append_assoc}
use lib.ListN.{length, length-append}
use Rattle.text.specs.Text.{ascii, space, line_feed, decimal, spaced}
use Rattle.judge_cli.specs.Report.{counts_line, order_line, pattern_line, refusal_line}

pub counts_pieces : (n m : ℕ) → counts_line n m ≡ ascii "log" ++ (space ∷ decimal n) ++ (space ∷ ascii "records") ++ (space ∷ decimal m) ++ (space ∷ ascii "operations" ++ (line_feed ∷ []))
unfolding spaced
counts_pieces n m = simp append_assoc refl

pub order_pieces : (listed : List ℕ) → order_line listed ≡ ascii "order" ++ spaced (map decimal listed) ++ (line_feed ∷ [])
order_pieces listed = refl

pub pattern_pieces : (number : ℕ) (listed : List ℕ) → pattern_line number listed ≡ ascii "pattern" ++ (space ∷ decimal number) ++ spaced (map decimal listed) ++ (line_feed ∷ [])
unfolding spaced
pattern_pieces number listed = simp append_assoc refl

pub refusal_pieces : (number index : ℕ) → refusal_line number index ≡ ascii "refused" ++ (space ∷ decimal number) ++ (space ∷ decimal index) ++ (line_feed ∷ [])
unfolding spaced
refusal_pieces number index = simp append_assoc refl

-- how many bytes they have
pub counts_length : (n m : ℕ) → length (counts_line n m) ≡ 25 + length (decimal n) + length (decimal m)
counts_length n m = ap length (counts_pieces n m) ∙ simp length-append (omega arith)

pub order_length : (listed : List ℕ) → length (order_line listed) ≡ 6 + length (spaced (map decimal listed))
order_length listed = simp length-append (omega arith)

pub pattern_length : (number : ℕ) (listed : List ℕ) → length (pattern_line number listed) ≡ 9 + length (decimal number) + length (spaced (map decimal listed))
pattern_length number listed = ap length (pattern_pieces number listed) ∙ simp length-append (omega arith)

pub refusal_length : (number index : ℕ) → length (refusal_line number index) ≡ 10 + length (decimal number) + length (decimal index)
refusal_length number index = ap length (refusal_pieces number index) ∙ simp length-append (omega arith)
