-- The loop that writes the lines.
use Prim.Native.Nat.{ℕ, ◌+◌, ◌*◌, ◌≤◌, ◌<◌}
use native.Mathlib.Omega.{arith}
use native.Mathlib.Numerals.{add-one}
use mathlib.Core.Path.{◌≡◌, refl}
use mathlib.Core.List.{List}
use lib.ListN.{length, get_or}
use Rattle.text.specs.Text.{Puts}
use Rattle.text.proofs.Putting.{puts_nothing, puts_more}
use Rattle.history.specs.Table.{kind_at, value_at}
use Rattle.timeline.specs.Page.{joined, line_bytes}
use Rattle.timeline.specs.Spans.{left_bytes, right_bytes, left_part, right_part, lines_in}

-- The loop of `put_lines` has come to operation o.
pub record Drawing (table starts ends : List ℕ) (n : ℕ) (old text : List ℕ) (at o : ℕ) : Type 0 where
  -- the text has the length that it had
  pub sized : length text ≡ length old
  -- the lines before this operation's are written
  pub reached : at ≡ o * line_bytes
  pub put : Puts (lines_in table starts ends n o) 0 old at text

pub drawing_starts : (table starts ends : List ℕ) (n : ℕ) (text : List ℕ) → Drawing table starts ends n text text 0 0
unfolding joined
drawing_starts table starts ends n text = record { sized = refl; reached = refl; put = puts_nothing text 0 }

pub drawing_next : {table starts ends : List ℕ} {n m : ℕ} {old text : List ℕ} {at o : ℕ} → Drawing table starts ends n old text at o → o < m
    → m * line_bytes ≤ length old → {mid next : ℕ} {text' text'' : List ℕ} → length text'' ≡ length old
    → {kind value : ℕ} → kind ≡ kind_at table o → value ≡ value_at table o → (mid ≡ at + left_bytes) × Puts (left_part o kind value) at text mid text'
    → (next ≡ mid + right_bytes) × Puts (right_part (get_or starts o 0) (get_or ends o 0) n) mid text' next text''
    → Drawing table starts ends n old text'' next (o + 1)
unfolding joined
drawing_next drawing l room sized k v left right = record {
  sized = sized;
  reached = omega (arith, left.0, right.0, drawing.reached);
  put = rw add-one (puts_more drawing.put (puts_more (rw (k, v) at left.1) right.1 (omega (arith, drawing.reached, drawing.sized))) (omega arith));
}
