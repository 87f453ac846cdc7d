use mathlib.Core.Path.{◌≡◌}
use lib.ListN.{length}
use Rattle.text.specs.Text.{Puts}
use Rattle.judge_cli.specs.Writing.{listing}
use Rattle.judge_cli.proofs.report.put_listed.Given as given

-- `put_listed` meets its contract. The invariant: the first i operations are put, and the buffer is as long as it was.
abbrev pub invariant-loop-i : given.invariant-loop-i
invariant-loop-i l = (length l.text ≡ length l.initial.text) × Puts (listing l.sheet l.i) l.at l.initial.text l.next l.text
