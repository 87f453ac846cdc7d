-- `admit` meets its contract: after a record the tables hold what they should (`Keeping.antt`).
use native.Mathlib.Omega.{arith}
use mathlib.Core.Path.{refl}
use Rattle.reader.specs.Log.{operations}
use Rattle.reader.proofs.Arms.{calls_one}
use Rattle.reader.proofs.Keeping.{keeps}
use Rattle.reader.proofs.scan.Tables.admit.Goals as goal

pub returns : goal.returns
unfolding operations
returns c = record {
  at = refl;
  kept = λ past k len ok. keeps c.args.r k len c.requires.0 c.requires.2 ok c.note_value.ensures c.requires.1.added c.note.ensures (rw c.leaves-kind.ensures at c.code_of.ensures) refl refl (omega (arith, k.calls, rw c.leaves-kind.ensures at c.from.ensures, calls_one c.args.r.event));
}
