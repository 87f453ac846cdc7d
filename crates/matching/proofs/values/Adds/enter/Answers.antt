-- `enter` meets its contract. The invariant: the entries of the map are the values of the adds below a.
use native.Mathlib.Omega.{arith}
use mathlib.Core.Path.{refl, sym, ◌∙◌}
use Rattle.matching.proofs.Mapping.{mapped_other, mapped_more}
use Rattle.matching.proofs.values.Adds.enter.Goals as goal
use Rattle.matching.proofs.values.Adds.enter.Goals.{else-kind_of-eq-ADD, then-kind_of-eq-ADD}

pub loop-a-preserved : goal.loop-a-preserved
loop-a-preserved c = let inv = c.loop-a.invariant in let kind = c.kind_of.ensures in elim c.if-kind_of-eq-ADD.branch [
  | then-kind_of-eq-ADD w ↦ rw w.self-is (mapped_more inv (omega (arith, c.loop-a-test.true)) (sym kind ∙ w.if-kind_of-eq-ADD.true) (rw w.value_of.ensures at w.push.ensures.0) w.push.ensures.1 refl)
  | else-kind_of-eq-ADD w ↦ rw w.self-is (mapped_other inv (rw kind at w.if-kind_of-eq-ADD.false))
]
