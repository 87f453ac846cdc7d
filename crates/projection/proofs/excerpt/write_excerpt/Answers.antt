-- `write_excerpt` meets its contract: the laws of `Findings.antt` for an order and for a pattern.
use native.Mathlib.Omega.{arith}
use mathlib.Core.Path.{refl}
use Rattle.reader.specs.Log.{max_records}
use Rattle.matching.proofs.Storing.{new_cleared}
use Rattle.patterns.proofs.Numbered.{numbered}
use Rattle.projection.proofs.Answering.{writes_projection}
use Rattle.projection.proofs.Findings.{held, order_found, listed_listable, pattern_found}
use Rattle.projection.proofs.excerpt.write_excerpt.Goals as goal

pub overflow_add-h : goal.overflow_add-h
overflow_add-h c = omega (arith, (held c.requires.0).short)

pub invariant_of-h : goal.invariant_of-h
invariant_of-h c = record { held = held c.requires.0 }

pub decide_complete-requires : goal.decide_complete-requires
decide_complete-requires c = new_cleared max_records

pub returns-in_default : goal.returns-in_default
returns-in_default c = rw c.from.ensures (order_found c.requires.0 c.requires.1 c.in_default.ensures.1 refl _)

pub keep_listed-requires : goal.keep_listed-requires
keep_listed-requires c = let pre = c.requires in
    listed_listable pre.0 pre.1 c.in-Pattern.ensures.1 (λ e. omega (arith, numbered c.in-Pattern.found.pattern))

pub returns : goal.returns
returns c = let pre = c.requires in
    pattern_found pre.0 pre.1 c.in-Pattern.ensures.1 (λ e. omega (arith, numbered c.in-Pattern.found.pattern))
    (writes_projection pre.0 c.keep_listed.ensures c.write_kept.ensures)
