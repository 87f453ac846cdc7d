-- `write_kept` meets its contract: the marked records are those of the kept operations.
use mathlib.Core.Path.{sym}
use lib.Seq.{length-take-le}
use Rattle.projection.proofs.Selecting.{marks_enough, keep_marked}
use Rattle.projection.proofs.Projecting.{writes_same}
use Rattle.projection.proofs.write.write_kept.Goals as goal

pub slice_bounds-marks-end : goal.slice_bounds-marks-end
slice_bounds-marks-end c = marks_enough c.requires c.mark.ensures

pub slice_bounds-write_marked-end : goal.slice_bounds-write_marked-end
slice_bounds-write_marked-end c = sym (length-take-le _ _ (marks_enough c.requires c.mark.ensures))

pub write_marked-requires : goal.write_marked-requires
write_marked-requires c = rw (length-take-le c.args.records c.mark.new.marks (marks_enough c.requires c.mark.ensures)) c.requires

pub returns : goal.returns
returns c = writes_same c.write_marked.ensures (λ records reads. sym (keep_marked c.requires c.mark.ensures records reads))
