-- `write_header` meets its contract: the count goes after the version.
use native.Mathlib.Omega.{arith}
use mathlib.Core.Path.{ap, ◌∙◌}
use mathlib.Core.List.{[], ◌∷◌}
use lib.Seq.{sets-eq}
use Rattle.record.specs.Number.{bytes_of}
use Rattle.buffer.specs.Buffer.{put}
use Rattle.buffer.proofs.Copying.{put_behind}
use Rattle.reader.specs.Log.{log_version}
use Rattle.reader.proofs.header.write_header.Goals as goal

pub returns : goal.returns
unfolding bytes_of
returns c = let a = c.args in
    c.write_count.ensures
    ∙ ap (put 1 (bytes_of 2 a.count)) (sets-eq (log_version ∷ []) a.out.now 0 (omega arith))
    ∙ put_behind 0 (log_version ∷ []) (bytes_of 2 a.count) a.out.now (omega arith)
