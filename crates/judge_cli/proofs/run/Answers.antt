-- What was read is the front of the input, and what is written is its report, or a front of that where writing fails.
use Rattle.std.proofs.Common.{arith, take, length-take-le}
use Rattle.std.proofs.KnownBytes.{Keeps-refl}
use Rattle.std.proofs.lemmas.Result.{on_ok_weaker, on_err_weaker, err_from_is_err_and}
use Rattle.judge_cli.specs.Run.{JudgesInput, LeavesFront, reading_fails, writing_fails, log_room}
use Rattle.judge_cli.proofs.Reading.{front-read}
use Rattle.judge_cli.proofs.run.Goals as goal

pub returns : goal.returns
returns g c =
    let read = c.in_ok-read.ensures in
    let front = front-read (g.R.Read.remaining c.args.input.now) (g.R.Read.remaining c.read_full.new.input) c.in_ok-read.read log_room c.read_full.new.buffer c.read_full.auto.buffer read.within read.bytes read.end in
    record {
      judges = on_ok_weaker {Q = JudgesInput (g.R.Read.remaining c.args.input.now) (g.W.Write.contents c.args.output.now) (g.W.Write.contents c.write_full.new.output)} _ (λ written. record {
        log = _;
        front = front;
        text = _;
        reports = c.report-written.ensures.reports;
        written = written;
      }) c.write_full.ensures.bytes;
      failed = on_err_weaker {Q = LeavesFront (g.R.Read.remaining c.args.input.now) (g.R.Read.remaining c.read_full.new.input) (g.W.Write.contents c.args.output.now) (g.W.Write.contents c.write_full.new.output)} _ (λ written.
          writing_fails _ _ written.0 front read.bytes c.report-written.ensures.reports written.1 written.2) c.write_full.ensures.failed;
    }

pub returns-in_err-read-clause-failed : goal.returns-in_err-read-clause-failed
returns-in_err-read-clause-failed g c =
    let (n, less, lost) = c.in_err-read.ensures.failed in
    let buffer = c.read_full.new.buffer in
    rw (err_from_is_err_and c.from_residual.result c.from_residual.ensures.1).1 (reading_fails (take n buffer) (omega (arith, less, length-take-le n buffer (omega (arith, less)), c.read_full.auto.buffer)) lost (Keeps-refl _))
