-- What a run of the program reads and writes, where the bytes of its input and its output are known.
use Rattle.std.specs.Prelude.{◌≡◌, ℕ, ◌+◌, ◌<◌, List, take, length, IfSome}
use Rattle.std.specs.declared.option.Option.{Option}
use Rattle.std.specs.Io.KnownBytes.{Appends, Consumes, Keeps}
use Rattle.reader.specs.Log.{max_length, read_log}
use Rattle.judge_cli.specs.Report.{Reports}

-- the most bytes of an input that are read: one more than a readable log has, so that bytes behind a log are seen
abbrev pub log_room : ℕ
log_room = max_length + 1

-- The log is the front of an input, as far as it is read, and its report stands behind what an output held.
pub record JudgesInput (input output output' : Option (List ℕ)) : Type 0 where
  pub log : List ℕ
  pub front : IfSome input (λ bytes. log ≡ take log_room bytes)
  pub text : List ℕ
  pub reports : Reports (read_log log) text
  pub written : Appends output output' text

-- What an error leaves. Where reading fails, a front of the input is read, shorter than the most, and nothing is written. Where writing fails, the log is
-- read, and a front of its report stands behind what the output held, never the whole report.
pub data LeavesFront (input input' output output' : Option (List ℕ)) : Type 0 where
  reading_fails : (log : List ℕ) → length log < log_room → Consumes input input' log → Keeps output output' → LeavesFront input input' output output'
  writing_fails : (log text : List ℕ) (n : ℕ) → IfSome input (λ bytes. log ≡ take log_room bytes) → Consumes input input' log → Reports (read_log log) text
      → n < length text → Appends output output' (take n text) → LeavesFront input input' output output'
