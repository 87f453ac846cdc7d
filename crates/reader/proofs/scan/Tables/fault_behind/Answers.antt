-- `fault_behind` meets its contract: at each return the tests that led there say which case of `fault_behind` holds.
use mathlib.Core.Path.{◌≡◌, sym, ◌∙◌}
use native.Mathlib.Omega.{arith}
use Rattle.std.proofs.Common.{rules, Err}
use Rattle.reader.proofs.Scanning.{behind_other, behind_malformed, behind_fault}
use Rattle.reader.proofs.scan.Tables.fault_behind.Goals as goal

pub returns-then-bytes-eq0 : goal.returns-then-bytes-eq0
returns-then-bytes-eq0 c = behind_other (λ e. omega (arith, c.if-bytes-eq0.true))

pub returns-then-bytes : goal.returns-then-bytes
returns-then-bytes c = behind_other (λ e. c.if-bytes.true (omega (arith, c.if-bytes-eq0.false)))

pub returns-in_err-record : goal.returns-in_err-record
returns-in_err-record c =
    let same : c.from_residual.result ≡ Err c.in_err-record.field-0.0 = search rules in
    rw same (behind_malformed (omega (arith, c.if-bytes.false, c.if-bytes-eq0.false)) (sym c.decode_at.ensures ∙ c.in_err-record.was))

pub returns : goal.returns
returns c = behind_fault (omega (arith, c.if-bytes.false, c.if-bytes-eq0.false)) (sym c.decode_at.ensures ∙ c.in_ok-record.was) c.standing_of-s.ensures c.fault.ensures
