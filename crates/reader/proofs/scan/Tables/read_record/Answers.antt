-- `read_record` meets its contract: the record is malformed, has a fault, or is kept (`Scanning.antt`).
use mathlib.Core.Path.{◌≡◌, sym, ◌∙◌}
use Rattle.std.proofs.Common.{rules, Err}
use Rattle.reader.proofs.Scanning.{stops_malformed, stops_fault, goes_on}
use Rattle.reader.proofs.scan.Tables.read_record.Goals as goal

pub returns-in_err-record : goal.returns-in_err-record
returns-in_err-record c =
    let same : c.from_residual.result ≡ Err c.in_err-record.field-0.0 = search rules in
    rw same (stops_malformed (sym c.decode_at.ensures ∙ c.in_err-record.was))

pub returns-in_err-fault : goal.returns-in_err-fault
returns-in_err-fault c =
    let same : c.from_residual-in_err-fault.result ≡ Err c.in_err-fault.field-0.0 = search rules in
    rw same (stops_fault (sym c.decode_at.ensures ∙ c.in_ok-record.was) c.standing_of-s.ensures (sym c.fault.ensures ∙ c.in_err-fault.was))

pub returns : goal.returns
returns c = goes_on (sym c.decode_at.ensures ∙ c.in_ok-record.was) c.standing_of-s.ensures (sym c.fault.ensures ∙ c.in_ok-fault.was) c.admit.ensures
