-- Document 01, "The log": "Each record is one length byte L, then L bytes". What stands at a position, whatever its kind.
use Rattle.std.specs.Prelude.{ℕ, ◌+◌, ◌-◌, List, Result, Ok, Err, length, get_or, ltb, leb, eqb, if◌then◌else◌}
use Rattle.record.specs.declared.refusal.Refusal.{Refusal}
use Rattle.record.specs.declared.refusal.Refusal.TheVariants.{WrongBytes, WrongLength}

-- all bytes of a record and where the next one starts, or a refusal, in the document's order: 1, L = 0
unfoldable pub frame_at : List ℕ → ℕ → Result ℕ Refusal
frame_at bytes at =
    if leb (length bytes) at then Err WrongBytes else
    if ltb (length bytes - (at + 1)) (get_or bytes at 0) then Err WrongBytes else
    if eqb (get_or bytes at 0) 0 then Err WrongLength else
    Ok (at + 1 + get_or bytes at 0)
