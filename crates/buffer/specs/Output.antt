-- What a call that writes into a lent buffer answers, and the number that its caller gets: "how many bytes it wrote", or a refusal.
use Rattle.std.specs.Prelude.{ℕ, ◌+◌, ◌*◌, List, Result, Ok, Err, length, if◌then◌else◌}
use Rattle.record.specs.Refusal.{refusing}
use Rattle.record.specs.declared.refusal.Refusal.TheVariants.{BufferTooShort}
use Rattle.record.specs.declared.refusal.Refused.{Refused}
use Rattle.buffer.specs.Buffer.{lacks_room}

-- the answer of a call that writes these bytes into this buffer: how many they are, or 24; `written` says what is left there
abbrev pub writing : List ℕ → List ℕ → Result ℕ Refused
writing bytes buffer = if lacks_room bytes buffer then refusing BufferTooShort 0 else Ok (length bytes)

-- a refusal as a number: its number in the high 32 bits, its record index in the low ones
abbrev pub refusal_unit : ℕ
refusal_unit = 4294967296

abbrev pub refusal : Refused → ℕ
refusal r = r.number * refusal_unit + r.index

-- the number of each answer
abbrev pub output_answer : Result ℕ Refused → ℕ
output_answer (Ok n) = n
output_answer (Err r) = refusal r
