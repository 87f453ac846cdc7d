-- Document 01, "The log": "A reader runs along the log's bytes and remembers how far it has come."
use Rattle.std.specs.Prelude.{ℕ, Result, Ok, Err}
use Rattle.record.specs.declared.refusal.Refusal.{Refusal}

-- how far a reader at `at` has come once it has passed what stands there: after the record, or no further
abbrev pub behind : Result ℕ Refusal → ℕ → ℕ
behind (Ok next) at = next
behind (Err refusal) at = at
