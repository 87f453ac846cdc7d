-- What a call that writes leaves in a lent buffer. Document 01: "An accepted call that writes returns how many bytes it wrote ..; bytes behind them
-- keep their contents", and 24: "a buffer too short for the complete answer".
use Rattle.std.specs.Prelude.{ℕ, ◌+◌, Bool, List, ◌++◌, length, take, drop, ltb, if◌then◌else◌}

-- the buffer is too short for the answer
abbrev pub lacks_room : List ℕ → List ℕ → Bool
lacks_room answer buffer = ltb (length buffer) (length answer)

-- the buffer behind the call: the answer and what stood behind it, or what it held if it is too short
abbrev pub written : List ℕ → List ℕ → List ℕ
written answer buffer = if lacks_room answer buffer then buffer else answer ++ drop (length answer) buffer

-- a buffer with these bytes from a position on
abbrev pub put : ℕ → List ℕ → List ℕ → List ℕ
put at bytes buffer = take at buffer ++ bytes ++ drop (at + length bytes) buffer
