-- Bytes put into a buffer, and behind others.
use Prim.Native.Nat.{ℕ, ◌+◌, ◌≤◌}
use native.Mathlib.Omega.{arith}
use native.Mathlib.Nat.{add_assoc, zero-add}
use mathlib.Core.Path.{◌≡◌, refl}
use mathlib.Core.List.{List, [], ◌++◌, append_assoc}
use lib.ListN.{length, take, drop, length-append, length-drop}
use lib.Seq.{paste-zero, take_at, drop_at, drop-drop, length-take-le}
use borrow.Author.Tests.{le-ltb}
use Rattle.buffer.specs.Buffer.{written, put}

-- no bytes change nothing
pub put_nothing : (at : ℕ) (out : List ℕ) → out ≡ put at [] out
put_nothing at out = paste-zero out at []

-- a buffer keeps its length
pub put_length : (at : ℕ) (bytes out : List ℕ) → at + length bytes ≤ length out → length (put at bytes out) ≡ length out
put_length at bytes out h = simp (length-append, length-drop, length-take-le at out (omega arith)) (omega arith)

-- bytes put behind others
pub put_behind : (at : ℕ) (front bytes out : List ℕ) → at ≤ length out → put (at + length front) bytes (put at front out) ≡ put at (front ++ bytes) out
put_behind at front bytes out h =
    let head : length (take at out ++ front) ≡ at + length front = simp (length-append, length-take-le at out h) refl in
    rw (
      take_at (take at out ++ front) (drop (at + length front) out) (at + length front) head,
      ← drop-drop (length bytes) (at + length front) (take at out ++ front ++ drop (at + length front) out),
      drop_at (take at out ++ front) (drop (at + length front) out) (at + length front) head,
      drop-drop (length bytes) (at + length front) out,
      append_assoc (take at out) front bytes,
      length-append front bytes,
      add_assoc at (length front) (length bytes),
    )
    refl

-- an answer at the front of a buffer that has room for it
pub put_written : (answer out : List ℕ) → length answer ≤ length out → put 0 answer out ≡ written answer out
put_written answer out room = rw (zero-add (length answer), le-ltb (length out) (length answer) room) refl
