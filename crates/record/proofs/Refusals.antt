-- The numbers of refusals.
use Prim.Native.Nat.{◌≤◌}
use lib.Dec.{lit≤}
use Rattle.record.specs.Refusal.{number_of, max_refusal}
use Rattle.record.specs.declared.refusal.Refusal.{Refusal}
use Rattle.record.specs.declared.refusal.Refusal.TheVariants.{WrongBytes, WrongVersion, TooManyRecords, UnknownKind, WrongLength, TickFell, ClientBusy}
use Rattle.record.specs.declared.refusal.Refusal.TheVariants.{NoSuchCall, AddedTwice, RemovePending, WrongSheet, SessionClosed, SessionFull, SessionOpen}
use Rattle.record.specs.declared.refusal.Refusal.TheVariants.{NoPattern, BufferTooShort, SessionUnfit, PageTooLong, TickRepeated, RemoveUnreturned}

-- each is from 1 to the highest
pub numbered : (refusal : Refusal) → (1 ≤ number_of refusal) × (number_of refusal ≤ max_refusal)
numbered WrongBytes = (lit≤ tt, lit≤ tt)
numbered WrongVersion = (lit≤ tt, lit≤ tt)
numbered TooManyRecords = (lit≤ tt, lit≤ tt)
numbered UnknownKind = (lit≤ tt, lit≤ tt)
numbered WrongLength = (lit≤ tt, lit≤ tt)
numbered TickFell = (lit≤ tt, lit≤ tt)
numbered ClientBusy = (lit≤ tt, lit≤ tt)
numbered NoSuchCall = (lit≤ tt, lit≤ tt)
numbered AddedTwice = (lit≤ tt, lit≤ tt)
numbered RemovePending = (lit≤ tt, lit≤ tt)
numbered WrongSheet = (lit≤ tt, lit≤ tt)
numbered SessionClosed = (lit≤ tt, lit≤ tt)
numbered SessionFull = (lit≤ tt, lit≤ tt)
numbered SessionOpen = (lit≤ tt, lit≤ tt)
numbered NoPattern = (lit≤ tt, lit≤ tt)
numbered BufferTooShort = (lit≤ tt, lit≤ tt)
numbered SessionUnfit = (lit≤ tt, lit≤ tt)
numbered PageTooLong = (lit≤ tt, lit≤ tt)
numbered TickRepeated = (lit≤ tt, lit≤ tt)
numbered RemoveUnreturned = (lit≤ tt, lit≤ tt)
