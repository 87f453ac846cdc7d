-- What a log is read as stays within bounds.
use Prim.Native.Nat.{ℕ, zero, suc, ◌+◌, ◌≤◌}
use native.Mathlib.Omega.{arith}
use mathlib.Core.Path.{◌≡◌, refl}
use mathlib.Core.Bool.{Bool, true, false, not}
use mathlib.Core.List.{List, [], ◌∷◌, reverse}
use lib.ListN.{length, get_or, length-reverse}
use lib.Dec.{ltb, eqb}
use borrow.Author.Tests.{ltb-true, ltb-false}
use Rattle.std.specs.Prelude.{Result, Ok, Err, if◌then◌else◌}
use Rattle.record.specs.Record.{decode_at}
use Rattle.record.specs.declared.refusal.Refusal.{Refusal}
use Rattle.record.specs.declared.refusal.Refusal.TheVariants.{WrongBytes, WrongVersion, TooManyRecords, RemovePending}
use Rattle.record.specs.declared.record.Record.{Record}
use Rattle.record.proofs.Refusals.{numbered}
use Rattle.reader.specs.Log.{log_version, header_length, max_records, count_field, Reading, readable, refused, fault, after_decode, unless_fault, scan, read_partial, second_remove, complete, read_log}
use Rattle.reader.specs.Readable.{Within}

-- a refusal is within bounds if its index is
refused_within : (refusal : Refusal) (index : ℕ) → index ≤ max_records → Within (refused refusal index)
refused_within refusal index h = ((numbered refusal).0, (numbered refusal).1, h)

scan_within : (log : List ℕ) (left at : ℕ) (past : List Record) → length past + left ≤ max_records → Within (scan log left at past)
unfolding scan
scan_within log zero at past h = go (ltb at (length log))
  where
    go : (b : Bool) → Within (if b then refused WrongBytes (length past) else readable (reverse past))
    go true = refused_within WrongBytes (length past) (omega arith)
    go false = omega (arith, length-reverse past)
scan_within log (suc left) at past h = decoded (decode_at log at) (λ r next. scan_within log left next (r ∷ past) (omega arith))
  where
    faulted : (f : Result (Unit {0}) Refusal) (reading : Reading) → Within reading → Within (unless_fault f (length past) reading)
    faulted (Ok _) reading rest = rest
    faulted (Err refusal) reading rest = refused_within refusal (length past) (omega arith)

    decoded : (d : Result (Record × ℕ) Refusal) → ((r : Record) (next : ℕ) → Within (scan log left next (r ∷ past)))
        → Within (after_decode d (length past) (λ r next. unless_fault (fault past r) (length past) (scan log left next (r ∷ past))))
    decoded (Ok (r, next)) rest = faulted (fault past r) _ (rest r next)
    decoded (Err refusal) rest = refused_within refusal (length past) (omega arith)

pub partial_within : (log : List ℕ) → Within (read_partial log)
unfolding read_partial
partial_within log = go (ltb (length log) header_length) (eqb (get_or log 0 0) log_version) (ltb max_records (count_field log)) refl
  where
    go : (a b c : Bool) → ltb max_records (count_field log) ≡ c → Within (if a then refused WrongBytes 0 else if not b then refused WrongVersion 0 else if c then refused TooManyRecords 0 else scan log (count_field log) header_length [])
    go true b c t = refused_within WrongBytes 0 (omega arith)
    go false false c t = refused_within WrongVersion 0 (omega arith)
    go false true true t = refused_within TooManyRecords 0 (omega arith)
    go false true false t = scan_within log (count_field log) header_length [] (omega (arith, ltb-false max_records (count_field log) t))

complete_within : (reading : Reading) → Within reading → Within (complete reading)
complete_within (readable records) w = go (ltb (second_remove records) (length records)) refl
  where
    go : (b : Bool) → ltb (second_remove records) (length records) ≡ b → Within (if b then refused RemovePending (second_remove records) else readable records)
    go true t = refused_within RemovePending (second_remove records) (omega (arith, ltb-true (second_remove records) (length records) t))
    go false t = w
complete_within (refused refusal index) w = w

pub log_within : (log : List ℕ) → Within (read_log log)
log_within log = complete_within (read_partial log) (partial_within log)
