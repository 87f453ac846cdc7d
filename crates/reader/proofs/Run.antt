-- How a log is read in which no record is refused: each record stands where the one before it ends, and nothing is wrong with it.
use Prim.Native.Nat.{ℕ, zero, suc, ◌≤◌}
use mathlib.Core.Path.{◌≡◌, refl}
use mathlib.Core.Bool.{Bool, true, false, not}
use mathlib.Core.List.{List, [], ◌∷◌, reverse}
use lib.ListN.{length, get_or}
use lib.Dec.{ltb, eqb}
use borrow.Author.Tests.{ltb-false, eqb-true}
use Rattle.std.specs.Prelude.{Result, Ok, Err, if◌then◌else◌}
use Rattle.record.specs.declared.refusal.Refusal.{Refusal}
use Rattle.record.specs.declared.refusal.Refusal.TheVariants.{WrongBytes, WrongVersion, TooManyRecords}
use Rattle.record.specs.Record.{decode_at}
use Rattle.record.specs.declared.record.Record.{Record}
use Rattle.reader.specs.Log.{log_version, header_length, max_records, count_field, readable, refused, fault, after_decode, unless_fault, scan, read_partial}

-- from position `at`, behind the past, `left` records are read; `all` are then the past
pub data Run (log : List ℕ) : ℕ → ℕ → List Record → List Record → Type 0 where
  done : {at : ℕ} {past : List Record} → length log ≤ at → Run log 0 at past past
  more : {left at : ℕ} {past all : List Record} (r : Record) (next : ℕ) → decode_at log at ≡ Ok (r, next) → fault past r ≡ Ok tt → Run log left next (r ∷ past) all → Run log (suc left) at past all

-- nothing is wrong with any of the records, each held against those before it
pub data Admits : List Record → Type 0 where
  none : Admits []
  more : {r : Record} {past : List Record} → fault past r ≡ Ok tt → Admits past → Admits (r ∷ past)

pub run_admits : {log : List ℕ} {left at : ℕ} {past all : List Record} → Run log left at past all → Admits past → Admits all
run_admits (done end) a = a
run_admits (more r next stands ok rest) a = run_admits rest (more ok a)

run_of : (log : List ℕ) (left at : ℕ) (past records : List Record) → scan log left at past ≡ readable records → (all : List Record) × Run log left at past all × (records ≡ reverse all)
unfolding scan
run_of log zero at past records e = go (ltb at (length log)) refl e
  where
    go : (b : Bool) → ltb at (length log) ≡ b → (if b then refused WrongBytes (length past) else readable (reverse past)) ≡ readable records
        → (all : List Record) × Run log 0 at past all × (records ≡ reverse all)
    go true t e = cc
    go false t e = (past, done (ltb-false at (length log) t), cc)
run_of log (suc left) at past records e = decoded (decode_at log at) refl (λ r next. run_of log left next (r ∷ past) records) e
  where
    Rest : Record → ℕ → Type 0
    Rest r next = scan log left next (r ∷ past) ≡ readable records → (all : List Record) × Run log left next (r ∷ past) all × (records ≡ reverse all)

    faulted : (r : Record) (next : ℕ) → decode_at log at ≡ Ok (r, next) → (f : Result (Unit {0}) Refusal) → fault past r ≡ f → Rest r next
        → unless_fault f (length past) (scan log left next (r ∷ past)) ≡ readable records
        → (all : List Record) × Run log (suc left) at past all × (records ≡ reverse all)
    faulted r next d (Ok _) t go e =
        let rest = go e in
        (rest.0, more r next d t rest.1, rest.2)
    faulted r next d (Err refusal) t go e = cc

    decoded : (d : Result (Record × ℕ) Refusal) → decode_at log at ≡ d → ((r : Record) (next : ℕ) → Rest r next) → after_decode d (length past) (λ r next. unless_fault (fault past r) (length past) (scan log left next (r ∷ past))) ≡ readable records
        → (all : List Record) × Run log (suc left) at past all × (records ≡ reverse all)
    decoded (Ok (r, next)) d go e = faulted r next d (fault past r) refl (go r next) e
    decoded (Err refusal) d go e = cc

-- a log that is readable but for 10 has a header, and its records are read behind it
pub record Read (log : List ℕ) (records : List Record) : Type 0 where
  pub header : header_length ≤ length log
  pub version : get_or log 0 0 ≡ log_version
  pub few : count_field log ≤ max_records
  pub all : List Record
  pub run : Run log (count_field log) header_length [] all
  pub are : records ≡ reverse all

pub reads : (log : List ℕ) (records : List Record) → read_partial log ≡ readable records → Read log records
unfolding read_partial
reads log records e = go (ltb (length log) header_length) (eqb (get_or log 0 0) log_version) (ltb max_records (count_field log)) refl refl refl e
  where
    go : (a b c : Bool) → ltb (length log) header_length ≡ a → eqb (get_or log 0 0) log_version ≡ b → ltb max_records (count_field log) ≡ c
        → (if a then refused WrongBytes 0 else if not b then refused WrongVersion 0 else if c then refused TooManyRecords 0 else scan log (count_field log) header_length []) ≡ readable records
        → Read log records
    go true b c ta tb tc e = cc
    go false false c ta tb tc e = cc
    go false true true ta tb tc e = cc
    go false true false ta tb tc e =
        let run = run_of log (count_field log) header_length [] records e in
        record {
          header = ltb-false (length log) header_length ta;
          version = eqb-true (get_or log 0 0) log_version tb;
          few = ltb-false max_records (count_field log) tc;
          all = run.0;
          run = run.1;
          are = run.2;
        }
