-- The steps of a scan.
use Prim.Native.Nat.{ℕ, zero, suc, ◌+◌, ◌-◌, ◌≤◌, ◌<◌}
use native.Mathlib.Omega.{arith}
use native.Mathlib.Numerals.{add-one}
use mathlib.Core.Path.{◌≡◌, refl, sym, ap, ◌∙◌}
use mathlib.Core.List.{List, [], ◌∷◌, ◌++◌, reverse, reverse-cons, reverse-reverse}
use lib.ListN.{length, get_or, length-reverse}
use lib.Dec.{ltb, eqb}
use mathlib.Core.Bool.{Bool, true, false, not}
use Rattle.std.specs.Prelude.{Option, Some, None, unwrap_or, Result, Ok, Err, if◌then◌else◌}
use borrow.Author.Tests.{lt-ltb, le-ltb, lt-leb, le-leb, eq-eqb, ne_eqb, ltb-false}
use Rattle.record.specs.Record.{decode_at}
use Rattle.record.specs.declared.record.Record.{Record}
use Rattle.record.specs.Refusal.{refusing}
use Rattle.record.specs.declared.refusal.Refusal.{Refusal}
use Rattle.record.specs.declared.refusal.Refusal.TheVariants.{WrongBytes, WrongVersion, TooManyRecords, SessionFull}
use Rattle.record.specs.declared.refusal.Refused.{Refused}
use Rattle.reader.specs.Log.{refused, log_version, header_length, max_records, count_field, fault, scan, read_partial, operations, pending_remove, second_remove}
use Rattle.reader.specs.Tables.{New, fault_in, Room, Kept, Stands, Coded, LeastRemove, Admitted, Goes, Stepped, AllKept, Passed, through, stopped, FaultBehind, header_of, index_below, surveyed}
use Rattle.reader.specs.declared.clients.Standing.{Standing}
use Rattle.reader.specs.declared.scan.Tables.{Tables}
use Rattle.reader.specs.Feed.{fault_behind, unless_faulty, extended}
use Rattle.reader.specs.declared.scan.Survey.{Survey}
use Rattle.reader.proofs.Keeping.{fault_found, has_room, keeps_none, least_small, least_found}

pub operations_append : (rs ss : List Record) → operations (rs ++ ss) ≡ operations rs + operations ss
unfolding operations
operations_append [] ss = omega arith
operations_append (r ∷ rs) ss = omega (arith, operations_append rs ss)

-- the number of operations does not ask for the records' sequence
operations_reverse : (rs : List Record) → operations (reverse rs) ≡ operations rs
unfolding operations
operations_reverse [] = refl
operations_reverse (r ∷ rs) = rw (reverse-cons, operations_append) (omega (arith, operations_reverse rs))

-- After i of `count` records: the tables hold what is kept of them, and the rest of the scan is the whole.
pub record Scanned (log : List ℕ) (count : ℕ) (t : Tables) (i : ℕ) : Type 0 where
  pub below : i ≤ count
  pub past : List Record
  pub counted : length past ≡ i
  pub kept : Kept past t
  pub rest : scan log count header_length [] ≡ scan log (count - i) t.at past

module _ (log : List ℕ) (past : List Record) (at : ℕ) where
  scan_malformed : {refusal : Refusal} → decode_at log at ≡ Err refusal → (left : ℕ) → scan log (suc left) at past ≡ refused refusal (length past)
  unfolding scan
  scan_malformed e left = rw e refl

  scan_fault : {r : Record} {next : ℕ} {refusal : Refusal} → decode_at log at ≡ Ok (r, next) → fault past r ≡ Err refusal → (left : ℕ) → scan log (suc left) at past ≡ refused refusal (length past)
  unfolding scan
  scan_fault e f left = rw (e, f) refl

  scan_on : {r : Record} {next : ℕ} → decode_at log at ≡ Ok (r, next) → fault past r ≡ Ok tt → (left : ℕ) → scan log (suc left) at past ≡ scan log left next (r ∷ past)
  unfolding scan
  scan_on e ok left = rw (e, ok) refl

-- one record read: it is malformed, something is wrong with it, or it is kept
module _ {log : List ℕ} {index : ℕ} {t t' : Tables} where
  pub stops_malformed : {refusal : Refusal} → decode_at log t.at ≡ Err refusal → Stepped log index t (Err refusal) t'
  stops_malformed e = record { goes = λ past k len. scan_malformed log past t.at e }

  pub stops_fault : {r : Record} {next : ℕ} {s : Standing} {refusal : Refusal} → decode_at log t.at ≡ Ok (r, next) → Stands r index t s → fault_in r t s ≡ Err refusal
      → Stepped log index t (Err refusal) t'
  stops_fault e stands is = record { goes = λ past k len. scan_fault log past t.at e (sym (fault_found k len stands) ∙ is) }

  pub goes_on : {r : Record} {next : ℕ} {s : Standing} → decode_at log t.at ≡ Ok (r, next) → Stands r index t s → fault_in r t s ≡ Ok tt
      → Admitted r next index t t' → Stepped log index t (Ok tt) t'
  goes_on {r} e stands is a = record {
    goes = λ past k len.
        let ok = sym (fault_found k len stands) ∙ is in
        (r, a.kept past k len ok, λ left. scan_on log past t.at e ok left ∙ ap (λ (at : ℕ). scan log left at (r ∷ past)) (sym a.at));
  }

-- the loop over the records: it starts, it stops at a refusal, it goes on, it meets left bytes, it ends
pub loop_starts : (log : List ℕ) (count : ℕ) {t : Tables} → New t → Scanned log count t 0
loop_starts log count new = record {
  below = omega arith;
  past = [];
  counted = refl;
  kept = keeps_none new;
  rest = rw new.at (ap (λ (n : ℕ). scan log n header_length []) (omega arith));
}

module _ {log : List ℕ} {count : ℕ} {t : Tables} {i : ℕ} (s : Scanned log count t i) where
  one_more : i < count → count - i ≡ suc (count - (i + 1))
  one_more h = omega arith

  pub loop_stops : {t' : Tables} {step : Result (Unit {0}) Refusal} {refusal : Refusal} → i < count → Stepped log i t step t' → step ≡ Err refusal
      → scan log count header_length [] ≡ refused refusal i
  loop_stops {t'} {refusal = refusal} h g e =
      let goes : Goes log s.past t.at (Err refusal) t' = rw e at (g.goes s.past s.kept s.counted) in
      rw (s.rest, one_more h, goes (count - (i + 1)), s.counted) refl

  pub loop_has_room : i < max_records → Room t
  loop_has_room h = has_room s.kept (omega (arith, s.counted))

  ends : count ≤ i → scan log count header_length [] ≡ scan log zero t.at s.past
  ends h = s.rest ∙ ap (λ (n : ℕ). scan log n t.at s.past) (omega arith)

  pub loop_leaves_bytes : count ≤ i → t.at < length log → scan log count header_length [] ≡ refused WrongBytes count
  unfolding scan
  loop_leaves_bytes h more =
      let all : length s.past ≡ count = omega (arith, s.counted, s.below) in
      rw (ends h, lt-ltb t.at (length log) more, all) refl

  pub loop_ends : count ≤ i → length log ≤ t.at → AllKept log count t
  unfolding scan
  loop_ends h none = record { past = s.past; counted = omega (arith, s.counted, s.below); kept = s.kept; reads = rw (ends h, le-ltb t.at (length log) none) refl }

-- bytes that are handed in as one record: they are none, or something is wrong with what they are, or nothing
module _ {bytes : List ℕ} {index : ℕ} {t : Tables} where
  pub behind_other : (length bytes ≡ get_or bytes 0 0 + 1 → ⊥) → FaultBehind bytes index t (Err WrongBytes)
  unfolding fault_behind
  behind_other n = record { found = λ past kept len. rw (ne_eqb (length bytes) (get_or bytes 0 0 + 1) n) refl }

  module _ (one : length bytes ≡ get_or bytes 0 0 + 1) where
    pub behind_malformed : {refusal : Refusal} → decode_at bytes 0 ≡ Err refusal → FaultBehind bytes index t (Err refusal)
    unfolding fault_behind
    behind_malformed e = record { found = λ past kept len. rw (eq-eqb (length bytes) (get_or bytes 0 0 + 1) one, e) refl }

    pub behind_fault : {r : Record} {next : ℕ} {f : Result (Unit {0}) Refusal} {s : Standing} → decode_at bytes 0 ≡ Ok (r, next) → Stands r index t s → f ≡ fault_in r t s → FaultBehind bytes index t f
    unfolding fault_behind
    behind_fault {r} e stands is = record { found = λ past kept len. rw (eq-eqb (length bytes) (get_or bytes 0 0 + 1) one, e) (is ∙ fault_found kept len stands) }

-- the outcome of reading all records, by its case
pub passed_all : {log : List ℕ} {count : ℕ} {r : Result (Unit {0}) (Refusal × ℕ)} {t : Tables} → Passed log count r t → r ≡ Ok tt → AllKept log count t
passed_all {log} {count} {t = t} passed e = go (rw e at passed)
  where
    go : Passed log count (Ok tt) t → AllKept log count t
    go (through all) = all

pub passed_not : {log : List ℕ} {count : ℕ} {r : Result (Unit {0}) (Refusal × ℕ)} {refusal : Refusal} {index : ℕ} {t : Tables} → Passed log count r t → r ≡ Err (refusal, index)
    → refusing refusal index ≡ surveyed (scan log count header_length [])
passed_not {log} {count} {refusal = refusal} {index} {t} passed is = go (rw is at passed)
  where
    go : Passed log count (Err (refusal, index)) t → refusing refusal index ≡ surveyed (scan log count header_length [])
    go (stopped reads) = rw reads refl

-- the answer of a scan
abbrev pub survey : ℕ → ℕ → Option ℕ → Result Survey Refused
survey records operations second = Ok (record { counts = record { records = records; operations = operations }; second_remove = second })

-- all records have been read
module _ {log : List ℕ} {count : ℕ} {t : Tables} (all : AllKept log count t) where
  pub all_coded : Coded t.clients.map.count t.clients.codes
  all_coded = all.kept.clients.coded

  pub all_have_room : count < max_records → Room t
  all_have_room h = has_room all.kept (omega (arith, all.counted))

  -- the second pending remove: there is none if there is no first, and else it is the earliest one after that
  surveyed_with : {second : Option ℕ} → index_below count (second_remove (reverse all.past)) ≡ second → survey count t.operations second ≡ surveyed (scan log count header_length [])
  surveyed_with {second} e =
      let counted : length (reverse all.past) ≡ count = omega (arith, length-reverse all.past, all.counted) in
      rw (all.reads, counted, e, operations_reverse all.past, all.kept.calls) refl

  earliest : (first : Option ℕ) → LeastRemove t.clients.codes t.clients.map.count 0 first → pending_remove (reverse all.past) ≡ unwrap_or first count
  earliest first found =
      let is : 0 + pending_remove (reverse all.past) ≡ unwrap_or first count = rw all.counted at (least_found all.kept.clients first (omega arith) found) in
      omega arith

  pub none_surveyed : LeastRemove t.clients.codes t.clients.map.count 0 None → survey count t.operations None ≡ surveyed (scan log count header_length [])
  none_surveyed found = surveyed_with (rw (le-ltb (second_remove (reverse all.past)) count (omega (arith, earliest None found))) refl)

  module _ {first : ℕ} (found : LeastRemove t.clients.codes t.clients.map.count 0 (Some first)) where
    pub first_small : first < count
    first_small = omega (arith, least_small all.kept.clients found, all.counted)

    pub all_surveyed : (second : Option ℕ) → LeastRemove t.clients.codes t.clients.map.count (first + 1) second → survey count t.operations second ≡ surveyed (scan log count header_length [])
    all_surveyed second next = surveyed_with (rw is (by second next))
      where
        is : second_remove (reverse all.past) ≡ unwrap_or second count
        is = rw (earliest (Some first) found, ← (add-one first)) (rw all.counted at (least_found all.kept.clients second (omega (arith, all.counted, first_small)) next))

        by : (second : Option ℕ) → LeastRemove t.clients.codes t.clients.map.count (first + 1) second → index_below count (unwrap_or second count) ≡ second
        by (Some n) next = rw (lt-ltb n count (omega (arith, least_small all.kept.clients next, all.counted))) refl
        by None next = rw (le-ltb count count (omega arith)) refl

  -- bytes that are handed in behind them: there are too many records already, something is wrong, or they fit
  module _ (bytes : List ℕ) where
    pub extends_full : max_records ≤ count → refusing SessionFull 0 ≡ extended (scan log count header_length []) bytes
    extends_full h = rw (all.reads, length-reverse all.past, all.counted, le-leb max_records count h) refl

    module _ {f : Result (Unit {0}) Refusal} (behind : FaultBehind bytes count t f) (h : count < max_records) where
      pub extends : unless_faulty f count ≡ extended (scan log count header_length []) bytes
      extends = rw (all.reads, length-reverse all.past, all.counted, reverse-reverse all.past, lt-leb max_records count h, behind.found all.past all.kept all.counted) refl

-- what a header says of the log
abbrev pub FromHeader : List ℕ → Result ℕ Refusal → Type 0
FromHeader log (Err refusal) = read_partial log ≡ refused refusal 0
FromHeader log (Ok count) = (count ≤ max_records) × (read_partial log ≡ scan log count header_length [])

-- the header of a log: a refusal of it is one of the log, and behind it the records are read
pub header_is : (log : List ℕ) → (header : Result ℕ Refusal) → header_of log ≡ header → FromHeader log header
unfolding read_partial
header_is log header e = go (ltb (length log) header_length) (eqb (get_or log 0 0) log_version) (ltb max_records (count_field log)) refl refl refl (sym e)
  where
    go : (a b c : Bool) → ltb (length log) header_length ≡ a → eqb (get_or log 0 0) log_version ≡ b → ltb max_records (count_field log) ≡ c
        → header ≡ (if a then Err WrongBytes else if not b then Err WrongVersion else if c then Err TooManyRecords else Ok (count_field log)) → FromHeader log header
    go true b c ta tb tc e = rw (e, ta) refl
    go false false c ta tb tc e = rw (e, ta, tb) refl
    go false true true ta tb tc e = rw (e, ta, tb, tc) refl
    go false true false ta tb tc e = rw e (ltb-false max_records (count_field log) tc, rw (ta, tb, tc) refl)
