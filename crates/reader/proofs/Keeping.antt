-- The tables hold what they should after each record: what a record that nothing is wrong with does to them.
use Prim.Native.Nat.{ℕ, ◌+◌, ◌*◌, ◌/◌, ◌≤◌, ◌<◌}
use native.Mathlib.Omega.{arith}
use native.Mathlib.Numerals.{add-one}
use native.Mathlib.Decide.{dec_lt, ℕ_discrete}
use mathlib.Core.Path.{◌≡◌, refl, sym, ap, ◌∙◌}
use mathlib.Core.Bool.{Bool, true, false, not}
use mathlib.Core.Logic.{◌⊎◌, inl, inr}
use mathlib.Core.List.{List, [], ◌∷◌, ◌++◌, append-nil, reverse}
use lib.ListN.{length, get_or, set, take, length-append, length-reverse, length-set}
use lib.Seq.{take-suc-set, get_or-set_same, get_or-set_other}
use lib.Dec.{ltb, eqb, lit≤}
use borrow.Author.Tests.{eq-eqb, ne_eqb, eqb-true, eqb-false, ltb-false}
use Rattle.std.specs.Prelude.{Option, Some, None as Nothing, unwrap_or, Result, Ok, Err, if◌then◌else◌}
use Rattle.record.specs.declared.refusal.Refusal.{Refusal}
use Rattle.record.specs.declared.refusal.Refusal.TheVariants.{TickFell, ClientBusy, TickRepeated, AddedTwice}
use Rattle.record.specs.declared.record.Event.{Event}
use Rattle.record.specs.declared.record.Event.TheVariants.{CallAdd, CallRemove, ReturnAdd, ReturnRemove}
use Rattle.record.specs.declared.record.Record.{Record}
use Rattle.table.specs.Table.{is_in}
use Rattle.map.specs.Map.{Latest}
use Rattle.map.specs.declared.map.Map.{Map}
use Rattle.map.proofs.Laws.{key_new, key_old}
use Rattle.reader.specs.Log.{max_records, leaves, pending_kind, returned_at, value_of, added_values, last_tick, operations, pending_from, event_fault, fault}
use Rattle.reader.specs.Readable.{record_of}
use Rattle.reader.specs.Search.{None}
use Rattle.reader.specs.Tables.{code_of, start_of, New, Room, ClientsKept, AddedKept, first, more, Kept, Stands, fault_in, Noted, ValueNoted, LeastRemove}
use Rattle.reader.specs.declared.clients.Standing.{Standing}
use Rattle.reader.specs.declared.clients.Clients.{Clients}
use Rattle.reader.specs.declared.scan.Tables.{Tables}
use Rattle.reader.proofs.Records.{code_latest, code_record}
use Rattle.reader.proofs.Codes.{kind_code, code_few, returned_code}
use Rattle.reader.proofs.Events.{call_or_return}
use Rattle.reader.proofs.Faults.{no_fault}
use Rattle.reader.proofs.Pending.{Open, pending_from_within, pending_from_lowest, pending_from_open}
use Rattle.reader.proofs.Search.{Lowest, lowest, dec_eq}

-- the entry that is found has the client's code, and one that is not in use has 0
code_found : {past : List Record} {client entry : ℕ} {c : Clients} → ClientsKept past c → Latest c.map.keys c.map.count client entry → get_or c.codes entry 0 ≡ code_of past client
code_found {past} {client} {entry} {c} k found = go (dec_lt entry c.map.count)
  where
    go : Dec (entry < c.map.count) → get_or c.codes entry 0 ≡ code_of past client
    go (yes l) = k.held entry l ∙ ap (code_of past) (found.holds l)
    go (no n) = k.unused entry (omega arith) ∙ sym (k.others client (λ p l e. n (found.last p l e).0))

-- how many records come before those of a record's tick
start_found : (past : List Record) (start index tick : ℕ) → start ≡ start_of past (last_tick past) → length past ≡ index → (if eqb tick (last_tick past) then start else index) ≡ start_of past tick
unfolding start_of
start_found [] start index tick is len = go (eqb tick 0)
  where
    go : (b : Bool) → (if b then start else index) ≡ 0
    go true = is
    go false = sym len
start_found (q ∷ past) start index tick is len = go (eqb tick q.tick) refl
  where
    go : (b : Bool) → eqb tick q.tick ≡ b → (if b then start else index) ≡ start_of (q ∷ past) tick
    go true e = is ∙ ap (start_of (q ∷ past)) (sym (eqb-true _ _ e))
    go false e = rw (ne_eqb q.tick tick (λ same. eqb-false _ _ e (sym same))) (sym len)

-- whether a tick is repeated matters only if no call is pending
repeats_idle : (e : Event) (kind : ℕ) (a b : Bool) (values : List ℕ) → (kind ≡ 0 → a ≡ b) → event_fault e kind a values ≡ event_fault e kind b values
unfolding event_fault
repeats_idle (CallAdd v) kind a b values same = go (eqb kind 0) refl
  where
    go : (idle : Bool) → eqb kind 0 ≡ idle
        → ◌≡◌ {A = Result (Unit {0}) Refusal} (if not idle then Err ClientBusy else if a then Err TickRepeated else if is_in v values then Err AddedTwice else Ok tt) (if not idle then Err ClientBusy else if b then Err TickRepeated else if is_in v values then Err AddedTwice else Ok tt)
    go true e = rw (same (eqb-true _ _ e)) refl
    go false e = refl
repeats_idle CallRemove kind a b values same = go (eqb kind 0) refl
  where
    go : (idle : Bool) → eqb kind 0 ≡ idle → ◌≡◌ {A = Result (Unit {0}) Refusal} (if not idle then Err ClientBusy else if a then Err TickRepeated else Ok tt) (if not idle then Err ClientBusy else if b then Err TickRepeated else Ok tt)
    go true e = rw (same (eqb-true _ _ e)) refl
    go false e = refl
repeats_idle ReturnAdd kind a b values same = refl
repeats_idle (ReturnRemove x) kind a b values same = refl

module _ {past : List Record} {index : ℕ} {t : Tables} {r : Record} {s : Standing} (k : Kept past t) (len : length past ≡ index) (stands : Stands r index t s) where
  code_is : s.code ≡ code_of past r.client
  code_is = stands.code ∙ code_found k.clients stands.entry

  start_is : s.start ≡ start_of past r.tick
  start_is = stands.start ∙ ap (λ tick. if eqb r.tick tick then t.start else index) k.tick ∙ start_found past t.start index r.tick k.start len

  -- what the code finds wrong is what is wrong
  pub fault_found : fault_in r t s ≡ fault past r
  unfolding fault fault_in
  fault_found = rw (k.tick, code_is, start_is, k.added.values_are, ← (kind_code past r.client)) (go (ltb r.tick (last_tick past)) refl)
    where
      go : (b : Bool) → ltb r.tick (last_tick past) ≡ b
          → (if b then Err TickFell else event_fault r.event (pending_kind past r.client) (ltb (start_of past r.tick) (code_of past r.client / 4)) (added_values past))
          ≡ (if b then Err TickFell else event_fault r.event (pending_kind past r.client) (returned_at past r.client r.tick) (added_values past))
      go true l = refl
      go false l = repeats_idle r.event _ _ _ (added_values past)
          (λ idle. sym (returned_code k.rising r.client r.tick (ltb-false _ _ l) (sym (kind_code past r.client) ∙ idle)))

added_few : (past : List Record) → length (added_values past) ≤ length past
unfolding added_values
added_few [] = omega arith
added_few (r ∷ past) = simp length-append (omega (arith, added_few past, value_few r.event))
  where
    value_few : (e : Event) → length (value_of e) ≤ 1
    value_few (CallAdd v) = lit≤ tt
    value_few CallRemove = lit≤ tt
    value_few ReturnAdd = lit≤ tt
    value_few (ReturnRemove x) = lit≤ tt

pub operations_few : (past : List Record) → operations past ≤ length past
unfolding operations
operations_few [] = omega arith
operations_few (r ∷ past) = omega (arith, operations_few past, call_or_return r.event)

-- the tables have room while there are records to come
pub has_room : {past : List Record} {t : Tables} → Kept past t → length past < max_records → Room t
has_room {past} k h = record {
  clients = omega (arith, k.clients.few);
  added = omega (arith, k.added.counted, added_few past);
  operations = omega (arith, k.calls, operations_few past);
}

-- tables in which nothing has been entered hold what is known before the first record
pub keeps_none : {t : Tables} → New t → Kept [] t
unfolding added_values operations code_of start_of
keeps_none new = record {
  tick = new.tick;
  start = new.start;
  rising = first;
  calls = new.operations;
  clients = record {
    few = omega (arith, new.met);
    apart = λ p q h. absurd (omega (arith, new.met));
    codes_sized = new.codes_sized;
    coded = λ p h. absurd (omega (arith, new.met));
    held = λ p h. absurd (omega (arith, new.met));
    unused = λ p h. new.codes_none p;
    others = λ client absent. refl;
  };
  added = record { counted = new.added; values_are = rw new.added refl };
}

-- the latest record of a client is noted at the client's entry
module _ {past : List Record} (r : Record) {index entry code : ℕ} (c c' : Clients) (k : ClientsKept past c) (len : length past ≡ index) (room : index < max_records)
    (found : Latest c.map.keys c.map.count r.client entry) (noted : Noted r.client code entry c c') (is : code ≡ (index + 1) * 4 + leaves r.event) where
  -- what stays and what is new, be the client an old one or not
  record Entry : Type 0 where
    below : entry < c'.map.count
    more_by_one : c'.map.count ≤ c.map.count + 1
    own : get_or c'.map.keys entry 0 ≡ r.client
    other_below : (p : ℕ) → p < c'.map.count → (p ≡ entry → ⊥) → p < c.map.count
    other : (p : ℕ) → p < c.map.count → (p ≡ entry → ⊥) → get_or c'.map.keys p 0 ≡ get_or c.map.keys p 0
    still : (p : ℕ) → p < c.map.count → p < c'.map.count

  entered : Entry
  entered = go (dec_lt entry c.map.count)
    where
      go : Dec (entry < c.map.count) → Entry
      go (yes l) = let (met-is, same) = noted.old l in
          record {
            below = omega arith;
            more_by_one = omega arith;
            own = rw same (found.holds l);
            other_below = λ p h n. omega arith;
            other = λ p h n. ap (λ keys. get_or keys p 0) same;
            still = λ p h. omega arith;
          }
      go (no n) = let (met-is, put) = noted.new (omega arith) in
          let here : entry ≡ c.map.count = omega (arith, found.within) in
          record {
            below = omega arith;
            more_by_one = omega arith;
            own = rw here (key_new c.map.keys c.map.count r.client put (omega (arith, c.map.linked.keys_sized, k.few)));
            other_below = λ p h n. omega arith;
            other = λ p h n. key_old c.map.keys c.map.count r.client put p h;
            still = λ p h. omega arith;
          }

  small : entry < length c.codes
  small = omega (arith, found.within, k.few, k.codes_sized)

  code_new : get_or c'.codes entry 0 ≡ (index + 1) * 4 + leaves r.event
  code_new = rw noted.codes_are (get_or-set_same c.codes entry code 0 small) ∙ is

  code_old : (p : ℕ) → (p ≡ entry → ⊥) → get_or c'.codes p 0 ≡ get_or c.codes p 0
  code_old p n = rw noted.codes_are (get_or-set_other c.codes entry p code 0 n)

  -- no other entry has this client
  alone : (p : ℕ) → p < c.map.count → get_or c.map.keys p 0 ≡ r.client → p ≡ entry
  alone p h e = let (l, b) = found.last p h e in k.apart p entry h l (e ∙ sym (found.holds l))

  code_own : code_of (r ∷ past) r.client ≡ (index + 1) * 4 + leaves r.event
  unfolding code_of
  code_own = rw (eq-eqb r.client r.client refl) (omega arith)

  code_other : (client : ℕ) → (r.client ≡ client → ⊥) → code_of (r ∷ past) client ≡ code_of past client
  unfolding code_of
  code_other client n = rw (ne_eqb r.client client n) refl

  clients_more : ClientsKept (r ∷ past) c'
  clients_more = record {
    few = omega (arith, k.few, entered.more_by_one);
    apart = λ p q h l e. apart p q h l e (ℕ_discrete p entry) (ℕ_discrete q entry);
    codes_sized = rw noted.codes_are (length-set c.codes entry code ∙ k.codes_sized);
    coded = λ p h. coded p h (ℕ_discrete p entry);
    held = λ p h. held p h (ℕ_discrete p entry);
    unused = λ p h. code_old p (λ e. omega (arith, entered.below)) ∙ k.unused p (unused p h (dec_lt p c.map.count));
    others = λ client absent. code_other client (λ e. absent entry entered.below (entered.own ∙ e))
        ∙ k.others client (λ p h e. others client absent p h e (ℕ_discrete p entry));
  }
    where
      apart : (p q : ℕ) → p < c'.map.count → q < c'.map.count → get_or c'.map.keys p 0 ≡ get_or c'.map.keys q 0 → Dec (p ≡ entry) → Dec (q ≡ entry) → p ≡ q
      apart p q h l e (yes a) (yes b) = omega arith
      apart p q h l e (yes a) (no b) =
          let below = entered.other_below q l b in
          absurd (b (alone q below (sym (entered.other q below b) ∙ sym e ∙ ap (λ x. get_or c'.map.keys x 0) a ∙ entered.own)))
      apart p q h l e (no a) (yes b) =
          let below = entered.other_below p h a in
          absurd (a (alone p below (sym (entered.other p below a) ∙ e ∙ ap (λ x. get_or c'.map.keys x 0) b ∙ entered.own)))
      apart p q h l e (no a) (no b) =
          let below = entered.other_below p h a in
          let below' = entered.other_below q l b in
          k.apart p q below below' (sym (entered.other p below a) ∙ e ∙ entered.other q below' b)

      coded : (p : ℕ) → p < c'.map.count → Dec (p ≡ entry) → 4 ≤ get_or c'.codes p 0
      coded p h (yes e) = rw (e, code_new) (omega arith)
      coded p h (no n) = rw (code_old p n) (k.coded p (entered.other_below p h n))

      held : (p : ℕ) → p < c'.map.count → Dec (p ≡ entry) → get_or c'.codes p 0 ≡ code_of (r ∷ past) (get_or c'.map.keys p 0)
      held p h (yes e) = rw (e, entered.own) (code_new ∙ sym code_own)
      held p h (no n) =
          let below = entered.other_below p h n in
          rw (entered.other p below n) (code_old p n ∙ k.held p below ∙ sym (code_other _ (λ e. n (alone p below (sym e)))))

      unused : (p : ℕ) → c'.map.count ≤ p → Dec (p < c.map.count) → c.map.count ≤ p
      unused p h (yes l) = absurd (omega (arith, entered.still p l))
      unused p h (no n) = omega arith

      others : (client : ℕ) → ((p : ℕ) → p < c'.map.count → get_or c'.map.keys p 0 ≡ client → ⊥) → (p : ℕ) → p < c.map.count → get_or c.map.keys p 0 ≡ client → Dec (p ≡ entry) → ⊥
      others client absent p h e (yes same) = absent entry entered.below (entered.own ∙ sym (found.holds (rw same at h)) ∙ ap (λ x. get_or c.map.keys x 0) (sym same) ∙ e)
      others client absent p h e (no n) = absent p (entered.still p h) (entered.other p h n ∙ e)

-- the values added, after a record that adds one or none
added_more : {past : List Record} (r : Record) {m m' : Map} → AddedKept past m → ValueNoted r.event m m' → m.count < max_records → AddedKept (r ∷ past) m'
unfolding added_values
added_more {past} r {m} {m'} k noted room = let (counted, values_are) = by r.event noted in record { counted = counted; values_are = values_are }
  where
    same : (m'.keys ≡ m.keys) × (m'.count ≡ m.count) → (m'.count ≡ length (added_values past ++ [])) × (take m'.count m'.keys ≡ added_values past ++ [])
    same (keys, count) = (rw append-nil (count ∙ k.counted), rw (append-nil, keys, count) k.values_are)

    new : (v : ℕ) → (m'.keys ≡ set m.keys m.count v) × (m'.count ≡ m.count + 1) → (m'.count ≡ length (added_values past ++ (v ∷ []))) × (take m'.count m'.keys ≡ added_values past ++ (v ∷ []))
    new v (keys, count) = (rw length-append (omega (arith, k.counted, count)), rw (keys, count, ← k.values_are, add-one) (take-suc-set m.keys m.count v (omega (arith, m.linked.keys_sized))))

    by : (e : Event) → ValueNoted e m m' → (m'.count ≡ length (added_values past ++ value_of e)) × (take m'.count m'.keys ≡ added_values past ++ value_of e)
    by (CallAdd v) noted = new v noted
    by CallRemove noted = same noted
    by ReturnAdd noted = same noted
    by (ReturnRemove x) noted = same noted

-- all that is kept, after a record
pub keeps : {past : List Record} (r : Record) {index code : ℕ} {s : Standing} {t t' : Tables} → Kept past t → length past ≡ index → index < max_records → Stands r index t s → fault past r ≡ Ok tt
    → ValueNoted r.event t.added t'.added → t.added.count < max_records → Noted r.client code s.entry t.clients t'.clients → code ≡ (index + 1) * 4 + leaves r.event
    → t'.tick ≡ r.tick → t'.start ≡ s.start → t'.operations ≡ operations (r ∷ past) → Kept (r ∷ past) t'
unfolding start_of
keeps {past} r {t = t} {t' = t'} k len room stands ok valued added noted is tick start calls = record {
  tick = tick;
  start = rw (eq-eqb r.tick r.tick refl) (start ∙ start_is k len stands);
  rising = more (no_fault past r ok).tick k.rising;
  calls = calls;
  clients = clients_more r t.clients t'.clients k.clients len room stands.entry noted is;
  added = added_more r k.added valued added;
}

-- the lowest index, from an index on, of a remove that the codes have as pending is that of the earliest one
module _ {past : List Record} {from : ℕ} {c : Clients} (k : ClientsKept past c) where
  pub least_small : {r : ℕ} → LeastRemove c.codes c.map.count from (Some r) → r < length past
  least_small (behind, (p, h, e), least) = omega (arith, code_few past (get_or c.map.keys p 0), k.held p h, e)

  pub least_found : (r : Option ℕ) → from ≤ length past → LeastRemove c.codes c.map.count from r → pending_from from (reverse past) ≡ unwrap_or r (length past)
  least_found r below found = omega (arith, upper r found, lower r found (dec_lt (pending_from from (reverse past)) (length (reverse past))))
    where
      upper : (r : Option ℕ) → LeastRemove c.codes c.map.count from r → pending_from from (reverse past) ≤ unwrap_or r (length past)
      upper (Some r) (behind, (p, h, e), least) =
          let code : code_of past (get_or c.map.keys p 0) ≡ (r + 1) * 4 + 2 = sym (k.held p h) ∙ e in
          let latest = code_record past (get_or c.map.keys p 0) (λ z. omega arith) in
          let small = call_or_return (record_of (reverse past) latest.at).event in
          let at : latest.at ≡ r = omega (arith, latest.code) in
          let is : Open (reverse past) latest.at = record { remove = omega (arith, latest.code); last = latest.last } in
          omega (arith, pending_from_lowest from (reverse past) latest.at (omega arith) (omega (arith, latest.below, length-reverse past)) is)
      upper Nothing found = omega (arith, pending_from_within from (reverse past) (omega (arith, length-reverse past)), length-reverse past)

      client : ℕ
      client = (record_of (reverse past) (pending_from from (reverse past))).client

      lower : (r : Option ℕ) → LeastRemove c.codes c.map.count from r → Dec (pending_from from (reverse past) < length (reverse past)) → unwrap_or r (length past) ≤ pending_from from (reverse past)
      lower r found (yes l) = go (lowest (λ p. get_or c.map.keys p 0 ≡ client) (λ p. dec_eq (get_or c.map.keys p 0) client) c.map.count)
        where
          code : code_of past client ≡ (pending_from from (reverse past) + 1) * 4 + 2
          code =
              let is = pending_from_open from (reverse past) l in
              code_latest past (pending_from from (reverse past)) (omega (arith, l, length-reverse past)) is.last ∙ ap (λ kind. (pending_from from (reverse past) + 1) * 4 + kind) is.remove

          at : (r : Option ℕ) → LeastRemove c.codes c.map.count from r → (p : ℕ) → p < c.map.count → get_or c.codes p 0 ≡ (pending_from from (reverse past) + 1) * 4 + 2 → unwrap_or r (length past) ≤ pending_from from (reverse past)
          at (Some r) (behind, there, least) p h is = omega (arith, least p h (omega arith) (omega arith))
          at Nothing least p h is = absurd (least p h (omega arith) (omega arith))

          go : Lowest (λ p. get_or c.map.keys p 0 ≡ client) c.map.count ⊎ None (λ p. get_or c.map.keys p 0 ≡ client) c.map.count → unwrap_or r (length past) ≤ pending_from from (reverse past)
          go (inl e) = at r found e.at e.below (k.held e.at e.below ∙ ap (code_of past) e.holds ∙ code)
          go (inr none) = absurd (omega (arith, code, k.others client none))
      lower (Some r) found (no n) = omega (arith, least_small found, length-reverse past)
      lower Nothing found (no n) = omega (arith, length-reverse past)
