-- What a session holds since it was begun, and the records of a log fed one after the other.
use Prim.Native.Nat.{ℕ, ◌≤◌}
use native.Mathlib.Omega.{arith}
use mathlib.Core.Path.{◌≡◌, refl, sym, ap, ◌∙◌, subst}
use mathlib.Core.List.{List, [], ◌∷◌, ◌++◌, map, map-append, reverse, reverse-cons, append_assoc, append-nil}
use lib.ListN.{length, drop, length-append, length-drop}
use lib.Seq.{drop-drop}
use borrow.Author.Tests.{le-ltb}
use Rattle.std.specs.Prelude.{Result, Ok, Err}
use Rattle.record.specs.declared.refusal.Refused.{Refused}
use Rattle.record.specs.Number.{bytes_of, Bytes}
use Rattle.record.specs.Record.{encode, size_of, Small}
use Rattle.record.specs.declared.record.Record.{Record}
use Rattle.reader.specs.Log.{header_length, max_records, Reading, readable, refused, read_partial, read_log, fault, encode_all, encode_log}
use Rattle.reader.specs.Readable.{sizes, Writable}
use Rattle.reader.proofs.Bytes.{sizes_snoc}
use Rattle.reader.proofs.Laws.{readable_is_partial, written_log}
use Rattle.judge.specs.Judge.{Judges, turned_down}
use Rattle.judge.specs.declared.judge.Verdict.{Verdict}
use Rattle.judge.specs.declared.judge.Verdict.TheVariants as judge
use Rattle.session.specs.Session.{open_stage, closed_stage, begin_answer, stage_closed, used_fed, fed_buffer}
use Rattle.session.specs.Course.{Lent, begun, answer_to, after_feed, after_close, Closes, if_accepted, Since, just_begun, then_fed, then_closed, after_feeds, answers_to, joined, log_of}
use Rattle.session.proofs.Holding.{Holding, refused_leaves, accepted_takes, fitting_taken, holding_closes, closed_refuses_feed, closed_refuses_close}

-- a session that was begun holds no records
pub begun_holds : (buffer : List ℕ) → header_length ≤ length buffer → (begin_answer buffer ≡ Ok header_length) × Holding (begun buffer) [] (drop header_length buffer)
unfolding bytes_of encode_all
begun_holds buffer room =
    let fits = le-ltb (length buffer) header_length room in
    (rw fits refl, record { stage_is = refl; used_is = refl; buffer_is = rw fits refl; few = omega arith; writable = Writable.none })

-- a session as it would be if it were open
abbrev opened : Lent → Lent
opened s = record { stage = open_stage; used = s.used; buffer = s.buffer }

-- The session holds these records, with these bytes behind them, and is open, or closed on a log that is readable.
pub data Stands (s : Lent) (records : List Record) (behind : List ℕ) : Type 0 where
  open_with : Holding s records behind → Stands s records behind
  closed_with : s.stage ≡ closed_stage → Holding (opened s) records behind → read_log (encode_log records) ≡ readable records → Stands s records behind

-- it holds the same with other numbers that are equal
holding_same : {s t : Lent} {records : List Record} {behind : List ℕ} → Holding s records behind → t.stage ≡ s.stage → t.used ≡ s.used → t.buffer ≡ s.buffer → Holding t records behind
holding_same h a b c = record { stage_is = a ∙ h.stage_is; used_is = b ∙ h.used_is; buffer_is = c ∙ h.buffer_is; few = h.few; writable = h.writable }

-- a log that was judged with success is readable, and of no other records than those it is read as but for 10
judged_readable : (log : List ℕ) {sheet left : List ℕ} (answer : Verdict) → Judges (read_log log) sheet answer left → (stage_closed open_stage answer ≡ closed_stage) → {records : List Record} → read_partial log ≡ readable records → read_log log ≡ readable records
judged_readable log answer j e {records} reads = go (read_log log) refl answer j e
  where
    go : (reading : Reading) → read_log log ≡ reading → {sheet left : List ℕ} (answer : Verdict) → Judges reading sheet answer left → stage_closed open_stage answer ≡ closed_stage → read_log log ≡ readable records
    go (readable others) r answer j e =
        let two : readable others ≡ readable records = sym (readable_is_partial log others r) ∙ reads in
        let same : others ≡ records = cc in
        r ∙ ap readable same
    go (refused refusal index) r answer turned_down e = absurd (omega (arith, e))

-- what lies behind records in a buffer that they were fed into
abbrev pub rest : List ℕ → List Record → List ℕ
rest buffer records = drop (sizes records) (drop header_length buffer)

-- What the accepted feeds since the beginning are, and how the session stands.
pub record Grown (buffer : List ℕ) (accepted : List (List ℕ)) (s : Lent) : Type 0 where
  pub fed : List Record
  pub accepted_are : accepted ≡ map encode fed
  pub stands : Stands s fed (rest buffer fed)

module _ {buffer : List ℕ} where
  -- a feed
  feed_grows : {accepted : List (List ℕ)} {s : Lent} → Grown buffer accepted s → (bytes : List ℕ) → Bytes bytes → Grown buffer (accepted ++ if_accepted (answer_to s bytes) bytes) (after_feed s bytes)
  feed_grows {accepted} {s} g bytes b = go g.stands
    where
      -- a refused feed leaves all as it was
      unfed : {r : Refused} → answer_to s bytes ≡ Err r → accepted ++ if_accepted (answer_to s bytes) bytes ≡ accepted
      unfed e = ap (λ a. accepted ++ if_accepted a bytes) e ∙ append-nil accepted

      by_answer : Holding s g.fed (rest buffer g.fed) → (a : Result ℕ Refused) → answer_to s bytes ≡ a → Grown buffer (accepted ++ if_accepted (answer_to s bytes) bytes) (after_feed s bytes)
      by_answer h (Err r) e = record { fed = g.fed; accepted_are = unfed e ∙ g.accepted_are; stands = open_with (refused_leaves h bytes e) }
      by_answer h (Ok n) e =
          let t = accepted_takes h bytes b e in
          let more : accepted ++ (bytes ∷ []) ≡ map encode (g.fed ++ (t.is ∷ [])) = ap (λ xs. xs ++ (bytes ∷ [])) g.accepted_are ∙ ap (λ x. map encode g.fed ++ (x ∷ [])) t.bytes_are ∙ sym (map-append encode g.fed (t.is ∷ [])) in
          let behind : drop (size_of t.is) (rest buffer g.fed) ≡ rest buffer (g.fed ++ (t.is ∷ [])) =
          drop-drop (size_of t.is) (sizes g.fed) (drop header_length buffer) ∙ ap (λ n. drop n (drop header_length buffer)) (sym (sizes_snoc g.fed t.is)) in
          record {
            fed = g.fed ++ (t.is ∷ []);
            accepted_are = ap (λ a. accepted ++ if_accepted a bytes) e ∙ more;
            stands = open_with (subst (Holding (after_feed s bytes) (g.fed ++ (t.is ∷ []))) behind t.holding);
          }

      go : Stands s g.fed (rest buffer g.fed) → Grown buffer (accepted ++ if_accepted (answer_to s bytes) bytes) (after_feed s bytes)
      go (open_with h) = by_answer h (answer_to s bytes) refl
      go (closed_with stage h reads) =
          let e = closed_refuses_feed stage h reads bytes in
          record {
            fed = g.fed;
            accepted_are = unfed e ∙ g.accepted_are;
            stands = closed_with stage (holding_same h refl (ap (λ a. used_fed s.used a) e) (ap (λ a. fed_buffer a s.used s.buffer bytes) e)) reads;
          }

  -- a close
  close_grows : {accepted : List (List ℕ)} {s : Lent} → Grown buffer accepted s → {sheet left : List ℕ} (answer : Verdict) → Closes s sheet answer left → Grown buffer accepted (after_close s answer)
  close_grows {accepted} {s} g {sheet} {left} answer closes = record { fed = g.fed; accepted_are = g.accepted_are; stands = go g.stands }
    where
      by_answer : Holding s g.fed (rest buffer g.fed) → (answer : Verdict) → Judges (read_log (encode_log g.fed)) sheet answer left → Stands (after_close s answer) g.fed (rest buffer g.fed)
      by_answer h (judge.Order k) j = closed_with refl (holding_same h (sym h.stage_is) refl refl) (judged_readable (encode_log g.fed) (judge.Order k) j refl (written_log g.fed h.few h.writable))
      by_answer h (judge.Pattern number k) j = closed_with refl (holding_same h (sym h.stage_is) refl refl) (judged_readable (encode_log g.fed) (judge.Pattern number k) j refl (written_log g.fed h.few h.writable))
      by_answer h (judge.Refused r) j = open_with (holding_same h refl refl refl)

      go : Stands s g.fed (rest buffer g.fed) → Stands (after_close s answer) g.fed (rest buffer g.fed)
      go (open_with h) = by_answer h answer (rw (holding_closes h) at closes.judges)
      go (closed_with stage h reads) =
          let same : stage_closed s.stage answer ≡ s.stage = closed_refuses_close stage h reads answer closes.judges in
          closed_with (same ∙ stage) (holding_same h refl refl refl) reads

  -- so whatever the session goes through
  pub since_grown : {accepted : List (List ℕ)} {s : Lent} → Since buffer accepted s → Grown buffer accepted s
  unfolding sizes
  since_grown (just_begun room) = record { fed = []; accepted_are = refl; stands = open_with (begun_holds buffer room).1 }
  since_grown (then_fed since bytes b) = feed_grows (since_grown since) bytes b
  since_grown (then_closed since answer closes) = close_grows (since_grown since) answer closes

-- what can be written behind others: its first record fits
first_fits : {past : List Record} (done after : List Record) {r : Record} → Writable past (done ++ (r ∷ after)) → Small r × (fault (reverse done ++ past) r ≡ Ok tt)
first_fits [] after (Writable.more small ok others) = (small, ok)
first_fits {past} (x ∷ done) after (Writable.more small ok others) = let (fits, fine) = first_fits done after others in (fits, rw (reverse-cons x done, append_assoc (reverse done) (x ∷ []) past) fine)

-- Records that can be written behind those that are held, and for which there is room, are all accepted.
pub records_taken : {s : Lent} {done : List Record} {behind : List ℕ} → Holding s done behind → (records : List Record) → Writable [] (done ++ records) → length (done ++ records) ≤ max_records → sizes records ≤ length behind
    → (answers_to s (map encode records) ≡ map (λ r. Ok (size_of r)) records) × Holding (after_feeds s (map encode records)) (done ++ records) (drop (sizes records) behind)
unfolding after_feeds answers_to sizes
records_taken {s} {done} {behind} h [] w few room = (refl, rw (append-nil done) h)
records_taken {s} {done} {behind} h (r ∷ records) w few room =
    let (small, ok) = first_fits done records w in
    let (accepted, held) = fitting_taken h r small (rw (append-nil (reverse done)) at ok) (omega (arith, length-append done (r ∷ records))) (omega arith) in
    let joins : (done ++ (r ∷ [])) ++ records ≡ done ++ (r ∷ records) = append_assoc done (r ∷ []) records in
    let (answers, holding) = records_taken {s = after_feed s (encode r)} {done = done ++ (r ∷ [])} {behind = drop (size_of r) behind} held records (subst (Writable []) (sym joins) w) (omega (arith, ap length joins)) (omega (arith, length-drop (size_of r) behind)) in
    (ap (λ a. a ∷ answers_to (after_feed s (encode r)) (map encode records)) accepted ∙ ap (λ others. Ok (size_of r) ∷ others) answers, rw (joins, drop-drop (sizes records) (size_of r) behind) at holding)

-- the feeds that are accepted are those whose answers say so
pub all_accepted : {buffer : List ℕ} {accepted : List (List ℕ)} {s : Lent} → Since buffer accepted s → (records : List Record) → ((r : Record) → Bytes (encode r)) → answers_to s (map encode records) ≡ map (λ r. Ok (size_of r)) records
    → Since buffer (accepted ++ map encode records) (after_feeds s (map encode records))
unfolding after_feeds answers_to
all_accepted {accepted = accepted} since [] bytes e = rw (append-nil accepted) since
all_accepted {buffer} {accepted} {s} since (r ∷ records) bytes e =
    let first : answer_to s (encode r) ≡ Ok (size_of r) = cc in
    let others : answers_to (after_feed s (encode r)) (map encode records) ≡ map (λ r. Ok (size_of r)) records = cc in
    let one : Since buffer (accepted ++ (encode r ∷ [])) (after_feed s (encode r)) = subst (λ a. Since buffer (accepted ++ if_accepted a (encode r)) (after_feed s (encode r))) first (then_fed since (encode r) (bytes r)) in
    subst (λ l. Since buffer l (after_feeds (after_feed s (encode r)) (map encode records))) (append_assoc accepted (encode r ∷ []) (map encode records)) (all_accepted {accepted = accepted ++ (encode r ∷ [])} {s = after_feed s (encode r)} one records bytes others)

-- the bytes of records, one behind the other, are those of the log
joined_records : (records : List Record) → joined (map encode records) ≡ encode_all records
unfolding joined encode_all
joined_records [] = refl
joined_records (r ∷ records) = ap (λ xs. encode r ++ xs) (joined_records records)

length_records : (records : List Record) → length (map encode records) ≡ length records
length_records [] = refl
length_records (r ∷ records) = omega (arith, length_records records)

pub log_of_records : (records : List Record) → log_of (map encode records) ≡ encode_log records
log_of_records records = rw (length_records records, joined_records records) refl
