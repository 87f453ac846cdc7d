-- The laws of a log in which two neighbouring records have traded places that may: it is readable, and judged it has the verdict
-- byte of the log that it was made from.
use Prim.Native.Nat.{ℕ, zero, suc, ◌+◌, ◌<◌}
use native.Mathlib.Omega.{arith}
use mathlib.Core.Path.{◌≡◌, refl, sym, ap, ◌∙◌}
use mathlib.Core.List.{List, [], ◌∷◌, ◌++◌, append_assoc}
use lib.ListN.{length}
use Rattle.record.specs.Number.{bytes_of, Bytes}
use Rattle.record.specs.Record.{encode}
use Rattle.record.specs.declared.record.Record.{Record}
use Rattle.reader.specs.Log.{log_version, readable, read_log, encode_all, encode_log}
use Rattle.reader.specs.Readable.{Orderly}
use Rattle.reader.proofs.Laws.{readable_log, readable_orderly, orderly_readable}
use Rattle.history.specs.Object.{Queue}
use Rattle.history.specs.Operations.{history_of}
use Rattle.history.proofs.Laws.{history_lawful, history_lone}
use Rattle.violations.specs.Verdict.{Verdict}
use Rattle.violations.proofs.Laws.{alike_verdict}
use Rattle.archive.specs.Trade.{with_tick, traded, Traded}
use Rattle.archive.proofs.Trade.{traded_orderly, traded_length}
use Rattle.archive.proofs.Alike.{traded_alike}

module _ {log log' : List ℕ} (bytes : Bytes log) (t : Traded log log') where
  was_orderly : Orderly t.records
  was_orderly = readable_orderly (readable_log log t.records t.reads) bytes

  -- the log with the trade is readable, and its records are the traded ones
  pub traded_readable : read_log log' ≡ readable (traded t.place t.records)
  traded_readable = ap read_log t.bytes ∙ orderly_readable (traded t.place t.records) (traded_orderly was_orderly t.tradable)

  -- its verdict byte is the same
  pub traded_verdict : {m n : ℕ} {xs ys : List ℕ} → Verdict Queue (history_of t.records) m xs
      → Verdict Queue (history_of (traded t.place t.records)) n ys → m ≡ n
  traded_verdict =
      let read = readable_log log t.records t.reads in
      let read' = readable_log log' (traded t.place t.records) traded_readable in
      alike_verdict Queue (history_lawful read) (history_lawful read') (history_lone read) (history_lone read')
      (traded_alike was_orderly t.tradable)

-- "the two records change places whole but for their ticks, no other byte changes": what stands before and behind the two records is the same.
pub record TradedBytes (log log' : List ℕ) : Type 0 where
  pub before : List ℕ
  pub after : List ℕ
  pub first : Record
  pub second : Record
  pub was : log ≡ before ++ (encode first ++ (encode second ++ after))
  pub now_is : log' ≡ before ++ (encode (with_tick first.tick second) ++ (encode (with_tick second.tick first) ++ after))

-- with bytes in front of both
behind : (front : List ℕ) {xs ys : List ℕ} → TradedBytes xs ys → TradedBytes (front ++ xs) (front ++ ys)
behind front t = record {
  before = front ++ t.before;
  after = t.after;
  first = t.first;
  second = t.second;
  was = ap (λ l. front ++ l) t.was ∙ sym (append_assoc front t.before (encode t.first ++ (encode t.second ++ t.after)));
  now_is = ap (λ l. front ++ l) t.now_is ∙ sym (append_assoc front t.before (encode (with_tick t.first.tick t.second) ++ (encode (with_tick t.second.tick t.first) ++ t.after)));
}

traded_encoded : (i : ℕ) (records : List Record) → i + 1 < length records → TradedBytes (encode_all records) (encode_all (traded i records))
unfolding encode_all traded
traded_encoded i [] l = absurd (omega arith)
traded_encoded i (r ∷ []) l = absurd (omega arith)
traded_encoded zero (r ∷ s ∷ records) l = record { before = []; after = encode_all records; first = r; second = s; was = refl; now_is = refl }
traded_encoded (suc i) (r ∷ s ∷ records) l = behind (encode r) (traded_encoded i (s ∷ records) (omega arith))

pub traded_bytes : {log log' : List ℕ} → Bytes log → Traded log log' → TradedBytes log log'
traded_bytes {log} {log'} bytes t =
    let own : encode_log t.records ≡ log = (readable_log log t.records t.reads).partial.bytes bytes in
    let header : List ℕ = log_version ∷ bytes_of 2 (length t.records) in
    let both : TradedBytes (header ++ encode_all t.records) (header ++ encode_all (traded t.place t.records)) = behind header (traded_encoded t.place t.records t.tradable.there) in
    let same : log' ≡ header ++ encode_all (traded t.place t.records) = t.bytes ∙ ap (λ n. log_version ∷ bytes_of 2 n ++ encode_all (traded t.place t.records)) (traded_length t.place t.records) in
    rw (sym own, same) both
