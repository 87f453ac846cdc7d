-- What holds of the operations in the table.
use Prim.Native.Nat.{ℕ, ◌≤◌, ◌<◌}
use native.Mathlib.Omega.{arith}
use mathlib.Core.Path.{◌≡◌}
use mathlib.Core.List.{List}
use Rattle.record.specs.declared.record.Record.{Record}
use Rattle.reader.specs.Log.{max_records}
use Rattle.reader.specs.Readable.{ReadableLog}
use Rattle.reader.proofs.Laws.{few_operations}
use Rattle.history.specs.History.{History, empty_remove, Returned, Lawful}
use Rattle.history.specs.Operations.{history_of}
use Rattle.history.specs.Table.{Agree}
use Rattle.history.proofs.Agreeing.{agree_sym}
use Rattle.history.proofs.Laws.{history_lawful, returns_within}
use Rattle.violations.proofs.Laws.{agree_lawful}
use Rattle.history.specs.Positions.{max_positions}
use Rattle.matching.specs.Held.{Held}

-- a history that agrees with that of a readable log is held
pub agree_held : {log : List ℕ} {records : List Record} {h : History} → ReadableLog log records → Agree h (history_of records) → Held h
agree_held {records = records} {h} readable agree = record {
  lawful = lawful;
  few = omega (arith, agree.count, few_operations records, readable.partial.regular.few);
  short = omega (arith, agree.end, readable.partial.regular.few);
  empties = empties;
}
  where
    lawful : Lawful h
    lawful = agree_lawful (agree_sym agree) (history_lawful readable)

    empties : (e : ℕ) → e < h.count → h.kind e ≡ empty_remove → h.ret e < max_records
    empties e l k =
        let back : Returned (history_of records) e = omega (arith, lawful.returned e l (omega arith), agree.ret e l, agree.end) in
        omega (arith, returns_within readable e back, agree.ret e l, readable.partial.regular.few)

-- an operation returns at a position above 0, and not behind the end
pub return_within : {h : History} → Held h → {o : ℕ} → o < h.count → (0 < h.ret o) × (h.ret o ≤ max_positions)
return_within held {o} l = (omega (arith, held.lawful.spans o l), omega (arith, held.lawful.ends o l, held.short))
