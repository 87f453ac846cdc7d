-- Whatever an order of a cell's history goes on with is placeable, so the order that the search finds is the lowest.
use Prim.Native.Nat.{ℕ, ◌<◌}
use native.Mathlib.Omega.{arith}
use native.Mathlib.Decide.{dec_lt, ℕ_discrete}
use mathlib.Core.Path.{◌≡◌, refl, sym, ap, ◌∙◌}
use mathlib.Core.Logic.{◌⊎◌, inl, inr}
use mathlib.Core.List.{List, [], ◌∷◌, ◌++◌}
use lib.ListN.{length}
use Rattle.history.specs.Object.{Cell}
use Rattle.history.specs.History.{History, write, read, initial_read, Precedes, Lawful}
use Rattle.history.specs.Register.{Content, initial, Stores}
use Rattle.history.specs.Register as cell
use Rattle.history.specs.Linearization.{placed, Listed, Linearization}
use Rattle.history.proofs.Running.{run_first}
use Rattle.violations.specs.Operation.{Is}
use Rattle.violations.specs.Cells.{On}
use Rattle.violations.specs.Verdict.{JudgedLinearization, LowestLinearization}
use Rattle.violations.specs.Greedy.{Left, Enabled, Placeable, Continues}
use Rattle.violations.specs.CellSearch.{Current, nothing, wrote, content_of, Reads, of_initial, of_written, Safe, Serves, reads, writes, Searched}
use Rattle.violations.proofs.Operations.{is_returned}
use Rattle.violations.proofs.Orderings.{in_order}
use Rattle.violations.proofs.Judged.{due_judged}
use Rattle.violations.proofs.LowestOrders.{goes_on_at, listed_there, other_behind, goes_on_left, goes_on_enabled, continues_lowest}
use Rattle.violations.proofs.CellRuns.{initial_apart, initial_first}
use Rattle.violations.proofs.CellOperations.{write_on, read_on, due_on}
use Rattle.violations.proofs.CellExcluding.{Begins, begins_here, begins, begins_one}
use Rattle.violations.proofs.CellPlacing.{cell_starts, cell_places}

-- An order as the judge lists it goes on, after `order`, with o.
module _ {h : History} (lawful : Lawful h) {order : List ℕ} {c : Current} (s : Searched h order c) (o : ℕ) (rest : List ℕ)
    (judged : JudgedLinearization Cell h (order ++ (o ∷ rest))) where
  abbrev whole : List ℕ
  whole = order ++ (o ∷ rest)

  abbrev legal : Linearization Cell h whole
  legal = judged.legal

  abbrev o_at : Listed whole o
  o_at = goes_on_at order o rest

  abbrev due_listed : {p : ℕ} → Left h order p → Listed whole p
  due_listed l = due_judged lawful judged l.due

  -- It is a write.
  module _ (is : Is h write o) where
    write_here : h.kind (placed whole o_at.at) ≡ write
    write_here = ap h.kind o_at.here ∙ is.kinds

    behind : {p : ℕ} → Left h order p → (h.kind p ≡ write → ⊥) → (l : Listed whole p) → length order < l.at
    behind left n l = other_behind order o rest left (λ e. n (sym (ap h.kind e) ∙ is.kinds)) l

    -- an initial read that is left would come after the write
    no_initial_left : {x : ℕ} → Left h order x → Is h initial_read x → ⊥
    no_initial_left l i =
        let m = due_listed l in
        let unwritten = initial_first legal.runs m.at m.below (ap h.kind m.here ∙ i.kinds) in
        unwritten.none (length order) (omega arith) (behind l (λ k. omega (arith, i.kinds)) m) write_here

    -- no read of what the cell holds is left: it would come after this write, and would read another value
    all_read : {d : Current} → c ≡ d → (x : ℕ) → Left h order x → Reads h x d → ⊥
    all_read e x l (of_initial i) = no_initial_left l i
    all_read e x l (of_written {w} i same) =
        let m = due_listed l in
        let (is-w, at-w) = s.current w e in
        let m' = listed_there order o rest at-w in
        let b = begins lawful legal (read_on i same) m in
        let b' = begins lawful legal (write_on is-w) m' in
        b.alone.none (length order) (omega (arith, begins_one lawful legal m.below m'.below b b', b'.up_to, at-w.below))
        (omega (arith, behind l (λ k. omega (arith, i.kinds)) m)) write_here

    -- the write is safe: an enabled operation on another value that precedes a read of the written value would stand between the
    -- write and that read
    safe : Safe h order o
    safe = record {
      calls = λ x y on e n.
          let not_before : Precedes h y x → ⊥ = unless x y on e n in
          let apart : h.ret y ≡ h.call x → ⊥ = lawful.apart y x e.left.due.known on.known in
          omega arith;
    }
      where
        unless : (x y : ℕ) → On h (h.value o) x → Enabled h order y → (On h (h.value o) y → ⊥) → Precedes h y x → ⊥
        unless x y on e n before = go (ℕ_discrete o x)
          where
            at_y : Listed whole y
            at_y = due_listed e.left

            after : length order < at_y.at
            after = other_behind order o rest e.left (λ q. n (rw (← q) (write_on is))) at_y

            on_y : On h (h.value y) y
            on_y = due_on lawful e.left.due (λ k. no_initial_left e.left (record { known = e.left.due.known; kinds = k }))

            between : Listed whole x → ⊥
            between at_x = by (dec_lt (length order) y_begins.at) (dec_lt y_begins.at (length order))
              where
                x_begins : Begins h whole (h.value o) at_x.at
                x_begins = begins lawful legal on at_x

                y_begins : Begins h whole (h.value y) at_y.at
                y_begins = begins lawful legal on_y at_y

                -- the write of x's value is o
                start : x_begins.at ≡ length order
                start =
                    let own = begins lawful legal (write_on is) o_at in
                    begins_one lawful legal at_x.below o_at.below x_begins own ∙ begins_here own write_here

                later : at_y.at < at_x.at
                later = in_order legal.ordering lawful before at_y at_x

                by : Dec (length order < y_begins.at) → Dec (y_begins.at < length order) → ⊥
                by (yes l) d = x_begins.alone.none y_begins.at (omega (arith, start)) (omega (arith, y_begins.up_to, later)) y_begins.kinds
                by (no l) (yes m) = y_begins.alone.none (length order) (omega arith) (omega (arith, after)) write_here
                by (no l) (no m) =
                    let same : y_begins.at ≡ length order = omega arith in
                    n (rw (sym y_begins.value ∙ ap (λ i. h.value (placed whole i)) same ∙ ap h.value o_at.here) at on_y)

            go : Dec (o ≡ x) → ⊥
            go (yes q) = omega (arith, ap h.call q, (goes_on_enabled lawful order o rest judged).first y e.left)
            go (no q) = between (legal.ordering.every x on.known (is_returned lawful (record { known = on.known; kinds = is_read on.kinds }) (omega arith)))
              where
                is_read : (h.kind x ≡ write) ⊎ (h.kind x ≡ read) → h.kind x ≡ read
                is_read (inl k) = absurd (q (lawful.once o x is.known on.known is.kinds k (sym on.is)))
                is_read (inr k) = k

  -- whatever it is, it may be placed
  next : (c' : Current) × Placeable h (Serves h) order c o c'
  next =
      let (there, stored, after) = run_first (s.follows (o ∷ rest) legal.runs) in
      let (c', serves) = go stored c refl refl in
      (c', record { enabled = goes_on_enabled lawful order o rest judged; serves = serves })
    where
      is_here : {k : ℕ} → h.kind o ≡ k → Is h k o
      is_here k = record { known = (goes_on_left lawful order o rest judged).due.known; kinds = k }

      go : {x y : Content} → Stores h o x y → (d : Current) → c ≡ d → content_of h d ≡ x → (c' : Current) × Serves h order o c c'
      go (cell.writes k) d e f = (wrote o, writes (is_here k) (all_read (is_here k) refl) (safe (is_here k)))
      go (cell.reads k v) nothing e f = absurd (initial_apart f)
      go (cell.reads {v} k q) (wrote w) e f = let same : h.value w ≡ v = cc in (c, reads {c = c} (rw e (of_written (is_here k) (q ∙ sym same))))
      go (cell.reads_initial k) nothing e f = (c, reads {c = c} (rw e (of_initial (is_here k))))
      go (cell.reads_initial k) (wrote w) e f = absurd (initial_apart (sym f))

-- The order that the search finds is the lowest.
pub cell_found_lowest : {h : History} → Lawful h → {order : List ℕ} → Continues h (Serves h) [] nothing order → JudgedLinearization Cell h order
    → LowestLinearization Cell h order
cell_found_lowest {h} lawful found judged = record {
  judged = judged;
  none_lower = continues_lowest lawful (Searched h) (λ order c c' o s. cell_places lawful s) (λ order c o rest s. next lawful s o rest) found cell_starts;
}
