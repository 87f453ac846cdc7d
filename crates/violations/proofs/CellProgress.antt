-- While something is left and no pattern occurs in a cell's history, something is placeable.
use Prim.Native.Nat.{ℕ, ◌<◌}
use native.Mathlib.Omega.{arith}
use native.Mathlib.Decide.{dec_lt, ℕ_discrete}
use mathlib.Core.Path.{◌≡◌, refl, sym, ap}
use mathlib.Core.Logic.Dec
use mathlib.Core.Logic.{◌⊎◌, inl, inr}
use mathlib.Core.List.{List}
use Rattle.reader.specs.Search.{None}
use Rattle.reader.proofs.Search.{Lowest, lowest}
use Rattle.history.specs.History.{History, write, read, initial_read, Precedes, Lawful}
use Rattle.history.proofs.Deciding.{equivalent?}
use Rattle.violations.specs.Operation.{Is}
use Rattle.violations.specs.Cells.{On, Written}
use Rattle.violations.specs.Greedy.{Left}
use Rattle.violations.specs.CellSearch.{Current, nothing, wrote, Reads, of_initial, of_written, AllRead, Safe, Serves, reads, writes, Sound, Searched}
use Rattle.violations.proofs.Operations.{is?, precedes_unless_after}
use Rattle.violations.proofs.Greedy.{left?, Earliest, earliest, called_enabled, earliest_enabled, Next}
use Rattle.violations.proofs.CellOperations.{due_on}
use Rattle.violations.proofs.CellDeciding.{on?}
use Rattle.violations.proofs.CellPlacing.{no_initial}

-- whether an operation reads what the cell holds
pub reads? : (h : History) (c : Current) (o : ℕ) → Dec (Reads h o c)
reads? h nothing o = equivalent? of_initial back (is? h initial_read o)
  where
    back : Reads h o nothing → Is h initial_read o
    back (of_initial i) = i
reads? h (wrote w) o = equivalent? {P = _ × _} (λ p. of_written p.0 p.1) back (Dec.and (is? h read o) (ℕ_discrete (h.value o) (h.value w)))
  where
    back : Reads h o (wrote w) → Is h read o × (h.value o ≡ h.value w)
    back (of_written i e) = (i, e)

-- Of what is left, p is the first to return.
module _ {h : History} (lawful : Lawful h) (sound : Sound h) {order : List ℕ} {c : Current} (s : Searched h order c) {p : ℕ} (soonest : Earliest h order p) where
  abbrev left : Left h order p
  left = soonest.left

  -- A read of what the cell holds is left. It is enabled, or p is such a read, which is: otherwise p would precede it, which
  -- pattern 10 and `block` exclude.
  next_read : {x : ℕ} → Left h order x → Reads h x c → Next h (Serves h) order c
  next_read {x} l r = go (dec_lt (h.call x) (h.ret p)) (reads? h c p)
    where
      not_behind : {d : Current} → c ≡ d → Reads h x d → (Reads h p d → ⊥) → Precedes h p x → ⊥
      not_behind e (of_initial i) n before =
          sound.fresh p x (due_on lawful left.due (λ k. n (of_initial (record { known = left.due.known; kinds = k })))) i before
      not_behind e (of_written {w} i same) n before = omega (arith, s.block sound w x p e l i same left other)
        where
          other : On h (h.value w) p → ⊥
          other on = go on.kinds
            where
              go : (h.kind p ≡ write) ⊎ (h.kind p ≡ read) → ⊥
              go (inl k) = let (is, at) = s.current w e in left.unplaced (rw (lawful.once p w left.due.known is.known k is.kinds on.is) at)
              go (inr k) = n (of_written (record { known = left.due.known; kinds = k }) on.is)

      go : Dec (h.call x < h.ret p) → Dec (Reads h p c) → Next h (Serves h) order c
      go (yes b) d = (x, c, record { enabled = called_enabled soonest l b; serves = reads r })
      go (no b) (yes d) = (p, c, record { enabled = earliest_enabled lawful soonest; serves = reads d })
      go (no b) (no n) = absurd (not_behind refl r n (precedes_unless_after lawful left.due.known l.due.known (omega arith)))

  -- No read of what the cell holds is left. The write of p's value may be placed, or that of a value that keeps it from being
  -- safe.
  module _ (all : AllRead h order c) where
    -- what is left is on a value, whose write is left
    record Writer (y : ℕ) : Type 0 where
      on : On h (h.value y) y
      by : ℕ
      is : Is h write by
      same : h.value by ≡ h.value y
      is_left : Left h order by

    writer : {y : ℕ} → Left h order y → Writer y
    writer {y} l = go on.kinds
      where
        on : On h (h.value y) y
        on = due_on lawful l.due (no_initial s all l)

        go : (h.kind y ≡ write) ⊎ (h.kind y ≡ read) → Writer y
        go (inl k) = record { on = on; by = y; is = record { known = l.due.known; kinds = k }; same = refl; is_left = l }
        go (inr k) = by_read (s.served y w.by is l w.writes (sym w.is))
          where
            is : Is h read y
            is = record { known = l.due.known; kinds = k }

            w : Written h (h.value y)
            w = sound.named y is

            by_read : Left h order w.by ⊎ (c ≡ wrote w.by) → Writer y
            by_read (inl m) = record { on = on; by = w.by; is = w.writes; same = w.is; is_left = m }
            by_read (inr e) = absurd (all y l (rw e (of_written is (sym w.is))))

    place : {w : ℕ} → Is h write w → Left h order w → h.call w < h.ret p → Safe h order w → Next h (Serves h) order c
    place {w} is l before safe = (w, wrote w, record { enabled = called_enabled soonest l before; serves = writes is all safe })

    -- y keeps write b from being safe: it precedes x, which is on the value of b
    record Blocks (b y : ℕ) : Type 0 where
      is_left : Left h order y
      other : On h (h.value b) y → ⊥
      x : ℕ
      on : On h (h.value b) x
      before : Precedes h y x

    blocks? : (b y : ℕ) → Dec (Blocks b y)
    blocks? b y = go (left? h order y) (on? h (h.value b) y) (lowest Behind (λ x. Dec.and (on? h (h.value b) x) (dec_lt _ _)) h.count)
      where
        Behind : ℕ → Type 0
        Behind x = On h (h.value b) x × Precedes h y x

        go : Dec (Left h order y) → Dec (On h (h.value b) y) → Lowest Behind h.count ⊎ None Behind h.count → Dec (Blocks b y)
        go (no n) d e = no (λ q. n q.is_left)
        go (yes l) (yes on) e = no (λ q. q.other on)
        go (yes l) (no n) (inl f) = yes (record { is_left = l; other = n; x = f.at; on = f.holds.0; before = f.holds.1 })
        go (yes l) (no n) (inr f) = no (λ q. f q.x q.on.known (q.on, q.before))

    next_write : Next h (Serves h) order c
    next_write = go (lowest (Blocks b) (blocks? b) h.count)
      where
        u : Writer p
        u = writer left

        b : ℕ
        b = u.by

        -- b is called before p returns
        timely : h.call b < h.ret p
        timely = by u.on.kinds
          where
            by : (h.kind p ≡ write) ⊎ (h.kind p ≡ read) → h.call b < h.ret p
            by (inl k) =
                let e : b ≡ p = lawful.once b p u.is.known left.due.known u.is.kinds k u.same in
                omega (arith, ap h.call e, lawful.spans p left.due.known)
            by (inr k) = sound.timely p b (record { known = left.due.known; kinds = k }) u.is (sym u.same)

        safe : None (Blocks b) h.count → Safe h order b
        safe none = record {
          calls = λ x y on e n.
              let not_before : Precedes h y x → ⊥ = λ q. none y e.left.due.known (record { is_left = e.left; other = n; x = x; on = on; before = q }) in
              let apart : h.ret y ≡ h.call x → ⊥ = lawful.apart y x e.left.due.known on.known in
              omega arith;
        }

        -- y blocks b: since values do not cross, p precedes no operation on y's value, so the write of that value is safe
        blocked : {y : ℕ} → Blocks b y → Next h (Serves h) order c
        blocked {y} q =
            place w.is w.is_left (called w.by (record { known = w.is.known; kinds = inl w.is.kinds; is = w.same }))
            (record { calls = λ x z on e n. omega (arith, called x (rw (← w.same) on), soonest.first z e.left) })
          where
            w : Writer y
            w = writer q.is_left

            called : (z : ℕ) → On h (h.value y) z → h.call z < h.ret p
            called z on =
                let different : h.value b ≡ h.value y → ⊥ = λ e. q.other (rw e w.on) in
                let not_behind : Precedes h p z → ⊥ = λ before.
                sound.uncrossed (h.value b) (h.value y) p z y q.x different (rw u.same u.on) on w.on q.on before q.before in
                let apart : h.ret p ≡ h.call z → ⊥ = lawful.apart p z left.due.known on.known in
                omega arith

        go : Lowest (Blocks b) h.count ⊎ None (Blocks b) h.count → Next h (Serves h) order c
        go (inl q) = blocked q.holds
        go (inr none) = place u.is u.is_left timely (safe none)

-- while something is left, something is placeable
pub cell_goes_on : {h : History} → Lawful h → Sound h → {order : List ℕ} {c : Current} → Searched h order c → {o : ℕ} → Left h order o
    → Next h (Serves h) order c
cell_goes_on {h} lawful sound {order} {c} s l =
    let (p, soonest) = earliest l in
    go soonest (lowest Reading (λ x. Dec.and (left? h order x) (reads? h c x)) h.count)
  where
    Reading : ℕ → Type 0
    Reading x = Left h order x × Reads h x c

    go : {p : ℕ} → Earliest h order p → Lowest Reading h.count ⊎ None Reading h.count → Next h (Serves h) order c
    go soonest (inl x) = next_read lawful sound s soonest x.holds.0 x.holds.1
    go soonest (inr none) = next_write lawful sound s soonest (λ x m r. none x m.due.known (m, r))
