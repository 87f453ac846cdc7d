-- What the search comes to, with the limits that operations set, is a legal order, or some pattern occurs.
use Prim.Native.Nat.{ℕ, ◌+◌, ◌<◌}
use mathlib.Core.Path.{◌≡◌}
use mathlib.Core.Logic.{inl, inr}
use mathlib.Core.List.{List, ◌∷◌}
use lib.ListN.{take}
use Rattle.std.specs.Prelude.{Option, Some, None}
use Rattle.history.specs.Object.{Queue}
use Rattle.history.specs.History.{add, empty_remove}
use Rattle.history.specs.Table.{tabled}
use Rattle.violations.specs.Violations.{Is, Removed, false_empty, NoViolation}
use Rattle.violations.specs.Search.{Single, Sound}
use Rattle.violations.specs.Found.{LastGap, Found}
use Rattle.violations.proofs.Laws.{judged_complete, excluded, tables_fit}
use Rattle.violations.proofs.Chains.{false_empty_lem}
use Rattle.matching.specs.Held.{Held}
use Rattle.matching.specs.Matching.{Partners}
use Rattle.matching.specs.Reaches.{reach_at, Reaching}
use Rattle.search.specs.Gaps.{Uncovered}
use Rattle.search.specs.Bounds.{limit_at, LimitTable}
use Rattle.search.specs.Searching.{gap_at, Limits, Ends}
use Rattle.search.specs.Order.{Ordered}
use Rattle.search.proofs.Fitting.{Kinds, is_add, is_remove, is_empty, is_none, kinds}
use Rattle.search.proofs.LastGaps.{limit_add_removed, limit_other, limit_none, last_gap}

module _ {count end : ℕ} {table partner reach gaps limit : List ℕ} (held : Held (tabled count end table)) (partners : Partners table count partner) (single : Single (tabled count end table))
    (right : Reaching (tabled count end table) reach) (limited : LimitTable count end table partner gaps limit) where
  pub limits_right : Limits (tabled count end table) limit
  limits_right = record {
    sized = limited.sized;
    removed_adds = λ a r is out. limit_add_removed held partners limited single is out;
    others = others;
  }
    where
      others : (o : ℕ) → o < count → ((tabled count end table).kind o ≡ empty_remove → ⊥) → (Is (tabled count end table) add o → Removed (tabled count end table) o → ⊥) → limit_at limit o ≡ end + 1
      others o known full never = go (kinds held o known)
        where
          go : Kinds (tabled count end table) o → limit_at limit o ≡ end + 1
          go (is_add is) = limit_other held partners limited (inr (is, never is))
          go (is_remove is) = limit_other held partners limited (inl is)
          go (is_empty is) = absurd (full is.kinds)
          go (is_none is) = limit_none held partners limited is

  -- where no pattern occurs, the tables serve
  module _ (uncovered : Uncovered (tabled count end table) reach end gaps) where
    have_gaps : NoViolation Queue (tabled count end table) → (e : ℕ) → Is (tabled count end table) empty_remove e
        → (0 < limit_at limit e) × LastGap (tabled count end table) e (gap_at limit e)
    have_gaps clean e is = last_gap held partners limited right uncovered is (λ covered. let (chain, found) = false_empty_lem is covered in clean 6 (e ∷ chain) (false_empty found))

    tables_serve : NoViolation Queue (tabled count end table) → Sound (tabled count end table) (reach_at reach) (gap_at limit)
    tables_serve clean = tables_fit held.lawful right.reaches (λ n listed l. clean n listed) (λ e is. (have_gaps clean e is).1.lies) (λ e is. (have_gaps clean e is).1.uncovered)

    pub ordered : (list : List ℕ) (ended : Option ℕ) → Ends (tabled count end table) reach limit ended list → Ordered (tabled count end table) ended list
    ordered list (Some k) (within, sized, judged, continues) =
        let clean : NoViolation Queue (tabled count end table) = λ n listed. excluded held.lawful (judged_complete judged) in
        let found : Found (tabled count end table) (take k list) =
        record { reach = reach_at reach; gap = gap_at limit; reaches = right.reaches; gaps = λ e is. (have_gaps clean e is).1; continues = continues (λ e is. (have_gaps clean e is).0) } in
        record { sized = sized; within = within; judged = judged; found = found }
    ordered list None (sized, unfit) = (sized, λ clean. unfit (tables_serve clean) (λ e is. (have_gaps clean e is).0))
