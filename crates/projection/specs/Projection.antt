-- Logs written out of a log. Document 01, "Sheet, excerpt, narrowing": "Excerpt: the log of all records of all operations on the values of the
-- listed operations, and of the listed empty remove, in their places, with clients and ticks as they were." "Narrowing to a list of values keeps
-- all records of operations on those values and nothing else; repeats in the list change nothing."
use Rattle.std.specs.Prelude.{ℕ, Bool, false, List, [], ◌∷◌, eqb, if◌then◌else◌}
use Rattle.record.specs.declared.record.Record.{Record}
use Rattle.table.specs.Table.{is_in}
use Rattle.history.specs.History.{History, empty_remove, no_kind}
use Rattle.history.specs.Operations.{history_of, operation_of}

-- the records of the operations that are kept, in their places, behind those of the past
unfoldable pub keep_records : (ℕ → Bool) → List Record → List Record → List Record
keep_records keep past [] = []
keep_records keep past (r ∷ records) = if keep (operation_of past r) then r ∷ keep_records keep (r ∷ past) records else keep_records keep (r ∷ past) records

-- the values of the operations that a list names; what has no kind has no value, nor has an empty remove
unfoldable pub values_of : History → List ℕ → List ℕ
values_of h [] = []
values_of h (o ∷ listed) =
    if eqb (h.kind o) no_kind then values_of h listed else
    if eqb (h.kind o) empty_remove then values_of h listed else
    h.value o ∷ values_of h listed

-- whether an operation is kept with these empty removes and these values: what has no kind never is, an empty remove is by its number,
-- any other operation by its value
abbrev pub keeps : History → List ℕ → List ℕ → ℕ → Bool
keeps h empties values o =
    if eqb (h.kind o) no_kind then false else
    if eqb (h.kind o) empty_remove then is_in o empties else
    is_in (h.value o) values

-- the records of these empty removes and of all operations on these values
abbrev pub projection : List Record → List ℕ → List ℕ → List Record
projection records empties values = keep_records (keeps (history_of records) empties values) [] records

-- narrowing to a list of values
abbrev pub narrowed : List Record → List ℕ → List Record
narrowed records values = projection records [] values

-- the excerpt of a pattern that lists these operations
abbrev pub excerpted : List Record → List ℕ → List Record
excerpted records listed = projection records listed (values_of (history_of records) listed)
