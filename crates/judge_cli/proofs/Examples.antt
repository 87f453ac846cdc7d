-- Lines of document 01 and some more, by computing.
use mathlib.Core.Path.{◌≡◌, refl}
use mathlib.Core.List.{[], ◌∷◌, ◌++◌}
use Rattle.text.specs.Text.{ascii, digits, spaced}
use Rattle.judge_cli.specs.Report.{counts_line, verdict_line, refusal_line}

second_run : counts_line 4 2 ++ verdict_line 0 (0 ∷ 1 ∷ []) ≡ ascii "log 4 records 2 operations\norder 0 1\n"
unfolding digits spaced
second_run = refl

no_records : counts_line 0 0 ++ verdict_line 0 [] ≡ ascii "log 0 records 0 operations\norder\n"
unfolding digits spaced
no_records = refl

false_empty_lem : counts_line 10 5 ++ verdict_line 6 (1 ∷ 0 ∷ 2 ∷ []) ≡ ascii "log 10 records 5 operations\npattern 6 1 0 2\n"
unfolding digits spaced
false_empty_lem = refl

added_twice : refusal_line 9 2 ≡ ascii "refused 9 2\n"
unfolding digits spaced
added_twice = refl
