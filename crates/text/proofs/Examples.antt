-- Numbers and lines, by computing.
use mathlib.Core.Path.{◌≡◌, refl}
use mathlib.Core.List.{[], ◌∷◌}
use Rattle.text.specs.Text.{ascii, digits, decimal, spaced, line}

four_digits : decimal 1024 ≡ ascii "1024"
unfolding digits
four_digits = refl

two_fields : line (ascii "refused") (decimal 10 ∷ decimal 0 ∷ []) ≡ ascii "refused 10 0\n"
unfolding digits spaced
two_fields = refl
