-- Decimals, by evaluation.
use mathlib.Core.Path.{◌≡◌, refl}
use mathlib.Core.List.{[], ◌∷◌}
use Rattle.writing.specs.Decimal.{last_digits, decimal}

digits_of_0 : decimal 0 ≡ 48 ∷ []
unfolding last_digits
digits_of_0 = refl

digits_of_10 : decimal 10 ≡ 49 ∷ 48 ∷ []
unfolding last_digits
digits_of_10 = refl

digits_of_65535 : decimal 65535 ≡ 54 ∷ 53 ∷ 53 ∷ 51 ∷ 53 ∷ []
unfolding last_digits
digits_of_65535 = refl
