-- A number as a decimal, without zeros in front.
use Rattle.std.specs.Prelude.{ℕ, zero, suc, ◌+◌, ◌/◌, ◌%◌, cond, List, [], ◌∷◌, ◌++◌, ltb}

-- The last digits of a number, at most so many, the first of them the most significant.
unfoldable pub last_digits : ℕ → ℕ → List ℕ
last_digits zero n = []
last_digits (suc more) n = cond (ltb n 10) [] (last_digits more (n / 10)) ++ ((48 + n % 10) ∷ [])

-- A number as a decimal, which has no more digits than its value and one. That it spells the number, with no 0 in front, is `decimal_spells` and
-- `decimal_first` in proofs/Decimals.
abbrev pub decimal : ℕ → List ℕ
decimal n = last_digits (suc n) n
