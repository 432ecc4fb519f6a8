-- Rows of text, as the listings of document 01 have them: fields parted by single spaces, each row closed by byte 10; numbers are decimals
-- without zeros in front, and an exponent has a minus sign where it is negative.
use Rattle.std.specs.Prelude.{suc, List, [], ◌∷◌, ◌++◌, ℤ, pos, negsuc}
use Rattle.format.specs.Records.{Bytes}
use Rattle.writing.specs.Decimal.{decimal}

-- An exponent: −(n + 1) is byte 45, the minus sign, before the decimal of n + 1.
abbrev pub signed : ℤ → Bytes
signed (pos n) = decimal n
signed (negsuc n) = 45 ∷ decimal (suc n)

-- A row of fields.
unfoldable pub row : List Bytes → Bytes
row [] = 10 ∷ []
row (field ∷ []) = field ++ (10 ∷ [])
row (field ∷ next ∷ fields) = field ++ (32 ∷ row (next ∷ fields))
