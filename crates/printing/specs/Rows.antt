-- Document 01, "A book to try": the rows that `reading` prints. Each kind of row is one definition, its fields in their order.
use Rattle.std.specs.Prelude.{ℕ, suc, List, [], ◌∷◌, ◌++◌, ℤ, length, get_or}
use Rattle.pregroup.specs.Types.{PregroupType}
use Rattle.letters.specs.Letters.{t}
use Rattle.format.specs.Records.{Bytes}
use Rattle.line.specs.LineWords.{Word}
use Rattle.writing.specs.Decimal.{decimal}
use Rattle.printing.specs.Text.{signed, row}

abbrev pub yes : Bytes
yes = 121 ∷ 101 ∷ 115 ∷ []

abbrev pub no : Bytes
no = 110 ∷ 111 ∷ []

-- The first row of an answer: word count, simple type count, the target's number.
abbrev pub first_row : ℕ → ℕ → ℕ → Bytes
first_row words simples target = row (yes ∷ decimal words ∷ decimal simples ∷ decimal target ∷ [])

-- A word's row: its number, the word as it is typed, its entry.
abbrev pub word_row : ℕ → Bytes → ℕ → Bytes
word_row number word entry = row (decimal number ∷ word ∷ decimal entry ∷ [])

-- A simple type's row: its position, its basic type's name, its exponent, its partner, the letter of its link.
abbrev pub type_row : ℕ → Bytes → ℤ → ℕ → ℕ → Bytes
type_row position name exponent partner letter = row (decimal position ∷ name ∷ signed exponent ∷ decimal partner ∷ (letter ∷ []) ∷ [])

-- The row of a refusal: its number, its value.
abbrev pub refusal_row : ℕ → ℕ → Bytes
refusal_row number value = row (no ∷ decimal number ∷ decimal value ∷ [])

-- The rows of the words from number k + 1 on, and of the simple types from position k + 1 on, whose letters count from 0. What has no entry or no
-- partner shows 0.
unfoldable pub word_rows : List ℕ → ℕ → List Word → Bytes
word_rows entries k [] = []
word_rows entries k (w ∷ words) = word_row (suc k) w.bytes (get_or {A = ℕ} entries k 0) ++ word_rows entries (suc k) words

unfoldable pub type_rows : List Bytes → List ℕ → List ℕ → ℕ → PregroupType → Bytes
type_rows names letters partners k [] = []
type_rows names letters partners k (x ∷ X) =
    type_row (suc k) (get_or {A = Bytes} names x.base []) x.exponent (get_or {A = ℕ} partners k 0) (get_or {A = ℕ} letters (suc k) t)
    ++ type_rows names letters partners (suc k) X

-- The first row, the rows of the words and those of the simple types.
abbrev pub shown_rows : List Bytes → List Word → ℕ → List ℕ → PregroupType → List ℕ → List ℕ → Bytes
shown_rows names words target chosen string letters partners =
    first_row (length chosen) (length partners) target ++ (word_rows chosen 0 words ++ type_rows names letters partners 0 string)
