-- Document 01, "The book's bytes", with document 02, 2.5: the kinds of records and the layout of an entry's body.
use Rattle.std.specs.Prelude.{ℕ, ◌+◌, ◌-◌, ◌*◌, ◌%◌, Bool, cond, ◌&&◌, List, [], ◌∷◌, ◌++◌, leb, ltb, eqb, ℤ, pos, negsuc, length, get_or, take, drop}
use Rattle.std.proofs.Math.Option.{Option, none, some}
use Rattle.figures.specs.Limits.{max_word, max_entry_simples}
use Rattle.pregroup.specs.Types.{PregroupType, ◌⁽◌⁾}
use Rattle.format.specs.Records.{Bytes, every, between}

-- The listed kinds of records, and the number that a record's head has for each.
pub data Kind : Type 0 where
  basic_type : Kind
  order_pair : Kind
  entry : Kind
  target : Kind
  slashed_entry : Kind

abbrev pub kind_number : Kind → ℕ
kind_number basic_type = 1
kind_number order_pair = 2
kind_number entry = 3
kind_number target = 4
kind_number slashed_entry = 5

abbrev pub kinds : List Kind
kinds = basic_type ∷ order_pair ∷ entry ∷ target ∷ slashed_entry ∷ []

-- The kind that a number stands for, if it is listed.
abbrev pub first_with : ℕ → List Kind → Option Kind
first_with number [] = none
first_with number (kind ∷ more) = cond (eqb number (kind_number kind)) (some kind) (first_with number more)

abbrev pub kind_of : ℕ → Option Kind
kind_of number = first_with number kinds

-- An entry: the word's length (1 to 31), the word (bytes 33 to 126), then 0 to 12 simple types, each a type number and an exponent, a byte in
-- two's complement. A slashed entry has in their place the type's text (document 02, 2.5).

abbrev pub word_length : Bytes → ℕ
word_length body = get_or {A = ℕ} body 0 0

abbrev pub word_of : Bytes → Bytes
word_of body = take (word_length body) (drop 1 body)

abbrev pub type_part : Bytes → Bytes
type_part body = drop (1 + word_length body) body

-- The body of an entry, of a word and the bytes of its type.
abbrev pub entry_body : Bytes → Bytes → Bytes
entry_body word type = length word ∷ (word ++ type)

unfoldable pub exponent_of : ℕ → ℤ
exponent_of byte = cond (ltb byte 128) (pos byte) (negsuc (255 - byte))

unfoldable pub simples_of : Bytes → PregroupType
simples_of [] = []
simples_of (number ∷ []) = []
simples_of (number ∷ exponent ∷ rest) = number ⁽ exponent_of exponent ⁾ ∷ simples_of rest

unfoldable pub is_worded : Bytes → Bool
is_worded body = between 1 max_word (word_length body) && ltb (word_length body) (length body) && every (between 33 126) (word_of body)

unfoldable pub is_entry : Bytes → Bool
is_entry body = is_worded body && eqb (length (type_part body) % 2) 0 && leb (length (type_part body)) (2 * max_entry_simples)

-- The number of an entry whose type is a text, and the numbers of all entries.
abbrev pub slashed : ℕ
slashed = kind_number slashed_entry

pub data EntryKind : ℕ → Type 0 where
  of_simples : EntryKind (kind_number entry)
  of_text : EntryKind slashed
