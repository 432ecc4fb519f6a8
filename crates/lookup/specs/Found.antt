-- Document 02, 2.3: what the look-up of a word finds. Exactly the entries of the word by 2.1's sameness, all of them, in the book's order.
use Rattle.std.specs.Prelude.{ℕ, ◌+◌, ◌≡◌, true}
use mathlib.Core.List.{List, ◌∷◌, Memᴰ}
use Rattle.linking.specs.Reading.{NumberedEntry}
use Rattle.linking.specs.Ascending.{Ascending}
use Rattle.format.specs.Records.{Bytes}
use Rattle.book.specs.Format.{Entry}
use Rattle.capitals.specs.Capitals.{same_word}

-- The entry that stands at a place of a book's entries, counted from 0: the place is its number.
pub data Stands (e : Entry) : ℕ → List Entry → Type 0 where
  first : {entries : List Entry} → Stands e 0 (e ∷ entries)
  later : {n : ℕ} {d : Entry} {entries : List Entry} → Stands e n entries → Stands e (n + 1) (d ∷ entries)

-- Entry n is the word's, and has this type.
pub record IsEntryOf (entries : List Entry) (word : Bytes) (f : NumberedEntry) : Type 0 where
  pub entry : Entry
  pub stands : Stands entry f.number entries
  pub same : same_word entry.word word ≡ true
  pub type : f.type ≡ entry.type

-- What is found are the entries of the word: none but these, all of these, and in the book's order, each once.
pub record FindsAll (entries : List Entry) (word : Bytes) (found : List NumberedEntry) : Type 0 where
  pub own : (f : NumberedEntry) → Memᴰ f found → IsEntryOf entries word f
  pub all : (f : NumberedEntry) → IsEntryOf entries word f → Memᴰ f found
  pub in_order : Ascending found
