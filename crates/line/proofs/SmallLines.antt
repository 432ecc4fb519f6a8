-- A line and a book with their capitals made small, either or both: the same faults, and the same entries for each word.
use Prim.Native.Nat.{ℕ, ◌+◌}
use native.Mathlib.Omega.{arith}
use mathlib.Core.Path.{◌≡◌, refl, sym, ap, ap₂, ◌∙◌}
use mathlib.Core.Bool.{Bool, true, false, cond}
use mathlib.Core.List.{List, [], ◌∷◌, map}
use lib.Dec.{eqb}
use lib.ListN.{length-map}
use Rattle.linking.specs.Reading.{NumberedEntry, Words}
use Rattle.format.specs.Records.{Bytes}
use Rattle.book.specs.Format.{Book, Entry}
use Rattle.capitals.specs.Capitals.{small, small_bytes}
use Rattle.line.specs.LineWords.{Word, put_before, words_from, words_of}
use Rattle.line.specs.LineFaults.{entries_of, byte_fault, word_fault, entry_fault, line_check}
use Rattle.lookup.specs.Entries.{entries_from}
use Rattle.capitals.proofs.CapitalLaws.{small_space, small_between, small_bytes_twice, same_respelt}

-- An entry, a book and a word of a line with capitals made small.
abbrev pub small_entry : Entry → Entry
small_entry e = record { word = small_bytes e.word; type = e.type }

abbrev pub small_book : Book → Book
small_book B = record { names = B.names; pairs = B.pairs; entries = map small_entry B.entries; targets = B.targets }

abbrev small_word : Word → Word
small_word w = record { at = w.at; bytes = small_bytes w.bytes }

put_small : (at b : ℕ) (words : List Word) → put_before at (small b) (map small_word words) ≡ map small_word (put_before at b words)
put_small at b [] = refl
put_small at b (w ∷ words) = go (eqb w.at (at + 1))
  where
    go : (t : Bool) → cond t (record { at = at; bytes = small b ∷ small_bytes w.bytes } ∷ map small_word words) (record { at = at; bytes = small b ∷ [] } ∷ small_word w ∷ map small_word words)
        ≡ map small_word (cond t (record { at = at; bytes = b ∷ w.bytes } ∷ words) (record { at = at; bytes = b ∷ [] } ∷ w ∷ words))
    go true = refl
    go false = refl

-- The words stand at the same places.
words_small : (at : ℕ) (bytes : Bytes) → words_from at (small_bytes bytes) ≡ map small_word (words_from at bytes)
unfolding words_from
words_small at [] = refl
words_small at (b ∷ bytes) = rw (small_space b, words_small (at + 1) bytes) (go (eqb b 32) (words_from (at + 1) bytes))
  where
    go : (t : Bool) (rest : List Word) → cond t (map small_word rest) (put_before at (small b) (map small_word rest)) ≡ map small_word (cond t rest (put_before at b rest))
    go true rest = refl
    go false rest = put_small at b rest

byte_fault_small : (at : ℕ) (bytes : Bytes) → byte_fault at (small_bytes bytes) ≡ byte_fault at bytes
unfolding byte_fault
byte_fault_small at [] = refl
byte_fault_small at (b ∷ bytes) = rw (small_between 32 126 b (omega arith) (omega arith), byte_fault_small (at + 1) bytes)

word_fault_small : (n : ℕ) (words : List Word) → word_fault n (map small_word words) ≡ word_fault n words
unfolding word_fault
word_fault_small n [] = refl
word_fault_small n (w ∷ words) = rw (length-map w.bytes small, word_fault_small (n + 1) words)

-- A word has the same entries however it is spelt, and also where the book's words have small letters ..
pub entries_respelt : (n : ℕ) (entries : List Entry) (v w : Bytes) → small_bytes v ≡ small_bytes w → entries_from n (map small_entry entries) v ≡ entries_from n entries w
unfolding entries_from
entries_respelt n [] v w h = refl
entries_respelt n (e ∷ entries) v w h = rw (same_respelt (small_bytes e.word) v e.word w (small_bytes_twice e.word) h, entries_respelt (n + 1) entries v w h)

module _ (B : Book) where
  entries_small : (w : Word) → entries_of (small_book B) (small_word w) ≡ entries_of B w
  entries_small w = entries_respelt 0 B.entries (small_bytes w.bytes) w.bytes (small_bytes_twice w.bytes)

  entry_fault_small : (words : List Word) → entry_fault (small_book B) (map small_word words) ≡ entry_fault B words
  unfolding entry_fault
  entry_fault_small [] = refl
  entry_fault_small (w ∷ words) = rw (entries_small w, entry_fault_small words)

  entries_of_small : (words : List Word) → map (entries_of (small_book B)) (map small_word words) ≡ map (entries_of B) words
  entries_of_small [] = refl
  entries_of_small (w ∷ words) =
      ap₂ (λ (es : List NumberedEntry) (rest : Words). es ∷ rest) (entries_small w) (entries_of_small words)

  -- .. and the check of the line comes to the same, with small letters in both ..
  both_small : (line : Bytes) → line_check (small_book B) (small_bytes line) ≡ line_check B line
  unfolding line_check
  both_small line =
      rw (words_small 0 line, byte_fault_small 0 line, word_fault_small 0 (words_of line), entry_fault_small (words_of line), entries_of_small (words_of line))

-- .. and so in the line alone, or in the book alone.
pub line_small : (B : Book) (line : Bytes) → line_check B (small_bytes line) ≡ line_check B line
line_small B line = sym (both_small B (small_bytes line)) ∙ ap (line_check (small_book B)) (small_bytes_twice line) ∙ both_small B line

pub book_small : (B : Book) (line : Bytes) → line_check (small_book B) line ≡ line_check B line
book_small B line = sym (line_small (small_book B) line) ∙ both_small B line
