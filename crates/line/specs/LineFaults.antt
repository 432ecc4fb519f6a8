-- Document 01, "When the screen says no", causes 11 to 14: each number is tried over the whole line before the next, and the earliest place
-- is returned. Words that pass are given by their entries, in the book's order.
use Rattle.std.specs.Prelude.{ℕ, ◌+◌, cond, ◌||◌, List, [], ◌∷◌, map, eqb, leb, ltb, length}
use Rattle.std.proofs.Math.Option.{Option, none, some}
use Rattle.figures.specs.Limits.{max_word, max_words, max_line_simples}
use Rattle.figures.specs.Refusals.{bad_line_byte, bad_word, unknown_word, too_many_simples}
use Rattle.format.specs.Records.{Bytes, between}
use Rattle.book.specs.Format.{Book}
use Rattle.linking.specs.Reading.{NumberedEntry, Words}
use Rattle.line.specs.LineWords.{Word, words_of}
use Rattle.lookup.specs.Entries.{entries_from, simples_of_words}

-- The entries of a line's word.
abbrev pub entries_of : Book → Word → List NumberedEntry
entries_of B word = entries_from 0 B.entries word.bytes

-- 11: line byte outside 32 to 126. The offset of the first one.
unfoldable pub byte_fault : ℕ → Bytes → Option ℕ
byte_fault at [] = none
byte_fault at (b ∷ bytes) = let rest = byte_fault (at + 1) bytes in cond (between 32 126 b) rest (some at)

-- 12: word over 31 bytes, or a 25th word. The offset of the first one; `n` words stand before these.
unfoldable pub word_fault : ℕ → List Word → Option ℕ
word_fault n [] = none
word_fault n (w ∷ words) = let rest = word_fault (n + 1) words in cond (ltb max_word (length w.bytes) || leb max_words n) (some w.at) rest

-- 13: word without an entry. The offset of the first one.
unfoldable pub entry_fault : Book → List Word → Option ℕ
entry_fault B [] = none
entry_fault B (w ∷ words) = let rest = entry_fault B words in cond (eqb (length (entries_of B w)) 0) (some w.at) rest

-- The words of a line by their entries.
abbrev pub entries_of_line : Book → Bytes → Words
entries_of_line B line = map (entries_of B) (words_of line)

-- What a line is against an accepted book: its words by their entries, or a refusal with the value returned with it.
pub data LineCheck : Type 0 where
  passed : Words → LineCheck
  stopped : ℕ → ℕ → LineCheck

abbrev pub or_else : ℕ → Option ℕ → LineCheck → LineCheck
or_else number none next = next
or_else number (some value) next = stopped number value

-- 14: over 512 simple types; it returns 0.
unfoldable pub line_check : Book → Bytes → LineCheck
line_check B line =
    or_else bad_line_byte (byte_fault 0 line)
    (or_else bad_word (word_fault 0 (words_of line))
    (or_else unknown_word (entry_fault B (words_of line))
    (cond (ltb max_line_simples (simples_of_words (entries_of_line B line))) (stopped too_many_simples 0) (passed (entries_of_line B line)))))
