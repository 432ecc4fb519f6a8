-- Document 01, "The book's bytes", on lines: words parted by one or more spaces (byte 32); spaces at the line's ends count for nothing.
use Rattle.std.specs.Prelude.{ℕ, ◌+◌, cond, List, [], ◌∷◌, eqb}
use Rattle.format.specs.Records.{Bytes}

-- A word of a line: where it stands, and its bytes.
pub record Word : Type 0 where
  pub at : ℕ
  pub bytes : Bytes

-- A byte of a word, put before the words behind it: the one that starts right behind the byte goes on from it, and else it stands alone.
abbrev pub put_before : ℕ → ℕ → List Word → List Word
put_before at b [] = record { at = at; bytes = b ∷ [] } ∷ []
put_before at b (w ∷ words) =
    cond (eqb w.at (at + 1)) (record { at = at; bytes = b ∷ w.bytes } ∷ words) (record { at = at; bytes = b ∷ [] } ∷ w ∷ words)

-- The words of the bytes from an offset on, and of a line.
unfoldable pub words_from : ℕ → Bytes → List Word
words_from at [] = []
words_from at (b ∷ bytes) = let rest = words_from (at + 1) bytes in cond (eqb b 32) rest (put_before at b rest)

abbrev pub words_of : Bytes → List Word
words_of line = words_from 0 line
