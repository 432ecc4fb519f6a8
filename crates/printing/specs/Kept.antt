-- What the rows of a reading are put from, as the code finds it.
use Rattle.std.specs.Prelude.{ℕ, ◌<◌, List, map, length}
use Rattle.pregroup.specs.Held.{held}
use Rattle.format.specs.Records.{Bytes, Whole, bodies_at}
use Rattle.line.specs.LineWords.{words_of}
use Rattle.line.specs.Split.{SplitInto}
use Rattle.answer.specs.Parts.{target_part, entries_part, partners_part}
use Rattle.writing.specs.Placed.{Countable}
use Rattle.printing.specs.Rows.{shown_rows}

-- The rows of an answer's values by what is kept of the book and the line, with the string as it is held.
abbrev pub kept_rows : Bytes → List ℕ → ℕ → Bytes → List ℕ → List ℕ → List ℕ → Bytes
kept_rows book names types line values string letters =
    shown_rows (bodies_at book names types) (words_of line) (target_part values) (entries_part values) (map held string) letters (partners_part values)

-- What is asked for them to be put: where names and words stand, a letter for each simple type, and places that can be counted.
pub record Puttable (book : Bytes) (names : List ℕ) (types : ℕ) (line : Bytes) (starts ends values string letters : List ℕ) : Type 0 where
  pub named : Whole book names types
  pub split : SplitInto line starts ends
  pub lettered : length string < length letters
  pub countable : Countable 0 (kept_rows book names types line values string letters)
