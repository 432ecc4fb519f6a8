-- Document 02, 2.3, for a line: what its words' look-up finds, and that 13, 14 and the choice go by nothing else.
use Rattle.std.specs.Prelude.{ℕ, ◌<◌, ◌≡◌, ◌↔◌, List, [], ◌∷◌}
use Rattle.std.proofs.Math.Option.{none}
use Rattle.figures.specs.Limits.{max_line_simples}
use Rattle.figures.specs.Refusals.{unknown_word, too_many_simples}
use Rattle.linking.specs.Reading.{NumberedEntry, Words}
use Rattle.format.specs.Records.{Bytes}
use Rattle.book.specs.Format.{Book}
use Rattle.lookup.specs.Found.{FindsAll}
use Rattle.lookup.specs.Entries.{simples_of_words}
use Rattle.line.specs.LineWords.{Word, words_of}
use Rattle.line.specs.LineFaults.{byte_fault, word_fault, passed, stopped, line_check}
use Rattle.line.specs.Passing.{AllKnown}

-- For each word, in the line's order, exactly its entries are found.
pub data FindsEach (B : Book) : List Word → Words → Type 0 where
  no_word : FindsEach B [] []
  each : {w : Word} {words : List Word} {es : List NumberedEntry} {found : Words} → FindsAll B.entries w.bytes es → FindsEach B words found
      → FindsEach B (w ∷ words) (es ∷ found)

-- The first word of which nothing is found stands at this offset.
pub data FirstUnknown : List Word → Words → ℕ → Type 0 where
  here : {w : Word} {words : List Word} {found : Words} → FirstUnknown (w ∷ words) ([] ∷ found) w.at
  behind : {w : Word} {words : List Word} {e : NumberedEntry} {es : List NumberedEntry} {found : Words} {value : ℕ} → FirstUnknown words found value
      → FirstUnknown (w ∷ words) ((e ∷ es) ∷ found) value

-- The line breaks neither 11 nor 12.
abbrev pub Legible : Bytes → Type 0
Legible line = (byte_fault 0 line ≡ none) × (word_fault 0 (words_of line) ≡ none)

-- What the look-up of a line's words is promised to be.
pub record LookUpPromised (B : Book) (line : Bytes) (found : Words) : Type 0 where
  -- Exactly the entries of each word are found, and this says all of them.
  pub exactly : FindsEach B (words_of line) found
  pub only : (other : Words) → FindsEach B (words_of line) other → other ≡ found
  -- 13 comes with v exactly when nothing is found of the word at v and something of each word before it.
  pub no_entry : (value : ℕ) → (line_check B line ≡ stopped unknown_word value) ↔ (Legible line × FirstUnknown (words_of line) found value)
  -- 14 comes exactly when something is found of every word, and what is found has too many simple types.
  pub too_many : (line_check B line ≡ stopped too_many_simples 0) ↔ (Legible line × AllKnown found × (max_line_simples < simples_of_words found))
  -- A line that passes passes with what is found: readings choose from nothing else.
  pub choice : (words : Words) → line_check B line ≡ passed words → words ≡ found
