-- What document 01 promises of an answer and of the buffer behind it, in its own terms: readings, chains and the values that are lent.
-- `outcome` has all of this, which proofs/Promises.antt proves.
use Rattle.std.specs.Prelude.{ℕ, ◌≤◌, ◌<◌, ◌≡◌, ◌↔◌, ◌⊎◌, List, ◌++◌, length, drop, Ok}
use Rattle.figures.specs.Refusals.{refusal, no_target, no_reading, buffer_too_short}
use Rattle.pregroup.specs.Order.{Relation}
use Rattle.order.specs.Closed.{Closed, Listed}
use Rattle.format.specs.Records.{Bytes}
use Rattle.book.specs.Format.{Book, accepted, parse}
use Rattle.book.specs.Check.{BookNumber}
use Rattle.linking.specs.Reading.{Words, IsReading, HasChain, IsFirst, Answer}
use Rattle.line.specs.LineFaults.{passed, line_check}
use Rattle.answer.specs.Answers.{LineAnswer, line_reply, values_of, answer_length}

-- The order of a book: the reflexive and transitive closure of its pairs.
abbrev pub OrderOf : Book → Relation
OrderOf B = Closed (length B.names) (Listed B.pairs)

-- The book is accepted as B, and the line breaks none of 11 to 14; `words` are its words by their entries.
pub record Readable (book line : Bytes) (B : Book) (words : Words) : Type 0 where
  pub book_accepted : parse book ≡ accepted B
  pub line_passed : line_check B line ≡ passed words

-- The first reading of the words against the book.
abbrev pub FirstAnswer : Book → Words → Answer → Type 0
FirstAnswer B words a = IsFirst (OrderOf B) B.targets words a.target a.entries a.partners

-- The values are the first reading, whole.
pub record FirstWhole (B : Book) (words : Words) (values : List ℕ) : Type 0 where
  pub reading : Answer
  pub first : FirstAnswer B words reading
  pub whole : values ≡ values_of reading

-- They are written, and the values behind them stay.
pub record FirstWritten (B : Book) (words : Words) (buffer values after : List ℕ) : Type 0 where
  pub reading : FirstWhole B words values
  pub room : length values ≤ length buffer
  pub behind : after ≡ values ++ drop (length values) buffer

-- 16 and v: there is a first reading, it takes v values, and fewer are lent.
pub record TooShort (B : Book) (words : Words) (buffer : List ℕ) (v : ℕ) : Type 0 where
  pub reading : Answer
  pub first : FirstAnswer B words reading
  pub needed : v ≡ answer_length (length reading.entries) (length reading.partners)
  pub lent : length buffer < v

-- The promises, for the answer that is returned and the buffer after it, by the paper's number and values.
pub record Promised (book line : Bytes) (buffer : List ℕ) (answer : LineAnswer) (after : List ℕ) : Type 0 where
  -- A refusal leaves the whole buffer as it was.
  pub untouched : ((line_reply answer after).number ≡ 0 → ⊥) → after ≡ buffer
  -- Only a line that breaks nothing is answered, and its answer is the first reading.
  pub answered : (line_reply answer after).number ≡ 0 → (B : Book) × (words : Words) × Readable book line B words × FirstWritten B words buffer (line_reply answer after).values after
  -- The number that comes with an answer, which the paper leaves free, is how many values it has.
  pub counted : (n : ℕ) → answer ≡ Ok n → n ≡ length (line_reply answer after).values
  -- A line with a reading gets one, if the buffer holds the first.
  pub found : (B : Book) (words : Words) → Readable book line B words → (t : ℕ) (entries partners : List ℕ) → IsReading (OrderOf B) B.targets words t entries partners
      → ((line_reply answer after).number ≡ 0) ⊎ ((v : ℕ) × TooShort B words buffer v)
  -- 16 with v, exactly when the first reading takes v values and fewer are lent.
  pub short : (B : Book) (words : Words) → Readable book line B words → (v : ℕ)
      → (line_reply answer after ≡ refusal buffer_too_short v) ↔ TooShort B words buffer v
  -- 15 with 0, exactly when no choice of entries can be turned into any of the targets by a chain.
  pub unread : (B : Book) (words : Words) → Readable book line B words
      → (line_reply answer after ≡ refusal no_reading 0) ↔ (HasChain (OrderOf B) B.targets words → ⊥)

-- The numbers that a line is refused with: its book's, or from 11 to 16.
abbrev pub LineNumber : ℕ → Type 0
LineNumber n = BookNumber n ⊎ ((no_target < n) × (n ≤ buffer_too_short))
