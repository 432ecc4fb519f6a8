-- What document 02, 2.6, promises of an answer, in its own terms: readings and chains of the line without a word, and the lines that have its other words.
-- `way_outcome` has all of this, which proofs/WayPromises.antt proves.
use Rattle.std.specs.Prelude.{ℕ, ◌≤◌, ◌<◌, ◌≡◌, ◌↔◌, List, length}
use Rattle.figures.specs.Refusals.{no_reading, Refused}
use Rattle.bits.specs.Bits.{Has}
use Rattle.format.specs.Records.{Bytes}
use Rattle.book.specs.Format.{Book}
use Rattle.linking.specs.Reading.{Words, HasReading, HasChain}
use Rattle.line.specs.Remaining.{without, IsWithout}
use Rattle.answer.specs.Answers.{Gives, LineAnswer}
use Rattle.reader.specs.Outcome.{outcome}
use Rattle.reader.specs.Demands.{OrderOf, Readable, Promised}
use Rattle.in_the_way.specs.declared.WayAnswer.{WayAnswer}
use Rattle.in_the_way.specs.declared.WayAnswer.TheVariants.{Ordinary, NoReading}

-- The answer without the number.
abbrev pub ordinary : WayAnswer → LineAnswer
ordinary (Ordinary answer) = answer
ordinary (NoReading words) = Refused no_reading 0

-- What a number tells of a line with these words.
pub record InTheWay (book line : Bytes) (B : Book) (words : Words) (number : ℕ) : Type 0 where
  -- Bit k is set exactly when the line without word k + 1 has a reading ..
  pub reading : (k : ℕ) → k < length words → Has number k ↔ HasReading (OrderOf B) B.targets (without k words)
  -- .. which is when some choice of its other words can be turned into some target by a chain.
  pub chain : (k : ℕ) → k < length words → Has number k ↔ HasChain (OrderOf B) B.targets (without k words)
  -- No bit from the number of words on is set.
  pub no_more : (k : ℕ) → length words ≤ k → Has number k → ⊥
  -- Every line that has the other words, in their order and however they are spaced, is refused with 15 exactly when bit k is not set.
  pub line_without : (k : ℕ) → k < length words → (other : Bytes) → IsWithout k line other → (lent : List ℕ)
      → ((outcome book other lent).answer ≡ Refused no_reading 0) ↔ (Has number k → ⊥)

-- The promises, for the answer that is returned and the buffer after it.
pub record WayPromised (book line : Bytes) (buffer : List ℕ) (answer : WayAnswer) (after : List ℕ) : Type 0 where
  -- But for the number it is what reading the line gives, buffer included, with all that is promised of that.
  pub as_read : Gives (outcome book line buffer) (ordinary answer) after
  pub promised : Promised book line buffer (ordinary answer) after
  -- A number comes with 15, and with nothing else.
  pub with_fifteen : (ordinary answer ≡ Refused no_reading 0) ↔ ((number : ℕ) × (answer ≡ NoReading number))
  -- The line then breaks nothing before it is read, and the number tells of its words.
  pub tells : (number : ℕ) → answer ≡ NoReading number → (B : Book) × (words : Words) × Readable book line B words × InTheWay book line B words number
