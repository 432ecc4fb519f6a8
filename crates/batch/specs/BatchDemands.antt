-- What document 02, 2.2, promises of a batch's answer and of the buffer behind it, in its own terms: lines, what each of them gets alone, and the values
-- that are lent. `batch_outcome` has all of this, which proofs/BatchPromises.antt proves.
use Rattle.std.specs.Prelude.{ℕ, ◌≤◌, ◌<◌, ◌≡◌, ◌↔◌, List, [], ◌∷◌, ◌++◌, length, drop, Ok}
use Rattle.figures.specs.Limits.{max_values}
use Rattle.figures.specs.Refusals.{Reply, refusal, no_reading, buffer_too_short, bad_batch, answers_too_long}
use Rattle.format.specs.Records.{Bytes}
use Rattle.book.specs.Format.{Book, accepted, refused, parse}
use Rattle.linking.specs.Reading.{Words, IsReading, HasChain}
use Rattle.answer.specs.Answers.{outcome_reply}
use Rattle.reader.specs.Outcome.{outcome}
use Rattle.reader.specs.Demands.{OrderOf, Readable, FirstWhole}
use Rattle.batch.specs.Batch.{BatchAnswer, batch_reply}
use Rattle.batch_lines.specs.Lines.{IsBatch, BadBatch}
use Rattle.batch_parts.specs.Parts.{part_of}

-- What a line of a batch gets.
pub record LineGets (book line : Bytes) (reply : Reply) : Type 0 where
  -- What the line alone gets, with every buffer that holds any answer.
  pub alone : (lent : List ℕ) → max_values ≤ length lent → outcome_reply (outcome book line lent) ≡ reply
  -- 16 is never among the answers.
  pub never_short : reply.number ≡ buffer_too_short → ⊥
  -- Only a line that breaks nothing is answered, and its answer is the first reading.
  pub answered : reply.number ≡ 0 → (B : Book) × (words : Words) × Readable book line B words × FirstWhole B words reply.values
  -- A line with a reading gets one.
  pub found : (B : Book) (words : Words) → Readable book line B words → (t : ℕ) (entries partners : List ℕ) → IsReading (OrderOf B) B.targets words t entries partners
      → reply.number ≡ 0
  -- 15 with 0, exactly when no choice of entries can be turned into any of the targets by a chain.
  pub unread : (B : Book) (words : Words) → Readable book line B words → (reply ≡ refusal no_reading 0) ↔ (HasChain (OrderOf B) B.targets words → ⊥)

-- The parts of the lines, one after another in their order.
pub data Parts (book : Bytes) : List Bytes → List ℕ → Type 0 where
  no_part : Parts book [] []
  part : {line : Bytes} {lines : List Bytes} {reply : Reply} {values : List ℕ} → LineGets book line reply → Parts book lines values
      → Parts book (line ∷ lines) (part_of reply ++ values)

-- Neither 17 nor the book is cause for a refusal; these are the lines and the values of their answers.
pub record GoodBatch (book batch : Bytes) (lines : List Bytes) (values : List ℕ) : Type 0 where
  pub is_batch : IsBatch batch lines
  pub contents : Book
  pub book_accepted : parse book ≡ accepted contents
  pub parts : Parts book lines values

-- The answers of all lines are written, the number of lines is returned, and the values behind the answers stay.
pub record BatchWritten (book batch : Bytes) (buffer : List ℕ) (answer : BatchAnswer) (after : List ℕ) : Type 0 where
  pub lines : List Bytes
  pub values : List ℕ
  pub good : GoodBatch book batch lines values
  pub counted : answer ≡ Ok (length lines)
  pub room : length values ≤ length buffer
  pub behind : after ≡ values ++ drop (length values) buffer

-- 18 and v: the answers take v values together, and fewer are lent.
pub record BatchTooLong (book batch : Bytes) (buffer : List ℕ) (v : ℕ) : Type 0 where
  pub lines : List Bytes
  pub values : List ℕ
  pub good : GoodBatch book batch lines values
  pub needed : v ≡ length values
  pub lent : length buffer < v

-- The promises, for the answer that is returned and the buffer after it, by the paper's number and values.
pub record BatchPromised (book batch : Bytes) (buffer : List ℕ) (answer : BatchAnswer) (after : List ℕ) : Type 0 where
  -- Any refusal of the batch leaves the whole buffer as it was.
  pub untouched : ((batch_reply answer).number ≡ 0 → ⊥) → after ≡ buffer
  -- 17 with 0, exactly for more bytes, more lines or a last line not closed, whatever the book.
  pub on_bad_batch : (batch_reply answer ≡ refusal bad_batch 0) ↔ BadBatch batch
  -- Else a bad book is refused as ever.
  pub bad_book : (BadBatch batch → ⊥) → (number value : ℕ) → parse book ≡ refused number value → batch_reply answer ≡ refusal number value
  -- Only a batch without either cause is answered, each line with what it gets alone.
  pub answered : (batch_reply answer).number ≡ 0 → BatchWritten book batch buffer answer after
  -- It is answered if the buffer holds the answers.
  pub found : (lines : List Bytes) (values : List ℕ) → GoodBatch book batch lines values → length values ≤ length buffer → (batch_reply answer).number ≡ 0
  -- 18 with v, exactly when neither is a cause, the answers take v values and fewer are lent.
  pub too_long : (v : ℕ) → (batch_reply answer ≡ refusal answers_too_long v) ↔ BatchTooLong book batch buffer v
