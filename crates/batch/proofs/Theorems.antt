-- The results on batches, each in full and proved elsewhere under the name on its last line: what the lines of a buffer are, what a line gets alone, and what
-- reading a batch comes to.
use Prim.Native.Nat.{ℕ, ◌≤◌}
use mathlib.Core.Path.{◌≡◌, sym, ap, ◌∙◌}
use mathlib.Core.Logic.{◌↔◌, ◌⊎◌}
use mathlib.Core.List.{List}
use mathlib.Core.Option.{none, some}
use lib.ListN.{length}
use Rattle.figures.specs.Limits.{max_values}
use Rattle.figures.specs.Refusals.{refusal, no_reading, buffer_too_short, bad_batch, answers_too_long, Refused}
use Rattle.format.specs.Records.{Bytes}
use Rattle.book.specs.Format.{Book}
use Rattle.linking.specs.Reading.{Words, HasChain}
use Rattle.answer.specs.Answers.{line_reply, outcome_reply}
use Rattle.reader.specs.Outcome.{outcome}
use Rattle.reader.specs.Demands.{OrderOf, Readable}
use Rattle.book.specs.Check.{BookNumber}
use Rattle.reader.proofs.Ample.{ample_reply_lem, never_short}
use Rattle.batch_lines.specs.Lines.{lines_of, IsLines, NotClosed, IsBatch, BadBatch}
use Rattle.batch_parts.specs.Parts.{alone_reply, part_of, parts_of}
use Rattle.batch.specs.Batch.{batch_outcome}
use Rattle.batch.specs.BatchDemands.{LineGets, Parts, BatchPromised}
use Rattle.batch_lines.proofs.LinesLaws.{lines_found, lines_are, not_closed_none, none_not_closed}
use Rattle.batch.proofs.BatchPromises.{is_or_bad, not_bad, line_gets, parts_are, parts_same, part_unread, batch_promised, batch_refusals}

module _ (bytes : Bytes) where
  -- The lines of a buffer are those that, each closed, make it up, and of which no byte closes one.
  pub lines_exactly : (lines : List Bytes) → (lines_of bytes ≡ some lines) ↔ IsLines bytes lines
  lines_exactly lines = (lines_are bytes lines, lines_found)

  -- There are none exactly where it ends with another byte than 10.
  pub no_lines_exactly : (lines_of bytes ≡ none) ↔ NotClosed bytes
  no_lines_exactly = (none_not_closed bytes, not_closed_none)

  -- It is a batch, or bad in one of three ways, and never both.
  pub batch_or_bad : (((lines : List Bytes) × IsBatch bytes lines) ⊎ BadBatch bytes) × ((lines : List Bytes) → IsBatch bytes lines → BadBatch bytes → ⊥)
  batch_or_bad = (is_or_bad bytes, λ lines. not_bad)

module _ (book line : Bytes) (lent : List ℕ) (enough : max_values ≤ length lent) where
  -- Where `max_values` values are lent, a line never gets 16 ..
  pub ample_never_short : (v : ℕ) → (outcome book line lent).answer ≡ Refused buffer_too_short v → ⊥
  ample_never_short v e = never_short book line lent enough (ap (λ a. (line_reply a (outcome book line lent).buffer).number) e)

  -- .. and every such buffer gets it the same.
  pub ample_all_the_same : (other : List ℕ) → max_values ≤ length other → outcome_reply (outcome book line lent) ≡ outcome_reply (outcome book line other)
  ample_all_the_same other h = ample_reply_lem book line lent enough ∙ sym (ample_reply_lem book line other h)

module _ (book : Bytes) where
  -- What a line alone gets is what is promised of a line in a batch, demands 1 to 3 among it.
  pub alone_promised : (line : Bytes) → LineGets book line (alone_reply book line)
  alone_promised = line_gets book

  -- Demand 3 for each line of a batch: its part says 15 and 0 exactly when no choice of its entries can be turned into any of the targets by a chain.
  pub unread_in_a_batch : (line : Bytes) (B : Book) (words : Words) → Readable book line B words
      → (part_of (alone_reply book line) ≡ part_of (refusal no_reading 0)) ↔ (HasChain (OrderOf B) B.targets words → ⊥)
  unread_in_a_batch = part_unread book

  -- The parts of a batch's lines are what `parts_of` defines, and nothing else is.
  pub parts_exactly : (lines : List Bytes) → Parts book lines (parts_of book lines)
  parts_exactly = parts_are book

  pub parts_unique : (lines : List Bytes) (values : List ℕ) → Parts book lines values → values ≡ parts_of book lines
  parts_unique lines values = parts_same

module _ (book batch : Bytes) (buffer : List ℕ) where
  -- What `batch_outcome` defines keeps every promise made of a batch's answer and the buffer.
  pub batch_promises_kept : BatchPromised book batch buffer (batch_outcome book batch buffer).answer (batch_outcome book batch buffer).buffer
  batch_promises_kept = batch_promised book batch buffer

  -- A batch is refused as its book is, with 1 to 10 or 19 to 21, or with 17 or 18.
  pub refusals_of_a_batch : (number value : ℕ) → (batch_outcome book batch buffer).answer ≡ Refused number value
      → BookNumber number ⊎ ((number ≡ bad_batch) ⊎ (number ≡ answers_too_long))
  refusals_of_a_batch = batch_refusals book batch buffer
