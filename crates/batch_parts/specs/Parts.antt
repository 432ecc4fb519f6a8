-- Document 02, 2.2: what stands in the answers for each line of a batch.
use Rattle.std.specs.Prelude.{ℕ, ◌+◌, List, [], ◌∷◌, ◌++◌, length, replicate}
use Rattle.figures.specs.Limits.{max_values}
use Rattle.figures.specs.Refusals.{Reply}
use Rattle.format.specs.Records.{Bytes}
use Rattle.answer.specs.Answers.{outcome_reply}
use Rattle.reader.specs.Outcome.{outcome}

-- What a line alone gets where any answer fits.
abbrev pub alone_reply : Bytes → Bytes → Reply
alone_reply book line = outcome_reply (outcome book line (replicate max_values 0))

-- A line's part of the answers: a count of the values after it, the number of the refusal or 0, then the answer or the value returned.
abbrev pub part_of : Reply → List ℕ
part_of reply = (1 + length reply.values) ∷ reply.number ∷ reply.values

-- The parts of all lines, one after another.
unfoldable pub parts_of : Bytes → List Bytes → List ℕ
parts_of book [] = []
parts_of book (line ∷ lines) = part_of (alone_reply book line) ++ parts_of book lines
