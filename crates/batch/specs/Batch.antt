-- Document 02, 2.2, in one definition: what is returned of a batch, and what the buffer holds then, for any bytes as book, any bytes as batch and any
-- lent buffer. 17 comes first, then the book, then the answers, then 18; a refusal leaves the buffer as it was.
use Rattle.std.specs.Prelude.{Result, Ok, Err, ℕ, cond, List, [], ◌∷◌, ◌++◌, ltb, length, drop}
use Rattle.std.proofs.Math.Option.{Option, none, some}
use Rattle.figures.specs.declared.refusals.Refusal.{Refusal}
use Rattle.figures.specs.Refusals.{Refused, Reply, refusal, bad_batch, answers_too_long}
use Rattle.format.specs.Records.{Bytes}
use Rattle.book.specs.Format.{Parsed, accepted, refused, parse}
use Rattle.answer.specs.Answers.{Outcome}
use Rattle.batch_lines.specs.Lines.{batch_lines}
use Rattle.batch_parts.specs.Parts.{parts_of}

-- What reading a batch answers: how many lines are answered, or the refusal.
abbrev pub BatchAnswer : Type 0
BatchAnswer = Result ℕ Refusal

-- The paper's number and values for each answer: 0 and the number of lines, or the number of the refusal and the value returned with it.
abbrev pub batch_reply : BatchAnswer → Reply
batch_reply (Ok lines) = record { number = 0; values = lines ∷ [] }
batch_reply (Err r) = refusal r.number r.value

-- 18: answers do not fit, with the values needed. Values behind the answers stay.
unfoldable pub given_parts : List ℕ → ℕ → List ℕ → Outcome BatchAnswer
given_parts values lines buffer =
    cond (ltb (length buffer) (length values)) (record { answer = Refused answers_too_long (length values); buffer = buffer })
    (record { answer = Ok lines; buffer = values ++ drop (length values) buffer })

-- The book's refusals.
unfoldable pub read_lines : Parsed → Bytes → List Bytes → List ℕ → Outcome BatchAnswer
read_lines (refused number value) book lines buffer = record { answer = Refused number value; buffer = buffer }
read_lines (accepted B) book lines buffer = given_parts (parts_of book lines) (length lines) buffer

-- 17: more than 32 lines or 65,535 bytes, or a last line not closed.
unfoldable pub read_batch : Option (List Bytes) → Bytes → List ℕ → Outcome BatchAnswer
read_batch none book buffer = record { answer = Refused bad_batch 0; buffer = buffer }
read_batch (some lines) book buffer = read_lines (parse book) book lines buffer

abbrev pub batch_outcome : Bytes → Bytes → List ℕ → Outcome BatchAnswer
batch_outcome book batch buffer = read_batch (batch_lines batch) book buffer
