-- Document 02, 2.6, in one definition: what is returned for any bytes as book, any bytes as line and any lent buffer. It is what reading the line comes
-- to, and 15 comes with a number that tells for each word whether the line without it has a reading.
use Rattle.std.specs.Prelude.{Ok, Err, ℕ, cond, List, eqb, length}
use Rattle.figures.specs.Refusals.{no_reading}
use Rattle.order.specs.Closed.{below}
use Rattle.format.specs.Records.{Bytes}
use Rattle.book.specs.Format.{Book, Parsed, accepted, refused, parse}
use Rattle.line.specs.LineFaults.{LineCheck, passed, stopped, line_check}
use Rattle.left_out.specs.LeftOut.{way_of}
use Rattle.answer.specs.Answers.{Outcome, LineAnswer}
use Rattle.reader.specs.Outcome.{outcome}
use Rattle.in_the_way.specs.declared.WayAnswer.{WayAnswer}
use Rattle.in_the_way.specs.declared.WayAnswer.TheVariants.{Ordinary, NoReading}

-- The number for a line and a book. A line that is refused before it is read has none, which 0 stands for.
unfoldable pub way_against : Book → LineCheck → ℕ
way_against B (stopped number value) = 0
way_against B (passed words) = way_of (below (length B.names) B.pairs) B.targets words

unfoldable pub way_parsed : Parsed → Bytes → ℕ
way_parsed (refused number value) line = 0
way_parsed (accepted B) line = way_against B (line_check B line)

-- The number comes with 15, and any other answer is the ordinary one.
unfoldable pub told : ℕ → LineAnswer → WayAnswer
told words (Ok n) = Ordinary (Ok n)
told words (Err r) = cond (eqb r.number no_reading) (NoReading words) (Ordinary (Err r))

abbrev pub way_outcome : Bytes → Bytes → List ℕ → Outcome WayAnswer
way_outcome book line buffer =
    let o = outcome book line buffer in
    record { answer = told (way_parsed (parse book) line) o.answer; buffer = o.buffer }
