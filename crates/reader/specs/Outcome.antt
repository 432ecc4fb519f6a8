-- The whole of document 01 in one definition: what is returned, and what the answer buffer holds, for any bytes as book, any bytes as line
-- and any lent buffer. The book comes before the line; a refusal leaves the buffer as it was.
use Rattle.std.specs.Prelude.{ℕ, List, length}
use Rattle.order.specs.Closed.{below}
use Rattle.format.specs.Records.{Bytes}
use Rattle.book.specs.Format.{Book, Parsed, accepted, refused, parse}
use Rattle.linking.specs.Reading.{first_reading}
use Rattle.line.specs.LineFaults.{LineCheck, passed, stopped, line_check}
use Rattle.answer.specs.Answers.{Outcome, given, LineAnswer}
use Rattle.figures.specs.Refusals.{Refused}

unfoldable pub read_against : Book → LineCheck → List ℕ → Outcome LineAnswer
read_against B (stopped number value) buffer = record { answer = Refused number value; buffer = buffer }
read_against B (passed words) buffer = given (first_reading (below (length B.names) B.pairs) B.targets words) buffer

unfoldable pub read_parsed : Parsed → Bytes → List ℕ → Outcome LineAnswer
read_parsed (refused number value) line buffer = record { answer = Refused number value; buffer = buffer }
read_parsed (accepted B) line buffer = read_against B (line_check B line) buffer

abbrev pub outcome : Bytes → Bytes → List ℕ → Outcome LineAnswer
outcome book line buffer = read_parsed (parse book) line buffer
