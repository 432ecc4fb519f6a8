-- What comes back is the outcome: of a book that is refused, of a line that is, and of words that are read.
use Prim.Native.Nat.{ℕ}
use mathlib.Core.Path.{◌≡◌, sym, subst}
use mathlib.Core.List.{List}
use lib.ListN.{length}
use Rattle.pregroup.specs.Types.{Basic}
use Rattle.order.specs.Closed.{below}
use Rattle.format.specs.Records.{Bytes}
use Rattle.book.specs.Format.{Book, accepted, refused, parse}
use Rattle.linking.specs.Reading.{Words, first_reading}
use Rattle.line.specs.LineFaults.{passed, stopped, line_check}
use Rattle.answer.specs.Answers.{LineAnswer, Outcome, given, Gives}
use Rattle.figures.specs.Refusals.{Refused}
use Rattle.reader.specs.Outcome.{read_against, read_parsed, outcome}
use Rattle.reader.specs.Demands.{Promised}
use Rattle.reader.proofs.Promises.{outcome_promised}

-- Whatever gives the outcome keeps the promises.
pub gives_promised : (book line : Bytes) (before : List ℕ) {answer : LineAnswer} {after : List ℕ} → Gives (outcome book line before) answer after
    → Promised book line before answer after
gives_promised book line before {answer} {after} g =
    subst (λ (a : LineAnswer). Promised book line before a after) (sym g.returned)
    (subst (λ (l : List ℕ). Promised book line before (outcome book line before).answer l) (sym g.left) (outcome_promised book line before))

-- A book that is refused.
pub gives_book_refused : (book line : Bytes) (before : List ℕ) {number value : ℕ} → parse book ≡ refused number value → Gives (outcome book line before) (Refused number value) before
unfolding read_parsed
gives_book_refused book line before e = record { returned = rw e; left = rw e }

module _ (book line : Bytes) (before : List ℕ) {B : Book} (parsed : parse book ≡ accepted B) where
  -- A line that is refused.
  pub gives_line_refused : {number value : ℕ} → line_check B line ≡ stopped number value → Gives (outcome book line before) (Refused number value) before
  unfolding read_parsed read_against
  gives_line_refused l = record { returned = rw (parsed, l); left = rw (parsed, l) }

  outcome_is : {words : Words} → line_check B line ≡ passed words → outcome book line before ≡ given (first_reading (below (length B.names) B.pairs) B.targets words) before
  unfolding read_parsed read_against
  outcome_is l = rw (parsed, l)

  -- A line that is read.
  pub gives_outcome : {words : Words} {targets : List Basic} {answer : LineAnswer} {after : List ℕ} → line_check B line ≡ passed words → B.targets ≡ targets
      → Gives (given (first_reading (below (length B.names) B.pairs) targets words) before) answer after → Gives (outcome book line before) answer after
  gives_outcome {words} {answer = answer} {after} l e g =
      subst (λ (o : Outcome LineAnswer). Gives o answer after) (sym (outcome_is l))
      (subst (λ (s : List Basic). Gives (given (first_reading (below (length B.names) B.pairs) s words) before) answer after) (sym e) g)
