-- 15: it comes only to a line that is read, with 0, and exactly when the line has no first reading.
use Prim.Native.Nat.{ℕ}
use native.Mathlib.Omega.{arith}
use mathlib.Core.Path.{◌≡◌, refl, sym, ap, ◌∙◌}
use mathlib.Core.Logic.{◌↔◌, ⊎_elim}
use mathlib.Core.List.{List}
use mathlib.Core.Option.{Option, none}
use lib.ListN.{length}
use Rattle.figures.specs.Refusals.{no_reading, Refused}
use Rattle.bits.proofs.Cases.{none_some}
use Rattle.order.specs.Closed.{below}
use Rattle.format.specs.Records.{Bytes}
use Rattle.book.specs.Format.{Book, Parsed, accepted, refused, parse}
use Rattle.linking.specs.Reading.{Words, Answer, first_reading}
use Rattle.line.specs.LineFaults.{LineCheck, passed, stopped, line_check}
use Rattle.answer.specs.Answers.{LineAnswer, Outcome}
use Rattle.answer.proofs.GivenLaws.{read_refused, refused_number, refused_value}
use Rattle.reader.specs.Outcome.{read_against, read_parsed, outcome}
use Rattle.reader.specs.Demands.{Readable}
use Rattle.reader.proofs.Refusals.{NamedParse, parse_named, NamedLine, line_named}
use Rattle.reader.proofs.Promises.{Given, no_answer, too_short, enough, given_is, outcome_read}

-- The first reading of words against a book.
abbrev pub first_of_book : Book → Words → Option Answer
first_of_book B words = first_reading (below (length B.names) B.pairs) B.targets words

-- What `given` answers with 15.
given_unread : {buffer : List ℕ} {o : Option Answer} {answer : LineAnswer} {after : List ℕ} {value : ℕ} → Given buffer o answer after → answer ≡ Refused no_reading value
    → (value ≡ 0) × (o ≡ none)
given_unread no_answer e = (sym (refused_value e), refl)
given_unread (too_short l) e = let z = refused_number e in absurd (omega arith)
given_unread (enough l) e = read_refused e

unread_given : {buffer : List ℕ} {o : Option Answer} {answer : LineAnswer} {after : List ℕ} → Given buffer o answer after → o ≡ none → answer ≡ Refused no_reading 0
unread_given no_answer e = refl
unread_given (too_short l) e = none_some (sym e)
unread_given (enough l) e = none_some (sym e)

module _ (book line : Bytes) (buffer : List ℕ) where
  -- A line that is read gets 15 exactly when it has no first reading.
  pub unread_exactly : (B : Book) (words : Words) → Readable book line B words → ((outcome book line buffer).answer ≡ Refused no_reading 0) ↔ (first_of_book B words ≡ none)
  unread_exactly B words r =
      let same = ap (λ (o : Outcome LineAnswer). o.answer) (outcome_read book line B words r buffer) in (
        λ e. (given_unread (given_is buffer (first_of_book B words)) (sym same ∙ e)).1,
        λ e. same ∙ unread_given (given_is buffer (first_of_book B words)) e,
      )

  -- What 15 says of a line.
  pub record Unread (value : ℕ) : Type 0 where
    pub no_value : value ≡ 0
    pub contents : Book
    pub words : Words
    pub readable : Readable book line contents words

  by_line : {value : ℕ} (B : Book) → parse book ≡ accepted B → (c : LineCheck) → line_check B line ≡ c → NamedLine c → (read_against B c buffer).answer ≡ Refused no_reading value
      → Unread value
  unfolding read_against
  by_line B e (stopped number v) l named k = let z = refused_number k in absurd (omega (arith, named.1))
  by_line B e (passed words) l named k = record {
    no_value = (given_unread (given_is buffer (first_of_book B words)) k).0;
    contents = B;
    words = words;
    readable = record { book_accepted = e; line_passed = l };
  }

  by_book : {value : ℕ} (p : Parsed) → parse book ≡ p → NamedParse p → (read_parsed p line buffer).answer ≡ Refused no_reading value → Unread value
  unfolding read_parsed
  by_book (refused number v) e named k = let z = refused_number k in absurd (⊎_elim (λ low. omega (arith, low.1)) (λ high. omega (arith, high.0)) named)
  by_book (accepted B) e named k = by_line B e (line_check B line) refl (line_named B line) k

  pub unread_line : (value : ℕ) → (outcome book line buffer).answer ≡ Refused no_reading value → Unread value
  unread_line value k = by_book (parse book) refl (parse_named book) k
