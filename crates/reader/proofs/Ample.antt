-- `max_values` values hold any answer: where so many are lent 16 never comes back, and more change nothing but what stands behind the answer. So what a
-- line gets there is a reply of its own (`ample_reply`), in which no buffer occurs.
use Prim.Native.Nat.{ℕ, ◌+◌, ◌≤◌}
use native.Mathlib.Omega.{arith}
use mathlib.Core.Path.{◌≡◌, refl, ap, ◌∙◌}
use mathlib.Core.List.{List}
use mathlib.Core.Option.{Option, none, some}
use lib.ListN.{length, drop, length-map}
use lib.Seq.{take-append_seam}
use Rattle.figures.specs.Limits.{max_values}
use Rattle.figures.specs.Refusals.{Reply, refusal, no_reading, buffer_too_short}
use Rattle.order.specs.Closed.{below}
use Rattle.format.specs.Records.{Bytes}
use Rattle.book.specs.Format.{Book, Parsed, accepted, refused, parse}
use Rattle.book.proofs.Accepted.{accepted_declares}
use Rattle.linking.specs.Reading.{Words, Answer, IsReading, first_reading}
use Rattle.linking.proofs.FirstReading.{choice_length}
use Rattle.line.specs.LineWords.{words_of}
use Rattle.line.specs.LineFaults.{LineCheck, passed, stopped, line_check, entries_of}
use Rattle.line.proofs.Passed.{line_passing, line_brief, choice_brief, words_few}
use Rattle.line.proofs.Offsets.{stopped_within}
use Rattle.answer.specs.Answers.{LineAnswer, outcome_reply, line_reply, values_of}
use Rattle.reader.specs.Outcome.{read_against, read_parsed, outcome}
use Rattle.reader.specs.Demands.{OrderOf, Readable}
use Rattle.reader.proofs.Refusals.{book_not_short, NamedParse, parse_named, NamedLine, line_named}
use Rattle.reader.proofs.Promises.{Given, no_answer, too_short, enough, given_is, values_count, is_first, first_of}

-- A reading of a line that breaks nothing takes at most so many values.
pub reading_within : {book line : Bytes} {B : Book} {words : Words} → Readable book line B words → {t : ℕ} {entries partners : List ℕ}
    → IsReading (OrderOf B) B.targets words t entries partners → 3 + length entries + length partners ≤ max_values
reading_within {book} {line} {B} {words} r i =
    let passing = line_passing B line words r.line_passed in
    let few = words_few 0 (words_of line) (omega arith) passing.words_fine in
    let count : length words ≡ length (words_of line) = ap length passing.words_are ∙ length-map (words_of line) (entries_of B) in
    let brief = choice_brief (line_brief B line words (accepted_declares book B r.book_accepted).short passing) i.chosen in
    omega (arith, choice_length i.chosen, i.linking.count)

-- What comes back where any answer fits.

abbrev read_reply : Option Answer → Reply
read_reply none = refusal no_reading 0
read_reply (some a) = record { number = 0; values = values_of a }

abbrev checked_reply : Book → LineCheck → Reply
checked_reply B (stopped number value) = refusal number value
checked_reply B (passed words) = read_reply (first_reading (below (length B.names) B.pairs) B.targets words)

abbrev pub ample_reply : Parsed → Bytes → Reply
ample_reply (refused number value) line = refusal number value
ample_reply (accepted B) line = checked_reply B (line_check B line)

-- A reply where any answer fits: the book's refusal, the line's with a value within the line, or an answer that is not too long. None is 16.
pub data Ample (book line : Bytes) : Reply → Type 0 where
  of_book : {number value : ℕ} → parse book ≡ refused number value → (number ≡ buffer_too_short → ⊥) → Ample book line (refusal number value)
  of_line : {number value : ℕ} → value ≤ length line → (number ≡ buffer_too_short → ⊥) → Ample book line (refusal number value)
  of_reading : {values : List ℕ} → length values ≤ max_values → Ample book line (record { number = 0; values = values })

pub not_short : {book line : Bytes} {reply : Reply} → Ample book line reply → reply.number ≡ buffer_too_short → ⊥
not_short (of_book e h) = h
not_short (of_line h k) = k
not_short (of_reading h) = omega arith

module _ (book line : Bytes) where
  -- The first reading is not too long.
  first_within : (B : Book) (words : Words) (r : Readable book line B words) (a : Answer) → first_of book line B words r ≡ some a → length (values_of a) ≤ max_values
  first_within B words r a e = omega (arith, values_count a, reading_within r (is_first book line B words r a e).reading)

  read_ample : (o : Option Answer) → ((a : Answer) → o ≡ some a → length (values_of a) ≤ max_values) → Ample book line (read_reply o)
  read_ample none h = of_line {number = no_reading} {value = 0} (omega arith) (omega arith)
  read_ample (some a) h = of_reading (h a refl)

  line_ample : (B : Book) → parse book ≡ accepted B → (c : LineCheck) → line_check B line ≡ c → NamedLine c → Ample book line (checked_reply B c)
  line_ample B e (stopped number value) l named = of_line {number = number} (stopped_within B line l) (omega arith)
  line_ample B e (passed words) l named =
      let r : Readable book line B words = record { book_accepted = e; line_passed = l } in
      read_ample (first_of book line B words r) (first_within B words r)

  book_ample : (p : Parsed) → parse book ≡ p → NamedParse p → Ample book line (ample_reply p line)
  book_ample (refused number value) e named = of_book {number = number} e (book_not_short named)
  book_ample (accepted B) e named = line_ample B e (line_check B line) refl (line_named B line)

  pub ample : Ample book line (ample_reply (parse book) line)
  ample = book_ample (parse book) refl (parse_named book)

  module _ (lent : List ℕ) (enough-lent : max_values ≤ length lent) where
    given_reply : {o : Option Answer} {answer : LineAnswer} {after : List ℕ} → Given lent o answer after → ((a : Answer) → o ≡ some a → length (values_of a) ≤ max_values)
        → line_reply answer after ≡ read_reply o
    given_reply no_answer h = refl
    given_reply (too_short {a} l) h = absurd (omega (arith, h a refl))
    given_reply (enough {a} l) h = ap (λ (values : List ℕ). record { number = 0; values = values }) (take-append_seam (values_of a) (drop (length (values_of a)) lent))

    line_reply_lem : (B : Book) → parse book ≡ accepted B → (c : LineCheck) → line_check B line ≡ c → outcome_reply (read_against B c lent) ≡ checked_reply B c
    unfolding read_against
    line_reply_lem B e (stopped number value) l = refl
    line_reply_lem B e (passed words) l =
        let r : Readable book line B words = record { book_accepted = e; line_passed = l } in
        given_reply (given_is lent (first_of book line B words r)) (first_within B words r)

    book_reply : (p : Parsed) → parse book ≡ p → outcome_reply (read_parsed p line lent) ≡ ample_reply p line
    unfolding read_parsed
    book_reply (refused number value) e = refl
    book_reply (accepted B) e = line_reply_lem B e (line_check B line) refl

    -- What is lent beyond that changes nothing.
    pub ample_reply_lem : outcome_reply (outcome book line lent) ≡ ample_reply (parse book) line
    ample_reply_lem = book_reply (parse book) refl

    -- 16 never comes back.
    pub never_short : (outcome_reply (outcome book line lent)).number ≡ buffer_too_short → ⊥
    never_short = rw ample_reply_lem (not_short ample)
