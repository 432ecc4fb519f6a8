-- Capitals never matter: neither the case of a line nor that of the words in a book's entries changes an outcome.
use Prim.Native.Nat.{ℕ}
use mathlib.Core.Path.{◌≡◌, refl, sym, ap, ◌∙◌}
use mathlib.Core.List.{List}
use Rattle.format.specs.Records.{Bytes}
use Rattle.book.specs.Format.{Book, Parsed, accepted, refused, parse}
use Rattle.capitals.specs.Capitals.{small_bytes}
use Rattle.lookup.specs.Respelt.{DifferInCase}
use Rattle.line.specs.LineFaults.{LineCheck, passed, stopped, line_check}
use Rattle.line.proofs.SmallLines.{small_book, line_small, book_small}
use Rattle.line.proofs.SmallBooks.{small_parsed, parse_same}
use Rattle.reader.specs.Outcome.{read_against, read_parsed, outcome}

module _ (line : Bytes) (buffer : List ℕ) where
  read_small_line : (P : Parsed) → read_parsed P (small_bytes line) buffer ≡ read_parsed P line buffer
  unfolding read_parsed
  read_small_line (accepted B) = ap (λ (c : LineCheck). read_against B c buffer) (line_small B line)
  read_small_line (refused number value) = refl

  against_small_book : (B : Book) (c : LineCheck) → read_against (small_book B) c buffer ≡ read_against B c buffer
  unfolding read_against
  against_small_book B (passed words) = refl
  against_small_book B (stopped number value) = refl

  read_small_book : (P : Parsed) → read_parsed (small_parsed P) line buffer ≡ read_parsed P line buffer
  unfolding read_parsed
  read_small_book (accepted B) = against_small_book B (line_check (small_book B) line) ∙ ap (λ (c : LineCheck). read_against B c buffer) (book_small B line)
  read_small_book (refused number value) = refl

-- A line comes to what it comes to with its capitals made small ..
pub small_line_outcome : (book line : Bytes) (buffer : List ℕ) → outcome book line buffer ≡ outcome book (small_bytes line) buffer
small_line_outcome book line buffer = sym (read_small_line line buffer (parse book))

-- .. and every line comes to the same with two books that differ only in the case of their entries' words.
pub same_books_outcome : (a b : Bytes) → DifferInCase a b → (line : Bytes) (buffer : List ℕ) → outcome a line buffer ≡ outcome b line buffer
same_books_outcome a b d line buffer =
    sym (read_small_book line buffer (parse a)) ∙ ap (λ (P : Parsed). read_parsed P line buffer) (parse_same a b d).small ∙ read_small_book line buffer (parse b)
