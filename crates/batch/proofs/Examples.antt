-- Document 02, 2.2, by example: each cause of 17 for every book and buffer, each limit from its other side, the order of 17, the book and 18, and a batch of
-- four lines against the paper's first book, with more values lent than it takes, with as many and with one less. Most by evaluation.
use Prim.Native.Nat.{ℕ}
use native.Mathlib.Omega.{arith}
use mathlib.Core.Path.{◌≡◌, refl, ap, ◌∙◌}
use mathlib.Core.List.{List, [], ◌∷◌, ◌++◌, map}
use mathlib.Core.Option.{some}
use lib.ListN.{replicate, length-append, length-replicate, get_or-replicate}
use Rattle.figures.specs.Limits.{max_lines}
use Rattle.figures.specs.Refusals.{no_target, bad_batch, answers_too_long, Refused}
use Rattle.pregroup.specs.Types.{even}
use Rattle.pregroup.specs.Tests.{same_exponent, contracts}
use Rattle.order.specs.Closed.{below}
use Rattle.linking.specs.Linking.{first_some, linked_to, first_within, unlinked_at, first_from, first_linking}
use Rattle.linking.specs.Reading.{first_entry, first_behind, first_target, first_reading}
use Rattle.format.specs.Records.{Bytes, every, two_bytes, same_bytes}
use Rattle.format.specs.Names.{name_byte, is_name, number_of}
use Rattle.rules.specs.Layouts.{exponent_of, simples_of, is_worded, is_entry}
use Rattle.rules.specs.Rules.{exponent_listed, body_rules, record_rules, first_broken}
use Rattle.book.specs.Format.{add, ended, records_from, parse}
use Rattle.book.proofs.PaperBooks.{fetch, bed4, admit, site, go, first_book}
use Rattle.line.specs.LineWords.{words_from}
use Rattle.capitals.specs.Capitals.{small, same_word}
use Rattle.line.specs.LineFaults.{byte_fault, word_fault, entry_fault, line_check}
use Rattle.lookup.specs.Entries.{entries_from, simples_in, simples_of_words}
use Rattle.answer.specs.Answers.{Outcome, given}
use Rattle.reader.specs.Outcome.{read_against, read_parsed}
use Rattle.reader.proofs.Table.{line_of}
use Rattle.batch.specs.Batch.{BatchAnswer, given_parts, read_lines, read_batch, batch_outcome}
use Rattle.std.specs.Prelude.{Ok}
use Rattle.batch_lines.specs.Lines.{line_break, lines_of, up_to, batch_lines, close_each, Unbroken}
use Rattle.batch_parts.specs.Parts.{parts_of}
use Rattle.batch_lines.proofs.LinesLaws.{lines_first, batch_long, batch_short}

abbrev refused : ℕ → ℕ → List ℕ → Outcome BatchAnswer
refused number value buffer = record { answer = Refused number value; buffer = buffer }

-- A line of spaces, closed.
abbrev spaces : ℕ → Bytes
spaces n = replicate n 32 ++ (line_break ∷ [])

module _ (book : Bytes) (buffer : List ℕ) where
  -- 33 lines.
  pub more_lines_refused : batch_outcome book (replicate 33 line_break) buffer ≡ refused bad_batch 0 buffer
  unfolding lines_of batch_lines read_batch
  more_lines_refused = refl

  -- A line that is not closed, alone and behind a closed one.
  pub not_closed_refused : map (λ (batch : Bytes). batch_outcome book batch buffer) (go ∷ (line_break ∷ go) ∷ []) ≡ refused bad_batch 0 buffer ∷ refused bad_batch 0 buffer ∷ []
  unfolding lines_of batch_lines read_batch
  not_closed_refused = refl

  -- 65,536 bytes, in one line.
  pub more_bytes_refused : batch_outcome book (spaces 65535) buffer ≡ refused bad_batch 0 buffer
  unfolding read_batch
  more_bytes_refused =
      ap (λ o. read_batch o book buffer)
      (batch_long (spaces 65535) (omega (arith, length-append (replicate {A = ℕ} 65535 32) (line_break ∷ []), length-replicate {A = ℕ} 65535 32)))

-- 32 lines are a batch, and so are none.
pub thirty_two_lines : map batch_lines (replicate 32 line_break ∷ [] ∷ []) ≡ some (replicate 32 []) ∷ some [] ∷ []
unfolding lines_of batch_lines
thirty_two_lines = refl

-- 65,535 bytes are one.
spaces_unbroken : (n : ℕ) → Unbroken (replicate n 32)
spaces_unbroken n k h q = omega (arith, get_or-replicate {A = ℕ} n k 32 0 (omega (arith, length-replicate {A = ℕ} n 32)))

pub longest_line : batch_lines (spaces 65534) ≡ some (replicate 65534 32 ∷ [])
unfolding lines_of
longest_line =
    batch_short (spaces 65534) (omega (arith, length-append (replicate {A = ℕ} 65534 32) (line_break ∷ []), length-replicate {A = ℕ} 65534 32))
    ∙ ap (up_to max_lines) (lines_first (replicate 65534 32) [] (spaces_unbroken 65534))

-- The book comes before 18: an empty one is refused though no value is lent for the line's part.
pub book_before_room : batch_outcome [] (line_break ∷ []) [] ≡ refused no_target 0 []
unfolding lines_of batch_lines read_batch read_lines add ended records_from parse
book_before_room = refl

-- "fetch bed4", which reads; "admit site" and an empty line, which do not; and "go now", where "now" is no word of the book.
abbrev morning : Bytes
morning = close_each (line_of (fetch ∷ bed4 ∷ []) ∷ line_of (admit ∷ site ∷ []) ∷ [] ∷ line_of (go ∷ (110 ∷ 111 ∷ 119 ∷ []) ∷ []) ∷ [])

abbrev answers : List ℕ
answers = 9 ∷ 0 ∷ 0 ∷ 2 ∷ 0 ∷ 2 ∷ 3 ∷ 1 ∷ 3 ∷ 2 ∷ 2 ∷ 15 ∷ 0 ∷ 2 ∷ 15 ∷ 0 ∷ 2 ∷ 13 ∷ 3 ∷ []

pub morning_lines :
    map (batch_outcome first_book morning) (replicate 21 7 ∷ replicate 19 7 ∷ replicate 18 7 ∷ [])
    ≡ record { answer = Ok 4; buffer = answers ++ (7 ∷ 7 ∷ []) } ∷ record { answer = Ok 4; buffer = answers } ∷ refused answers_too_long 19 (replicate 18 7) ∷ []
unfolding every two_bytes name_byte is_name exponent_of simples_of is_worded is_entry exponent_listed same_bytes number_of body_rules record_rules first_broken add ended records_from parse even same_exponent contracts first_some linked_to first_within unlinked_at first_from first_linking first_entry first_behind first_target first_reading below small same_word words_from entries_from byte_fault word_fault entry_fault simples_in simples_of_words line_check given read_against read_parsed lines_of batch_lines parts_of given_parts read_lines read_batch
morning_lines = refl
