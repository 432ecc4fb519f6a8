-- Document 02, 2.6, by example, against the paper's first book: one word too many, two each of which is in the way, none that is, a line of one word, and lines
-- that get their ordinary answer. Proved by evaluation of the definitions on the bytes.
use Prim.Native.Nat.{ℕ}
use mathlib.Core.Path.{◌≡◌, refl}
use mathlib.Core.List.{List, [], ◌∷◌, map}
use Rattle.figures.specs.Refusals.{buffer_too_short, unknown_word, no_target, Refused}
use Rattle.pregroup.specs.Types.{even}
use Rattle.pregroup.specs.Tests.{same_exponent, contracts}
use Rattle.order.specs.Closed.{below}
use Rattle.linking.specs.Linking.{first_some, linked_to, first_within, unlinked_at, first_from, first_linking}
use Rattle.linking.specs.Reading.{first_entry, first_behind, first_target, first_reading}
use Rattle.format.specs.Records.{Bytes, every, two_bytes, same_bytes}
use Rattle.format.specs.Names.{name_byte, is_name, number_of}
use Rattle.rules.specs.Layouts.{exponent_of, simples_of, is_worded, is_entry}
use Rattle.rules.specs.Rules.{exponent_listed, body_rules, record_rules, first_broken}
use Rattle.book.specs.Format.{add, ended, records_from, parse}
use Rattle.book.proofs.PaperBooks.{fetch, bed4, ward7, site, go, first_book}
use Rattle.line.specs.LineWords.{words_from}
use Rattle.line.specs.Remaining.{without}
use Rattle.capitals.specs.Capitals.{small, same_word}
use Rattle.line.specs.LineFaults.{byte_fault, word_fault, entry_fault, line_check}
use Rattle.lookup.specs.Entries.{entries_from, simples_in, simples_of_words}
use Rattle.answer.specs.Answers.{Outcome, given}
use Rattle.reader.specs.Outcome.{read_against, read_parsed}
use Rattle.std.specs.Prelude.{Ok}
use Rattle.reader.proofs.Table.{line_of}
use Rattle.in_the_way.specs.declared.WayAnswer.{WayAnswer}
use Rattle.in_the_way.specs.declared.WayAnswer.TheVariants.{Ordinary, NoReading}
use Rattle.left_out.specs.LeftOut.{way_from}
use Rattle.in_the_way.specs.Way.{way_against, way_parsed, told, way_outcome}

abbrev lent : List ℕ
lent = 7 ∷ 7 ∷ 7 ∷ 7 ∷ 7 ∷ 7 ∷ []

abbrev kept : WayAnswer → Outcome WayAnswer
kept answer = record { answer = answer; buffer = lent }

abbrev outcomes : List (List Bytes) → List (Outcome WayAnswer)
outcomes lines = map (λ (words : List Bytes). way_outcome first_book (line_of words) lent) lines

-- Without "bed4" the first line reads, without either "go" the second, without "site" or "ward7" the third; no one word helps the fourth, and nothing is left
-- of the fifth and sixth.
pub told_lines :
    outcomes ((bed4 ∷ go ∷ []) ∷ (go ∷ go ∷ []) ∷ (fetch ∷ bed4 ∷ site ∷ ward7 ∷ []) ∷ (bed4 ∷ go ∷ bed4 ∷ []) ∷ (site ∷ []) ∷ [] ∷ [])
    ≡ map (λ (n : ℕ). kept (NoReading n)) (1 ∷ 3 ∷ 12 ∷ 0 ∷ 0 ∷ 0 ∷ [])
unfolding every two_bytes name_byte is_name exponent_of simples_of is_worded is_entry exponent_listed same_bytes number_of body_rules record_rules first_broken add ended records_from parse even same_exponent contracts first_some linked_to first_within unlinked_at first_from first_linking first_entry first_behind first_target first_reading below small same_word words_from entries_from byte_fault word_fault entry_fault simples_in simples_of_words line_check given read_against read_parsed without way_from way_against way_parsed told
told_lines = refl

-- An answer, 16 and 13 come as ever.
pub ordinary_lines :
    outcomes ((go ∷ []) ∷ (fetch ∷ bed4 ∷ []) ∷ (go ∷ (103 ∷ []) ∷ []) ∷ [])
    ≡ record { answer = Ordinary (Ok 5); buffer = 0 ∷ 1 ∷ 7 ∷ 1 ∷ 1 ∷ 7 ∷ [] } ∷ kept (Ordinary (Refused buffer_too_short 8)) ∷ kept (Ordinary (Refused unknown_word 3)) ∷ []
unfolding every two_bytes name_byte is_name exponent_of simples_of is_worded is_entry exponent_listed same_bytes number_of body_rules record_rules first_broken add ended records_from parse even same_exponent contracts first_some linked_to first_within unlinked_at first_from first_linking first_entry first_behind first_target first_reading below small same_word words_from entries_from byte_fault word_fault entry_fault simples_in simples_of_words line_check given read_against read_parsed without way_from way_against way_parsed told
ordinary_lines = refl

-- So does a refusal of the book.
pub bad_book : way_outcome [] (line_of (go ∷ go ∷ [])) lent ≡ kept (Ordinary (Refused no_target 0))
unfolding ended records_from parse read_parsed way_parsed told
bad_book = refl
