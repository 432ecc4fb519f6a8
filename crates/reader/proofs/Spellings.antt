-- Document 02, 2.1, by example: "Fetch" and "fetch" in a book are one word with two entries, in book order, and 13 and 14 go by that; signs that
-- differ in the same bit are two words. Proved by evaluation of the definitions on the bytes.
use Prim.Native.Nat.{ℕ}
use mathlib.Core.Path.{◌≡◌, refl}
use mathlib.Core.List.{List, [], ◌∷◌, ◌++◌, map}
use mathlib.Core.Option.{some}
use lib.IntN.{negsuc}
use lib.ListN.{replicate, drop}
use Rattle.figures.specs.Refusals.{unknown_word, too_many_simples, Refused}
use Rattle.pregroup.specs.Types.{PregroupType, even, plain, ◌⁽◌⁾}
use Rattle.pregroup.specs.Tests.{same_exponent, contracts}
use Rattle.order.specs.Closed.{below}
use Rattle.linking.specs.Linking.{first_some, linked_to, first_within, unlinked_at, first_from, first_linking}
use Rattle.linking.specs.Reading.{NumberedEntry, answer, first_entry, first_behind, first_target, first_reading}
use Rattle.format.specs.Records.{Bytes, every, two_bytes, same_bytes}
use Rattle.format.specs.Names.{name_byte, is_name, number_of}
use Rattle.rules.specs.Layouts.{of_simples, exponent_of, simples_of, is_worded, is_entry}
use Rattle.rules.specs.Rules.{exponent_listed, body_rules, record_rules, first_broken}
use Rattle.book.specs.Format.{Entry, add, ended, records_from, parse}
use Rattle.book.proofs.PaperBooks.{type_record, entry_record, target_record, join, types, entries, fetch, bed4, ward7, first_book}
use Rattle.line.specs.LineWords.{words_from}
use Rattle.capitals.specs.Capitals.{small, same_word}
use Rattle.lookup.specs.Respelt.{DifferInCase, same_rest, same_record, respelt}
use Rattle.line.specs.LineFaults.{byte_fault, word_fault, entry_fault, line_check}
use Rattle.lookup.specs.Entries.{entries_from, simples_in, simples_of_words}
use Rattle.answer.specs.Answers.{Outcome, given, LineAnswer}
use Rattle.reader.specs.Outcome.{read_against, read_parsed, outcome}
use Rattle.reader.proofs.Table.{line_of, lent, expected}
use Rattle.reader.proofs.Capitals.{same_books_outcome}

abbrev Fetch : Bytes
Fetch = 70 ∷ 101 ∷ 116 ∷ 99 ∷ 104 ∷ []

abbrev FETCH : Bytes
FETCH = 70 ∷ 69 ∷ 84 ∷ 67 ∷ 72 ∷ []

abbrev Bed4 : Bytes
Bed4 = 66 ∷ 101 ∷ 100 ∷ 52 ∷ []

-- The two types of "fetch" in the paper's book, o p^l and o w^l p^l, the first under a spelling of its own.
abbrev without_ward : PregroupType
without_ward = plain 0 ∷ 1 ⁽ negsuc 0 ⁾ ∷ []

abbrev with_ward : PregroupType
with_ward = plain 0 ∷ 2 ⁽ negsuc 0 ⁾ ∷ 1 ⁽ negsuc 0 ⁾ ∷ []

abbrev spelt : List Entry
spelt = record { word = Fetch; type = without_ward } ∷ record { word = fetch; type = with_ward } ∷ []

abbrev both : List NumberedEntry
both = record { number = 0; type = without_ward } ∷ record { number = 1; type = with_ward } ∷ []

-- However the word is typed, both are its entries, in book order.
pub one_word : map (entries_from 0 spelt) (fetch ∷ Fetch ∷ FETCH ∷ []) ≡ both ∷ both ∷ both ∷ []
unfolding same_bytes small same_word entries_from
one_word = refl

-- The paper's first book with these entries.
abbrev two_spellings : Bytes
two_spellings = join (types ++ (target_record 0 ∷ entry_record Fetch (0 ∷ 0 ∷ 1 ∷ 255 ∷ []) ∷ drop 1 entries))

-- It differs from that book only in the case of a word, so every line has the same outcome with both.
spelt_apart : DifferInCase two_spellings first_book
unfolding same_bytes small same_word
spelt_apart =
    same_record 1 (111 ∷ [])
    (same_record 1 (112 ∷ [])
    (same_record 1 (119 ∷ [])
    (same_record 1 (117 ∷ [])
    (same_record 2 (3 ∷ 2 ∷ [])
    (same_record 4 (0 ∷ [])
    (respelt of_simples Fetch fetch (0 ∷ 0 ∷ 1 ∷ 255 ∷ []) refl same_rest))))))

pub as_the_first_book : (line : Bytes) (buffer : List ℕ) → outcome two_spellings line buffer ≡ outcome first_book line buffer
as_the_first_book = same_books_outcome two_spellings first_book spelt_apart

-- A book of two signs, "[" and the back-quote, each with the type o.
abbrev signs : Bytes
signs = join (types ++ (target_record 0 ∷ entry_record (91 ∷ []) (0 ∷ 0 ∷ []) ∷ entry_record (96 ∷ []) (0 ∷ 0 ∷ []) ∷ []))

-- "{" and "@" are other words than these: 13 at the line's start.
abbrev unknown : Outcome LineAnswer
unknown = record { answer = Refused unknown_word 0; buffer = lent }

abbrev outcomes : Bytes → List (List Bytes) → List (Outcome LineAnswer)
outcomes book lines = map (λ (words : List Bytes). outcome book (line_of words) lent) lines

pub spelt_lines :
    outcomes two_spellings ((FETCH ∷ bed4 ∷ ward7 ∷ []) ∷ (fetch ∷ Bed4 ∷ []) ∷ (Fetch ∷ bed4 ∷ []) ∷ [])
    ++ outcomes signs (((91 ∷ []) ∷ []) ∷ ((96 ∷ []) ∷ []) ∷ ((123 ∷ []) ∷ []) ∷ ((64 ∷ []) ∷ []) ∷ [])
    ≡ expected (some (answer 0 (1 ∷ 2 ∷ 3 ∷ []) (1 ∷ 5 ∷ 4 ∷ 3 ∷ 2 ∷ []))) ∷ expected (some (answer 0 (0 ∷ 2 ∷ []) (1 ∷ 3 ∷ 2 ∷ []))) ∷ expected (some (answer 0 (0 ∷ 2 ∷ []) (1 ∷ 3 ∷ 2 ∷ [])))
    ∷ expected (some (answer 0 (0 ∷ []) (1 ∷ []))) ∷ expected (some (answer 0 (1 ∷ []) (1 ∷ []))) ∷ unknown ∷ unknown ∷ []
unfolding every two_bytes name_byte is_name exponent_of simples_of is_worded is_entry exponent_listed same_bytes number_of body_rules record_rules first_broken add ended records_from parse even same_exponent contracts first_some linked_to first_within unlinked_at first_from first_linking first_entry first_behind first_target first_reading below small same_word words_from entries_from byte_fault word_fault entry_fault simples_in simples_of_words line_check given read_against read_parsed
spelt_lines = refl

-- A word 22 times in a line: with an entry of 12 simple types under one spelling they are 264 together, under two 528, which is 14.
abbrev heavy : List Bytes → List Entry
heavy words = map (λ (word : Bytes). record { word = word; type = replicate 12 (plain 0) }) words

abbrev heavy_book : List Bytes → Bytes
heavy_book words = join (type_record (111 ∷ []) ∷ target_record 0 ∷ map (λ (word : Bytes). entry_record word (replicate 24 0)) words)

abbrev sum : List Bytes → ℕ
sum words = simples_of_words (map (entries_from 0 (heavy words)) (replicate 22 FETCH))

pub both_counted : map sum ((Fetch ∷ []) ∷ (fetch ∷ []) ∷ (Fetch ∷ fetch ∷ []) ∷ []) ≡ 264 ∷ 264 ∷ 528 ∷ []
unfolding same_bytes small same_word entries_from simples_in simples_of_words
both_counted = refl

pub too_many_together : outcome (heavy_book (Fetch ∷ fetch ∷ [])) (line_of (replicate 22 FETCH)) lent ≡ record { answer = Refused too_many_simples 0; buffer = lent }
unfolding every two_bytes name_byte is_name exponent_of simples_of is_worded is_entry exponent_listed same_bytes number_of body_rules record_rules first_broken add ended records_from parse small same_word words_from entries_from byte_fault word_fault entry_fault simples_in simples_of_words line_check read_against read_parsed
too_many_together = refl
