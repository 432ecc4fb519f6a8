-- The cases that document 01 marks with ●: one table, proved by one theorem, by evaluation of the definitions on the bytes of the books and
-- the lines. "I will meet him" goes by the dictionary of document 000, example 4.3.
use Prim.Native.Nat.{ℕ}
use mathlib.Core.Path.{◌≡◌, refl}
use mathlib.Core.List.{List, [], ◌∷◌, ◌++◌, map}
use mathlib.Core.Option.{Option, none, some}
use lib.ListN.{length, replicate, drop}
use Rattle.figures.specs.Refusals.{no_reading, Refused}
use Rattle.pregroup.specs.Types.{even}
use Rattle.pregroup.specs.Tests.{same_exponent, contracts}
use Rattle.order.specs.Closed.{below}
use Rattle.linking.specs.Linking.{first_some, linked_to, first_within, unlinked_at, first_from, first_linking}
use Rattle.linking.specs.Reading.{Answer, answer, first_entry, first_behind, first_target, first_reading}
use Rattle.format.specs.Records.{Bytes, every, two_bytes, same_bytes}
use Rattle.format.specs.Names.{name_byte, is_name, number_of}
use Rattle.rules.specs.Layouts.{exponent_of, simples_of, is_worded, is_entry}
use Rattle.rules.specs.Rules.{exponent_listed, body_rules, record_rules, first_broken}
use Rattle.book.specs.Format.{add, ended, records_from, parse}
use Rattle.book.proofs.PaperBooks.{type_record, pair_record, entry_record, target_record, join, fetch, bed4, ward7, urgently, admit, site, go, please, log, first_book, second_book}
use Rattle.line.specs.LineWords.{words_from}
use Rattle.capitals.specs.Capitals.{small, same_word}
use Rattle.line.specs.LineFaults.{byte_fault, word_fault, entry_fault, line_check}
use Rattle.lookup.specs.Entries.{entries_from, simples_in, simples_of_words}
use Rattle.answer.specs.Answers.{Outcome, values_of, given, LineAnswer}
use Rattle.reader.specs.Outcome.{read_against, read_parsed, outcome}
use Rattle.std.specs.Prelude.{Ok}

-- The words of document 000, example 4.3.
abbrev I : Bytes
I = 73 ∷ []

abbrev will : Bytes
will = 119 ∷ 105 ∷ 108 ∷ 108 ∷ []

abbrev meet : Bytes
meet = 109 ∷ 101 ∷ 101 ∷ 116 ∷ []

abbrev him : Bytes
him = 104 ∷ 105 ∷ 109 ∷ []

-- Its dictionary: basic types π1 0, π 1, s1 2, s 3, j 4, i 5, q1 6, o 7, named p1, p, s1, s, j, i, q1, o here; π1 ≤ π, i ≤ j, s1 ≤ s; the entries in
-- the order listed there: I π1; will π^r s1 j^l; will q1 j^l π^l; meet i o^l; him o. Target s.
abbrev thesis_book : Bytes
thesis_book =
    join
    (type_record (112 ∷ 49 ∷ [])
    ∷ type_record (112 ∷ [])
    ∷ type_record (115 ∷ 49 ∷ [])
    ∷ type_record (115 ∷ [])
    ∷ type_record (106 ∷ [])
    ∷ type_record (105 ∷ [])
    ∷ type_record (113 ∷ 49 ∷ [])
    ∷ type_record (111 ∷ [])
    ∷ pair_record 0 1
    ∷ pair_record 5 4
    ∷ pair_record 2 3
    ∷ entry_record I (0 ∷ 0 ∷ [])
    ∷ entry_record will (1 ∷ 1 ∷ 2 ∷ 0 ∷ 4 ∷ 255 ∷ [])
    ∷ entry_record will (6 ∷ 0 ∷ 4 ∷ 255 ∷ 1 ∷ 255 ∷ [])
    ∷ entry_record meet (5 ∷ 0 ∷ 7 ∷ 255 ∷ [])
    ∷ entry_record him (7 ∷ 0 ∷ [])
    ∷ target_record 3
    ∷ [])

-- The line of these words: a space between each two.
abbrev pub line_of : List Bytes → Bytes
line_of [] = []
line_of (word ∷ words) = word ++ join (map (λ (next : Bytes). 32 ∷ next) words)

-- A case: a book, the words of a line, and the target's number, entries and partners of its reading, or none for 15. Each book has one target.
pub record Case : Type 0 where
  pub book : Bytes
  pub words : List Bytes
  pub reading : Option Answer

abbrev case : Bytes → List Bytes → Option Answer → Case
case book words reading = record { book = book; words = words; reading = reading }

abbrev pub cases : List Case
cases =
    case first_book (fetch ∷ bed4 ∷ ward7 ∷ []) (some (answer 0 (1 ∷ 2 ∷ 3 ∷ []) (1 ∷ 5 ∷ 4 ∷ 3 ∷ 2 ∷ [])))
    ∷ case first_book (fetch ∷ bed4 ∷ []) (some (answer 0 (0 ∷ 2 ∷ []) (1 ∷ 3 ∷ 2 ∷ [])))
    ∷ case first_book (go ∷ []) (some (answer 0 (7 ∷ []) (1 ∷ [])))
    ∷ case first_book (go ∷ urgently ∷ []) (some (answer 0 (7 ∷ 4 ∷ []) (2 ∷ 1 ∷ 3 ∷ [])))
    ∷ case first_book (go ∷ urgently ∷ urgently ∷ []) (some (answer 0 (7 ∷ 4 ∷ 4 ∷ []) (2 ∷ 1 ∷ 4 ∷ 3 ∷ 5 ∷ [])))
    ∷ case first_book (please ∷ go ∷ urgently ∷ []) (some (answer 0 (8 ∷ 7 ∷ 4 ∷ []) (1 ∷ 5 ∷ 4 ∷ 3 ∷ 2 ∷ [])))
    ∷ case first_book (admit ∷ ward7 ∷ []) (some (answer 0 (5 ∷ 3 ∷ []) (1 ∷ 3 ∷ 2 ∷ [])))
    ∷ case first_book (admit ∷ site ∷ []) none
    ∷ case first_book (go ∷ go ∷ []) none
    ∷ case first_book (fetch ∷ site ∷ []) none
    ∷ case first_book [] none
    ∷ case second_book (log ∷ go ∷ urgently ∷ []) (some (answer 0 (9 ∷ 7 ∷ 4 ∷ []) (1 ∷ 5 ∷ 4 ∷ 3 ∷ 2 ∷ [])))
    ∷ case thesis_book (I ∷ will ∷ meet ∷ him ∷ []) (some (answer 0 (0 ∷ 1 ∷ 3 ∷ 4 ∷ []) (2 ∷ 1 ∷ 3 ∷ 5 ∷ 4 ∷ 7 ∷ 6 ∷ [])))
    ∷ []

-- What a case comes to with 20 values lent: its answer and then what stood behind it, or 15 and the buffer as it was.
abbrev pub lent : List ℕ
lent = replicate 20 7

abbrev pub expected : Option Answer → Outcome LineAnswer
expected none = record { answer = Refused no_reading 0; buffer = lent }
expected (some a) = record { answer = Ok (length (values_of a)); buffer = values_of a ++ drop (length (values_of a)) lent }

pub paper_cases : map (λ (c : Case). outcome c.book (line_of c.words) lent) cases ≡ map (λ (c : Case). expected c.reading) cases
unfolding every two_bytes name_byte is_name exponent_of simples_of is_worded is_entry exponent_listed same_bytes number_of body_rules record_rules first_broken add ended records_from parse even same_exponent contracts first_some linked_to first_within unlinked_at first_from first_linking first_entry first_behind first_target first_reading below small same_word words_from entries_from byte_fault word_fault entry_fault simples_in simples_of_words line_check given read_against read_parsed
paper_cases = refl
