-- Lines of books with several targets, by evaluation of the definitions: which target is taken, and with what number.
use Prim.Native.Nat.{ℕ}
use mathlib.Core.Path.{◌≡◌, refl}
use mathlib.Core.List.{List, [], ◌∷◌, ◌++◌, map}
use mathlib.Core.Option.{none, some}
use lib.ListN.{replicate}
use Rattle.figures.specs.Refusals.{too_many_targets, buffer_too_short, Refused}
use Rattle.pregroup.specs.Types.{even}
use Rattle.pregroup.specs.Tests.{same_exponent, contracts}
use Rattle.order.specs.Closed.{below}
use Rattle.linking.specs.Linking.{first_some, linked_to, first_within, unlinked_at, first_from, first_linking}
use Rattle.linking.specs.Reading.{answer, first_entry, first_behind, first_target, first_reading}
use Rattle.format.specs.Records.{Bytes, every, two_bytes, same_bytes}
use Rattle.format.specs.Names.{name_byte, is_name, number_of}
use Rattle.rules.specs.Layouts.{exponent_of, simples_of, is_worded, is_entry}
use Rattle.rules.specs.Rules.{exponent_listed, body_rules, record_rules, first_broken}
use Rattle.book.specs.Format.{add, ended, records_from, parse}
use Rattle.book.proofs.PaperBooks.{type_record, pair_record, entry_record, target_record, join, go, site, ward7, please}
use Rattle.line.specs.LineWords.{words_from}
use Rattle.capitals.specs.Capitals.{small, same_word}
use Rattle.line.specs.LineFaults.{byte_fault, word_fault, entry_fault, line_check}
use Rattle.lookup.specs.Entries.{entries_from, simples_in, simples_of_words}
use Rattle.answer.specs.Answers.{given}
use Rattle.reader.specs.Outcome.{read_against, read_parsed, outcome}
use Rattle.std.specs.Prelude.{Ok}
use Rattle.reader.proofs.Table.{lent, expected}

-- Types o 0, k 1, p 2; entries 0 go k, 1 go o, 2 site k, 3 ward7 p, 4 please k o^l p k^r o; and these pairs and targets.
abbrev book_of : List Bytes → List ℕ → Bytes
book_of pairs targets =
    join
    (type_record (111 ∷ [])
    ∷ type_record (107 ∷ [])
    ∷ type_record (112 ∷ [])
    ∷ entry_record go (1 ∷ 0 ∷ [])
    ∷ entry_record go (0 ∷ 0 ∷ [])
    ∷ entry_record site (1 ∷ 0 ∷ [])
    ∷ entry_record ward7 (2 ∷ 0 ∷ [])
    ∷ entry_record please (1 ∷ 0 ∷ 0 ∷ 255 ∷ 2 ∷ 0 ∷ 1 ∷ 1 ∷ 0 ∷ 0 ∷ [])
    ∷ (pairs ++ map target_record targets))

-- No pairs. The first target is taken, though the other has the smaller entry; only the later one reads; equal ones; the last of eight; none
-- of two; a ninth is refused.
pub targets_apart :
    outcome (book_of [] (0 ∷ 1 ∷ [])) go lent
    ∷ outcome (book_of [] (1 ∷ 0 ∷ [])) go lent
    ∷ outcome (book_of [] (0 ∷ 1 ∷ [])) site lent
    ∷ outcome (book_of [] (1 ∷ 1 ∷ [])) site lent
    ∷ outcome (book_of [] (replicate 7 0 ++ (1 ∷ []))) site lent
    ∷ outcome (book_of [] (0 ∷ 2 ∷ [])) site lent
    ∷ outcome (book_of [] (replicate 9 0)) site lent
    ∷ []
    ≡ expected (some (answer 0 (1 ∷ []) (1 ∷ [])))
    ∷ expected (some (answer 0 (0 ∷ []) (1 ∷ [])))
    ∷ expected (some (answer 1 (2 ∷ []) (1 ∷ [])))
    ∷ expected (some (answer 0 (2 ∷ []) (1 ∷ [])))
    ∷ expected (some (answer 7 (2 ∷ []) (1 ∷ [])))
    ∷ expected none
    ∷ record { answer = Refused too_many_targets 117; buffer = lent }
    ∷ []
unfolding every two_bytes name_byte is_name exponent_of simples_of is_worded is_entry exponent_listed same_bytes number_of body_rules record_rules first_broken add ended records_from parse even same_exponent contracts first_some linked_to first_within unlinked_at first_from first_linking first_entry first_behind first_target first_reading below small same_word words_from entries_from byte_fault word_fault entry_fault simples_in simples_of_words line_check given read_against read_parsed
targets_apart = refl

-- p ≤ o and p ≤ k. A first target below the second, and one above it; then partners that go by the target: the same choice leaves its last
-- type for o and its first for k.
abbrev below_both : List Bytes
below_both = pair_record 2 0 ∷ pair_record 2 1 ∷ []

pub targets_in_order :
    outcome (book_of below_both (2 ∷ 0 ∷ [])) ward7 lent
    ∷ outcome (book_of below_both (2 ∷ 0 ∷ [])) go lent
    ∷ outcome (book_of below_both (0 ∷ 2 ∷ [])) ward7 lent
    ∷ outcome (book_of below_both (0 ∷ 1 ∷ [])) please lent
    ∷ outcome (book_of below_both (1 ∷ 0 ∷ [])) please lent
    ∷ []
    ≡ expected (some (answer 0 (3 ∷ []) (1 ∷ [])))
    ∷ expected (some (answer 1 (1 ∷ []) (1 ∷ [])))
    ∷ expected (some (answer 0 (3 ∷ []) (1 ∷ [])))
    ∷ expected (some (answer 0 (4 ∷ []) (4 ∷ 3 ∷ 2 ∷ 1 ∷ 5 ∷ [])))
    ∷ expected (some (answer 0 (4 ∷ []) (1 ∷ 5 ∷ 4 ∷ 3 ∷ 2 ∷ [])))
    ∷ []
unfolding every two_bytes name_byte is_name exponent_of simples_of is_worded is_entry exponent_listed same_bytes number_of body_rules record_rules first_broken add ended records_from parse even same_exponent contracts first_some linked_to first_within unlinked_at first_from first_linking first_entry first_behind first_target first_reading below small same_word words_from entries_from byte_fault word_fault entry_fault simples_in simples_of_words line_check given read_against read_parsed
targets_in_order = refl

-- An answer of one word and one simple type takes five values.
pub one_value_too_few :
    outcome (book_of [] (0 ∷ 1 ∷ [])) site (replicate 4 7) ∷ outcome (book_of [] (0 ∷ 1 ∷ [])) site (replicate 5 7) ∷ []
    ≡ record { answer = Refused buffer_too_short 5; buffer = replicate 4 7 } ∷ record { answer = Ok 5; buffer = 1 ∷ 1 ∷ 2 ∷ 1 ∷ 1 ∷ [] } ∷ []
unfolding every two_bytes name_byte is_name exponent_of simples_of is_worded is_entry exponent_listed same_bytes number_of body_rules record_rules first_broken add ended records_from parse even same_exponent contracts first_some linked_to first_within unlinked_at first_from first_linking first_entry first_behind first_target first_reading below small same_word words_from entries_from byte_fault word_fault entry_fault simples_in simples_of_words line_check given read_against read_parsed
one_value_too_few = refl
