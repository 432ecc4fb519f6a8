-- The listing at work, by evaluation: an exponent, the paper's first case byte for byte, and a refusal.
use Prim.Native.Nat.{ℕ}
use mathlib.Core.Path.{◌≡◌, refl}
use mathlib.Core.List.{List, [], ◌∷◌, ◌++◌}
use lib.IntN.{negsuc}
use Rattle.pregroup.specs.Types.{even}
use Rattle.pregroup.specs.Tests.{same_exponent, contracts, link_kind}
use Rattle.order.specs.Closed.{below}
use Rattle.letters.specs.Letters.{e, t, letters}
use Rattle.format.specs.Records.{every, two_bytes, same_bytes}
use Rattle.format.specs.Names.{name_byte, is_name, number_of}
use Rattle.rules.specs.Layouts.{exponent_of, simples_of, is_worded, is_entry}
use Rattle.rules.specs.Rules.{exponent_listed, body_rules, record_rules, first_broken}
use Rattle.book.specs.Format.{add, ended, records_from, parse}
use Rattle.book.proofs.PaperBooks.{first_book}
use Rattle.line.specs.LineWords.{words_from}
use Rattle.line.specs.LineFaults.{byte_fault, word_fault}
use Rattle.std.specs.Prelude.{Ok}
use Rattle.figures.specs.Refusals.{Refused}
use Rattle.writing.specs.Decimal.{last_digits}
use Rattle.printing.specs.Text.{signed, row}
use Rattle.printing.specs.Rows.{word_rows, type_rows}
use Rattle.listing.specs.Listing.{joined, listing}

minus_8 : signed (negsuc 7) ≡ 45 ∷ 56 ∷ []
unfolding last_digits
minus_8 = refl

-- "fetch bed4 ward7": the rows that document 01 shows, for its answer with a value behind it, and the letters: `t` in the rows of w and u.
abbrev fetch_bed4_ward7 : List ℕ
fetch_bed4_ward7 = 102 ∷ 101 ∷ 116 ∷ 99 ∷ 104 ∷ 32 ∷ 98 ∷ 101 ∷ 100 ∷ 52 ∷ 32 ∷ 119 ∷ 97 ∷ 114 ∷ 100 ∷ 55 ∷ []

first_case : listing first_book fetch_bed4_ward7 (Ok 11) (0 ∷ 3 ∷ 1 ∷ 2 ∷ 3 ∷ 5 ∷ 1 ∷ 5 ∷ 4 ∷ 3 ∷ 2 ∷ 7 ∷ []) ≡
    (121 ∷ 101 ∷ 115 ∷ 32 ∷ 51 ∷ 32 ∷ 53 ∷ 32 ∷ 48 ∷ 10 ∷ [])
    ++ (49 ∷ 32 ∷ 102 ∷ 101 ∷ 116 ∷ 99 ∷ 104 ∷ 32 ∷ 49 ∷ 10 ∷ [])
    ++ (50 ∷ 32 ∷ 98 ∷ 101 ∷ 100 ∷ 52 ∷ 32 ∷ 50 ∷ 10 ∷ [])
    ++ (51 ∷ 32 ∷ 119 ∷ 97 ∷ 114 ∷ 100 ∷ 55 ∷ 32 ∷ 51 ∷ 10 ∷ [])
    ++ (49 ∷ 32 ∷ 111 ∷ 32 ∷ 48 ∷ 32 ∷ 49 ∷ 32 ∷ e ∷ 10 ∷ [])
    ++ (50 ∷ 32 ∷ 119 ∷ 32 ∷ 45 ∷ 49 ∷ 32 ∷ 53 ∷ 32 ∷ t ∷ 10 ∷ [])
    ++ (51 ∷ 32 ∷ 112 ∷ 32 ∷ 45 ∷ 49 ∷ 32 ∷ 52 ∷ 32 ∷ e ∷ 10 ∷ [])
    ++ (52 ∷ 32 ∷ 112 ∷ 32 ∷ 48 ∷ 32 ∷ 51 ∷ 32 ∷ e ∷ 10 ∷ [])
    ++ (53 ∷ 32 ∷ 117 ∷ 32 ∷ 48 ∷ 32 ∷ 50 ∷ 32 ∷ t ∷ 10 ∷ [])
unfolding last_digits row word_rows type_rows joined letters link_kind contracts same_exponent even below every two_bytes name_byte is_name exponent_of simples_of is_worded is_entry exponent_listed same_bytes number_of body_rules record_rules first_broken add ended records_from parse words_from byte_fault word_fault
first_case = refl

-- "no 16 7".
refusal : listing first_book [] (Refused 16 7) [] ≡ 110 ∷ 111 ∷ 32 ∷ 49 ∷ 54 ∷ 32 ∷ 55 ∷ 10 ∷ []
unfolding last_digits row
refusal = refl
