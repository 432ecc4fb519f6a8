-- The format at work, by evaluation: what both books of document 01 hold and answer, a book with several targets, one with slashed entries, two that
-- differ only in notation, and a book for each refusal 1 to 10 and 19 to 21, with records that break several rules at once.
use Prim.Native.Nat.{ℕ, zero, suc, ◌+◌, ◌/◌, ◌%◌}
use native.Mathlib.Omega.{arith}
use mathlib.Core.Path.{◌≡◌, refl}
use mathlib.Core.List.{List, [], ◌∷◌, ◌++◌, map}
use lib.ListN.{replicate}
use lib.IntN.{pos, negsuc}
use Rattle.figures.specs.declared.refusals.Refusal.{Refusal}
use Rattle.std.specs.Prelude.{Result}
use Rattle.figures.specs.Refusals.{Refused}
use Rattle.bits.specs.Totals.{total}
use Rattle.pregroup.specs.Types.{PregroupType, ◌⁽◌⁾, plain, adjoint_by}
use Rattle.order.specs.Closed.{below, closed_count}
use Rattle.format.specs.Records.{Bytes, record_of, every, two_bytes, same_bytes}
use Rattle.format.specs.Names.{name_byte, is_name, name_front, name_behind, number_of}
use Rattle.notation.specs.Grammar.{meaning}
use Rattle.notation.specs.Brackets.{deep_behind}
use Rattle.notation.specs.Trees.{name_at, closed_by, closed, unit_by, joined, second_by, behind_first, unit_at, whole_by, whole, tree_of, is_some, meaning_of}
use Rattle.rules.specs.Layouts.{entry_body, exponent_of, simples_of, is_worded, is_entry}
use Rattle.rules.specs.Rules.{exponent_listed, body_rules, record_rules, first_broken}
use Rattle.book.specs.Format.{Entry, accepted, nothing_yet, add, ended, records_from, parse}
use Rattle.book.specs.Notation.{DifferInNotation, same_rest, same_record, in_slashes}
use Rattle.book.specs.Check.{Accepted, book_check, AcceptedCounts, Cause}
use Rattle.book.specs.declared.BookCheck.{BookCheck}
use Rattle.book.proofs.Promises.{check_promised}
use Rattle.book.proofs.PaperBooks.{type_record, pair_record, entry_record, slashed_record, target_record, fetch, bed4, ward7, urgently, admit, site, go, please, first_book, second_book}

abbrev entry : Bytes → PregroupType → Entry
entry word type = record { word = word; type = type }

-- The contents of the first book.
contents : parse first_book ≡ accepted (record {
  names = (111 ∷ []) ∷ (112 ∷ []) ∷ (119 ∷ []) ∷ (117 ∷ []) ∷ [];
  pairs = record { lower = 3; upper = 2 } ∷ [];
  entries =
      entry fetch (plain 0 ∷ 1 ⁽ negsuc 0 ⁾ ∷ [])
      ∷ entry fetch (plain 0 ∷ 2 ⁽ negsuc 0 ⁾ ∷ 1 ⁽ negsuc 0 ⁾ ∷ [])
      ∷ entry bed4 (plain 1 ∷ [])
      ∷ entry ward7 (plain 3 ∷ [])
      ∷ entry urgently (0 ⁽ pos 1 ⁾ ∷ plain 0 ∷ [])
      ∷ entry admit (plain 0 ∷ 3 ⁽ negsuc 0 ⁾ ∷ [])
      ∷ entry site (plain 2 ∷ [])
      ∷ entry go (plain 0 ∷ [])
      ∷ entry please (plain 0 ∷ 0 ⁽ negsuc 0 ⁾ ∷ [])
      ∷ [];
  targets = 0 ∷ [];
})
unfolding every two_bytes name_byte is_name exponent_of simples_of is_worded is_entry exponent_listed same_bytes number_of deep_behind name_front name_behind name_at closed_by closed unit_by joined second_by behind_first unit_at whole_by whole tree_of is_some adjoint_by meaning meaning_of body_rules record_rules first_broken add ended records_from parse
contents = refl

-- Two types, a and b.
abbrev ab : Bytes
ab = type_record (97 ∷ []) ++ type_record (98 ∷ [])

-- Targets are held in their order, equal ones too.
targets_in_order : parse (ab ++ target_record 1 ++ target_record 0 ++ target_record 1 ++ target_record 1) ≡ accepted (record {
  names = (97 ∷ []) ∷ (98 ∷ []) ∷ [];
  pairs = [];
  entries = [];
  targets = 1 ∷ 0 ∷ 1 ∷ 1 ∷ [];
})
unfolding every two_bytes name_byte is_name exponent_of simples_of is_worded is_entry exponent_listed same_bytes number_of deep_behind name_front name_behind name_at closed_by closed unit_by joined second_by behind_first unit_at whole_by whole tree_of is_some adjoint_by meaning meaning_of body_rules record_rules first_broken add ended records_from parse
targets_in_order = refl

-- Texts: x/y, x\y, and (x).
infixl 60 ◌⟋◌ ◌⟍◌
abbrev ◌⟋◌ : Bytes → Bytes → Bytes
x ⟋ y = x ++ (47 ∷ y)

abbrev ◌⟍◌ : Bytes → Bytes → Bytes
x ⟍ y = x ++ (92 ∷ y)

abbrev ⦅◌⦆ : Bytes → Bytes
⦅ x ⦆ = 40 ∷ (x ++ (41 ∷ []))

-- The names a and b, one that is not declared, and units of four and of eight names.
abbrev a : Bytes
a = 97 ∷ []

abbrev b : Bytes
b = 98 ∷ []

abbrev undeclared : Bytes
undeclared = 99 ∷ []

abbrev four : Bytes
four = ⦅ ⦅ a ⟋ a ⦆ ⟋ ⦅ a ⟋ a ⦆ ⦆

abbrev eight : Bytes
eight = ⦅ four ⟋ four ⦆

-- Both kinds of entries are held in one order, and a name that is declared later changes no type before it.
slashed_in_order : parse (ab ++ slashed_record go (⦅ b ⟍ a ⦆ ⟋ b) ++ entry_record go (0 ∷ 0 ∷ []) ++ type_record undeclared ++ target_record 0 ++ slashed_record go undeclared) ≡ accepted (record {
  names = a ∷ b ∷ undeclared ∷ [];
  pairs = [];
  entries = entry go (1 ⁽ pos 1 ⁾ ∷ plain 0 ∷ 1 ⁽ negsuc 0 ⁾ ∷ []) ∷ entry go (plain 0 ∷ []) ∷ entry go (plain 2 ∷ []) ∷ [];
  targets = 0 ∷ [];
})
unfolding every two_bytes name_byte is_name exponent_of simples_of is_worded is_entry exponent_listed same_bytes number_of deep_behind name_front name_behind name_at closed_by closed unit_by joined second_by behind_first unit_at whole_by whole tree_of is_some adjoint_by meaning meaning_of body_rules record_rules first_broken add ended records_from parse
slashed_in_order = refl

-- Two books that differ only in notation: the type of one entry, b^r a b^l, stands once as simple types and once as (b\a)/b.
two_notations :
    DifferInNotation nothing_yet (ab ++ entry_record go (1 ∷ 1 ∷ 0 ∷ 0 ∷ 1 ∷ 255 ∷ []) ++ target_record 0) (ab ++ slashed_record go (⦅ b ⟍ a ⦆ ⟋ b) ++ target_record 0)
unfolding exponent_of simples_of name_byte is_name every same_bytes number_of deep_behind name_front name_behind name_at closed_by closed unit_by joined second_by behind_first unit_at whole_by whole tree_of is_some adjoint_by meaning meaning_of add
two_notations =
    same_record 1 a
    (same_record 1 b (in_slashes go (1 ∷ 1 ∷ 0 ∷ 0 ∷ 1 ∷ 255 ∷ []) (⦅ b ⟍ a ⦆ ⟋ b) refl (omega arith) refl refl refl same_rest))

-- A book, and what its check answers.
abbrev Row : Type 0
Row = Bytes × Result BookCheck Refusal

-- As many basic types as wanted, with names of a letter and two digits.
types_of : ℕ → Bytes
types_of zero = []
types_of (suc n) = types_of n ++ type_record (97 ∷ (48 + n / 10) ∷ (48 + n % 10) ∷ [])

-- As many targets as wanted, all of them a.
targets_of : ℕ → Bytes
targets_of zero = []
targets_of (suc n) = targets_of n ++ target_record 0

abbrev rows : List Row
rows =
    (first_book, Accepted 4 9 5)
    ∷ (second_book, Accepted 5 10 6)
    -- 1: over 65,535 bytes, whatever they are
    ∷ (replicate 65536 0, Refused 1 0)
    -- 2: three bytes of a head; a body one byte short, of an unlisted kind
    ∷ (ab ++ (1 ∷ 0 ∷ 4 ∷ []), Refused 2 10)
    ∷ (ab ++ (2 ∷ 0 ∷ 9 ∷ 0 ∷ 0 ∷ []), Refused 2 10)
    -- 3: kinds 0, 6 and 257; both bytes of the kind count
    ∷ (record_of 0 [], Refused 3 0)
    ∷ (record_of 6 (entry_body go a), Refused 3 0)
    ∷ (ab ++ record_of 257 (99 ∷ []), Refused 3 10)
    -- 4: a name that starts with a digit; a pair of three bytes; 13 simple types, one of them undeclared and one with a bad exponent; a ninth
    -- target with an empty body
    ∷ (type_record (57 ∷ 97 ∷ []), Refused 4 0)
    ∷ (ab ++ record_of 2 (0 ∷ 1 ∷ 0 ∷ []), Refused 4 10)
    ∷ (ab ++ entry_record go (9 ∷ 0 ∷ 0 ∷ 100 ∷ replicate 22 0), Refused 4 10)
    ∷ (ab ++ targets_of 8 ++ record_of 4 [], Refused 4 50)
    -- 5: a pair with an undeclared type; an entry whose first exponent is bad and whose last type is undeclared; an undeclared ninth target
    ∷ (ab ++ pair_record 0 2, Refused 5 10)
    ∷ (ab ++ entry_record go (0 ∷ 9 ∷ 2 ∷ 0 ∷ []), Refused 5 10)
    ∷ (ab ++ targets_of 8 ++ target_record 2, Refused 5 50)
    -- 6: exponents 9 and −9; 8 and −8 pass
    ∷ (ab ++ entry_record go (0 ∷ 0 ∷ 0 ∷ 9 ∷ []), Refused 6 10)
    ∷ (ab ++ entry_record go (0 ∷ 247 ∷ []), Refused 6 10)
    ∷ (ab ++ target_record 1 ++ entry_record go (0 ∷ 8 ∷ 0 ∷ 248 ∷ []), Accepted 2 1 2)
    -- 7: a name used before, also by the 65th type
    ∷ (ab ++ type_record (98 ∷ []), Refused 7 10)
    ∷ (types_of 64 ++ type_record (97 ∷ 48 ∷ 48 ∷ []), Refused 7 448)
    -- 8: a ninth target, also one of the eight again; eight pass
    ∷ (ab ++ targets_of 9, Refused 8 50)
    ∷ (ab ++ targets_of 8 ++ target_record 1, Refused 8 50)
    ∷ (ab ++ targets_of 8, Accepted 2 0 2)
    -- 9: a 65th basic type
    ∷ (types_of 65 ++ target_record 0, Refused 9 448)
    -- 10: no target; its value is the book's length
    ∷ ([], Refused 10 0)
    ∷ (ab, Refused 10 10)
    -- 19: seven brackets open at once; six pass
    ∷ (ab ++ slashed_record go (replicate 7 40 ++ a ++ replicate 7 41), Refused 19 10)
    ∷ (ab ++ target_record 0 ++ slashed_record go (replicate 6 40 ++ a ++ replicate 6 41), Accepted 2 1 2)
    -- 20: no text at all; two slashes without brackets
    ∷ (ab ++ slashed_record go [], Refused 20 10)
    ∷ (ab ++ slashed_record go (a ⟋ b ⟋ a), Refused 20 10)
    -- 5: a name that is not declared, or not yet
    ∷ (ab ++ slashed_record go (a ⟋ undeclared), Refused 5 10)
    ∷ (type_record a ++ slashed_record go b ++ type_record b, Refused 5 5)
    -- 21: 13 simple types; 12 pass
    ∷ (ab ++ slashed_record go (eight ⟋ ⦅ four ⟋ a ⦆), Refused 21 10)
    ∷ (ab ++ target_record 0 ++ slashed_record go (eight ⟋ four), Accepted 2 1 2)
    -- several faults of a slashed entry: no word before 19, 19 before 20, 20 before 5, and 5 before 21
    ∷ (ab ++ slashed_record [] (replicate 7 40), Refused 4 10)
    ∷ (ab ++ slashed_record go (replicate 7 40), Refused 19 10)
    ∷ (ab ++ slashed_record go (undeclared ⟋ []), Refused 20 10)
    ∷ (ab ++ slashed_record go (eight ⟋ ⦅ four ⟋ undeclared ⦆), Refused 5 10)
    -- the earliest bad record decides; pairs count wherever they stand, cycles and repeats too
    ∷ (ab ++ record_of 9 [] ++ type_record [], Refused 3 10)
    ∷ (ab ++ target_record 0 ++ pair_record 0 1 ++ pair_record 1 0 ++ pair_record 1 0, Accepted 2 0 4)
    ∷ []

evaluated : map (λ (r : Row). book_check r.0) rows ≡ map (λ (r : Row). r.1) rows
unfolding every two_bytes name_byte is_name exponent_of simples_of is_worded is_entry exponent_listed same_bytes number_of deep_behind name_front name_behind name_at closed_by closed unit_by joined second_by behind_first unit_at whole_by whole tree_of is_some adjoint_by meaning meaning_of body_rules record_rules first_broken add ended records_from parse below closed_count total types_of targets_of
evaluated = refl

-- What the promises say of them. The first book is accepted with its three values: four types, nine entries, and the five pairs of its closed
-- order, counted in the closure itself.
first_counted : AcceptedCounts first_book (4 ∷ 9 ∷ 5 ∷ [])
unfolding every two_bytes name_byte is_name exponent_of simples_of is_worded is_entry exponent_listed same_bytes number_of deep_behind name_front name_behind name_at closed_by closed unit_by joined second_by behind_first unit_at whole_by whole tree_of is_some adjoint_by meaning meaning_of body_rules record_rules first_broken add ended records_from parse below closed_count total
first_counted = (check_promised first_book).counts refl

second_counted : AcceptedCounts second_book (5 ∷ 10 ∷ 6 ∷ [])
unfolding every two_bytes name_byte is_name exponent_of simples_of is_worded is_entry exponent_listed same_bytes number_of deep_behind name_front name_behind name_at closed_by closed unit_by joined second_by behind_first unit_at whole_by whole tree_of is_some adjoint_by meaning meaning_of body_rules record_rules first_broken add ended records_from parse below closed_count total
second_counted = (check_promised second_book).counts refl

-- 5 and not 6 is the cause for an entry with a bad exponent and, behind it, an undeclared type.
undeclared_first : Cause (ab ++ entry_record go (0 ∷ 9 ∷ 2 ∷ 0 ∷ [])) 5 10
unfolding every two_bytes name_byte is_name exponent_of simples_of is_worded is_entry exponent_listed same_bytes number_of deep_behind name_front name_behind name_at closed_by closed unit_by joined second_by behind_first unit_at whole_by whole tree_of is_some adjoint_by meaning meaning_of body_rules record_rules first_broken add ended records_from parse
undeclared_first = ((check_promised (ab ++ entry_record go (0 ∷ 9 ∷ 2 ∷ 0 ∷ []))).refuses 5 10).0 refl

-- 19 and not 20 is the cause for a text that is too deep and no type, and 5, whose rule comes first, and not 21 for one that is too long and has an
-- undeclared name.
depth_first : Cause (ab ++ slashed_record go (replicate 7 40)) 19 10
unfolding every two_bytes name_byte is_name exponent_of simples_of is_worded is_entry exponent_listed same_bytes number_of deep_behind name_front name_behind name_at closed_by closed unit_by joined second_by behind_first unit_at whole_by whole tree_of is_some adjoint_by meaning meaning_of body_rules record_rules first_broken add ended records_from parse
depth_first = ((check_promised (ab ++ slashed_record go (replicate 7 40))).refuses 19 10).0 refl

names_first : Cause (ab ++ slashed_record go (eight ⟋ ⦅ four ⟋ undeclared ⦆)) 5 10
unfolding every two_bytes name_byte is_name exponent_of simples_of is_worded is_entry exponent_listed same_bytes number_of deep_behind name_front name_behind name_at closed_by closed unit_by joined second_by behind_first unit_at whole_by whole tree_of is_some adjoint_by meaning meaning_of body_rules record_rules first_broken add ended records_from parse
names_first = ((check_promised (ab ++ slashed_record go (eight ⟋ ⦅ four ⟋ undeclared ⦆))).refuses 5 10).0 refl
