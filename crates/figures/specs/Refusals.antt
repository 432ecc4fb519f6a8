-- Document 01, "When the screen says no": the number of each refusal, and the form in which the paper gives an answer. `src/refusals.rt` has
-- the same numbers.
use Rattle.std.specs.Prelude.{ℕ, List, [], ◌∷◌, Result, Ok, Err}
use Rattle.figures.specs.declared.refusals.Cause.{Cause}
use Rattle.figures.specs.declared.refusals.Cause.TheVariants.{BookTooLong, CutShort, KindNotListed, BadLayout, UndeclaredType, ExponentOutside, NameUsed, TooManyTargets, TooManyRecords, NoTarget, BadLineByte, BadWord, UnknownWord, TooManySimples, NoReading, BufferTooShort, BadBatch, AnswersTooLong, BracketsTooDeep, NotAType, TypeTooLong}
use Rattle.figures.specs.declared.refusals.Refusal.{Refusal}

-- An answer as the paper gives it: 0 and the values of a success, or the number of a refusal and the value returned with it.
pub record Reply : Type 0 where
  pub number : ℕ
  pub values : List ℕ

-- The answer of a refusal.
abbrev pub refusal : ℕ → ℕ → Reply
refusal number value = record { number = number; values = value ∷ [] }

-- Book over 65,535 bytes.
abbrev pub book_too_long : ℕ
book_too_long = 1

-- Head or body cut short.
abbrev pub cut_short : ℕ
cut_short = 2

-- Kind not listed.
abbrev pub kind_not_listed : ℕ
kind_not_listed = 3

-- Body not of its kind's layout.
abbrev pub bad_layout : ℕ
bad_layout = 4

-- Type number not declared by an earlier record.
abbrev pub undeclared_type : ℕ
undeclared_type = 5

-- Exponent outside −8 to 8.
abbrev pub exponent_outside : ℕ
exponent_outside = 6

-- Type name used before.
abbrev pub name_used : ℕ
name_used = 7

-- Ninth target.
abbrev pub too_many_targets : ℕ
too_many_targets = 8

-- 65th basic type or 1,025th entry.
abbrev pub too_many_records : ℕ
too_many_records = 9

-- Book ends without a target.
abbrev pub no_target : ℕ
no_target = 10

-- Line byte outside 32 to 126.
abbrev pub bad_line_byte : ℕ
bad_line_byte = 11

-- Word over 31 bytes, or a 25th word.
abbrev pub bad_word : ℕ
bad_word = 12

-- Word without an entry.
abbrev pub unknown_word : ℕ
unknown_word = 13

-- Over 512 simple types.
abbrev pub too_many_simples : ℕ
too_many_simples = 14

-- No reading.
abbrev pub no_reading : ℕ
no_reading = 15

-- Answer buffer too short.
abbrev pub buffer_too_short : ℕ
buffer_too_short = 16

-- Batch of over 32 lines or over 65,535 bytes, or with a last line that is not closed.
abbrev pub bad_batch : ℕ
bad_batch = 17

-- Answers of a batch do not fit.
abbrev pub answers_too_long : ℕ
answers_too_long = 18

-- Brackets of a text open by more than six.
abbrev pub brackets_too_deep : ℕ
brackets_too_deep = 19

-- Text that is no type.
abbrev pub not_a_type : ℕ
not_a_type = 20

-- Text of over 12 simple types.
abbrev pub type_too_long : ℕ
type_too_long = 21

-- The number of a cause.
abbrev pub number_of : Cause → ℕ
number_of BookTooLong = book_too_long
number_of CutShort = cut_short
number_of KindNotListed = kind_not_listed
number_of BadLayout = bad_layout
number_of UndeclaredType = undeclared_type
number_of ExponentOutside = exponent_outside
number_of NameUsed = name_used
number_of TooManyTargets = too_many_targets
number_of TooManyRecords = too_many_records
number_of NoTarget = no_target
number_of BadLineByte = bad_line_byte
number_of BadWord = bad_word
number_of UnknownWord = unknown_word
number_of TooManySimples = too_many_simples
number_of NoReading = no_reading
number_of BufferTooShort = buffer_too_short
number_of BadBatch = bad_batch
number_of AnswersTooLong = answers_too_long
number_of BracketsTooDeep = brackets_too_deep
number_of NotAType = not_a_type
number_of TypeTooLong = type_too_long

-- The number of the fault that a check found, or 0 where it found none.
abbrev pub fault_number : Result Unit Cause → ℕ
fault_number (Ok _) = 0
fault_number (Err cause) = number_of cause

-- A refusal with this number and value, where a call could have given an A.
abbrev pub Refused : {A : Type 0} → ℕ → ℕ → Result A Refusal
Refused number value = Err (record { number = number; value = value })
