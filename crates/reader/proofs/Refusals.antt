-- The numbers of refusals: a book's are from 1 to 10 and from 19 to 21, a line's before it is read from 11 to 14. So 0 can stand for success.
use Prim.Native.Nat.{ℕ, ◌≤◌, ◌<◌}
use native.Mathlib.Omega.{arith}
use mathlib.Core.Bool.{Bool, true, false, cond}
use mathlib.Core.Option.{Option, none, some}
use lib.Dec.{ltb}
use Rattle.figures.specs.Limits.{max_line_simples}
use Rattle.figures.specs.Refusals.{no_target, bad_line_byte, bad_word, unknown_word, too_many_simples, buffer_too_short, type_too_long}
use mathlib.Core.Path.{◌≡◌}
use mathlib.Core.Logic.{⊎_elim}
use Rattle.book.specs.Check.{BookNumber}
use Rattle.reader.specs.Demands.{LineNumber}
use Rattle.format.specs.Records.{Bytes}
use Rattle.book.specs.Format.{Book, Parsed, accepted, refused, parse}
use Rattle.book.proofs.Parsing.{Comes, whole, stopped as parsed-refused, parse_comes}
use Rattle.book.proofs.Promises.{cause_within}
use Rattle.line.specs.LineWords.{words_of}
use Rattle.line.specs.LineFaults.{LineCheck, passed, stopped, line_check, or_else, byte_fault, word_fault, entry_fault, entries_of_line}
use Rattle.lookup.specs.Entries.{simples_of_words}

pub book_some : {n : ℕ} → BookNumber n → 0 < n
book_some named = ⊎_elim (λ low. omega (arith, low.0)) (λ high. omega (arith, high.0)) named

pub book_not_short : {n : ℕ} → BookNumber n → n ≡ buffer_too_short → ⊥
book_not_short named e = ⊎_elim (λ low. omega (arith, low.1)) (λ high. omega (arith, high.0)) named

pub line_some : {n : ℕ} → LineNumber n → 0 < n
line_some named = ⊎_elim book_some (λ late. omega (arith, late.0)) named

pub line_small : {n : ℕ} → LineNumber n → n ≤ type_too_long
line_small named = ⊎_elim (λ early. ⊎_elim (λ low. omega (arith, low.1)) (λ high. high.1) early) (λ late. omega (arith, late.1)) named

-- Whatever a test says, a property holds that both of its sides have.
either_side : {A : Type 0} (P : A → Type 0) (b : Bool) (x y : A) → P x → P y → P (cond b x y)
either_side P true x y p q = p
either_side P false x y p q = q

abbrev pub NamedParse : Parsed → Type 0
NamedParse (accepted B) = Unit {0}
NamedParse (refused number value) = BookNumber number

comes_named : {bytes : Bytes} {p : Parsed} → Comes bytes p → NamedParse p
comes_named (whole short good targets) = tt
comes_named (parsed-refused cause) = cause_within cause

pub parse_named : (bytes : Bytes) → NamedParse (parse bytes)
parse_named bytes = comes_named (parse_comes bytes)

abbrev pub NamedLine : LineCheck → Type 0
NamedLine (passed words) = Unit {0}
NamedLine (stopped number value) = (no_target < number) × (number ≤ too_many_simples)

or_else_named : (number : ℕ) (found : Option ℕ) (next : LineCheck) → (no_target < number) × (number ≤ too_many_simples) → NamedLine next → NamedLine (or_else number found next)
or_else_named number none next named rest = rest
or_else_named number (some value) next named rest = named

pub line_named : (B : Book) (line : Bytes) → NamedLine (line_check B line)
unfolding line_check
line_named B line =
    let words = words_of line in
    let simples = simples_of_words (entries_of_line B line) in
    or_else_named bad_line_byte (byte_fault 0 line) _ (omega arith)
    (or_else_named bad_word (word_fault 0 words) _ (omega arith)
    (or_else_named unknown_word (entry_fault B words) _ (omega arith) (either_side NamedLine (ltb max_line_simples simples) (stopped too_many_simples 0) (passed (entries_of_line B line)) (omega arith) tt)))
