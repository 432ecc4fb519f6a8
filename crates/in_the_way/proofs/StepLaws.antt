-- From what reading a line gives to what is returned of the words in the way.
use Prim.Native.Nat.{ℕ}
use native.Mathlib.Omega.{arith}
use mathlib.Core.Path.{◌≡◌, refl, sym, ap, subst, ◌∙◌}
use mathlib.Core.Logic.{⊎_elim}
use mathlib.Core.List.{List}
use lib.ListN.{length}
use Rattle.figures.specs.Refusals.{no_reading, Refused}
use Rattle.pregroup.specs.Types.{Basic}
use Rattle.order.specs.Closed.{below}
use Rattle.format.specs.Records.{Bytes}
use Rattle.book.specs.Format.{Book, accepted, refused, parse}
use Rattle.linking.specs.Reading.{Words}
use Rattle.line.specs.LineFaults.{passed, stopped, line_check}
use Rattle.answer.specs.Answers.{Gives, LineAnswer}
use Rattle.reader.specs.Outcome.{outcome}
use Rattle.std.specs.Prelude.{Ok}
use Rattle.reader.proofs.Given.{gives_book_refused, gives_line_refused}
use Rattle.reader.proofs.Refusals.{NamedParse, parse_named, NamedLine, line_named}
use Rattle.in_the_way.specs.declared.WayAnswer.{WayAnswer}
use Rattle.in_the_way.specs.declared.WayAnswer.TheVariants.{Ordinary, NoReading}
use Rattle.left_out.specs.LeftOut.{way_of}
use Rattle.in_the_way.specs.Way.{way_parsed, way_against, told, way_outcome}
use Rattle.in_the_way.proofs.WayPromises.{told_fifteen, told_other, told_read}

module _ (book line : Bytes) (before : List ℕ) where
  abbrev way : ℕ
  way = way_parsed (parse book) line

  gives_told : {answer : LineAnswer} {r : WayAnswer} {after : List ℕ} → Gives (outcome book line before) answer after → told way answer ≡ r
      → Gives (way_outcome book line before) r after
  gives_told g e = record { returned = sym e ∙ ap (told way) g.returned; left = g.left }

  -- An answer.
  pub gives_read : {answer : LineAnswer} {n : ℕ} {after : List ℕ} → Gives (outcome book line before) answer after → answer ≡ Ok n
      → Gives (way_outcome book line before) (Ordinary answer) after
  gives_read {n = n} g e = gives_told g (ap (told way) e ∙ told_read way n ∙ ap Ordinary (sym e))

  -- A refusal with another number than 15.
  pub gives_other : {answer : LineAnswer} {number value : ℕ} {after : List ℕ} → Gives (outcome book line before) answer after → answer ≡ Refused number value
      → (number ≡ no_reading → ⊥) → Gives (way_outcome book line before) (Ordinary (Refused number value)) after
  gives_other {number = number} {value} g e d = gives_told g (ap (told way) e ∙ told_other way number value d)

  -- 15.
  pub gives_fifteen : {answer : LineAnswer} {number value words : ℕ} {after : List ℕ} → Gives (outcome book line before) answer after → answer ≡ Refused number value
      → number ≡ no_reading → way ≡ words → Gives (way_outcome book line before) (NoReading words) after
  gives_fifteen {value = value} g e f w = gives_told g (ap (told way) e ∙ ap (λ (n : ℕ). told way (Refused n value)) f ∙ told_fifteen way value ∙ ap NoReading w)

  -- A book that is refused, and a line that is.
  pub gives_bad_book : {number value : ℕ} → parse book ≡ refused number value → Gives (way_outcome book line before) (Ordinary (Refused number value)) before
  gives_bad_book e =
      let named = subst NamedParse e (parse_named book) in
      gives_other (gives_book_refused book line before e) refl (λ k. ⊎_elim (λ low. omega (arith, low.1)) (λ high. omega (arith, high.0)) named)

  pub gives_bad_line : {B : Book} {number value : ℕ} → parse book ≡ accepted B → line_check B line ≡ stopped number value
      → Gives (way_outcome book line before) (Ordinary (Refused number value)) before
  gives_bad_line {B} is-accepted l =
      let named = subst NamedLine l (line_named B line) in
      gives_other (gives_line_refused book line before is-accepted l) refl (λ k. omega (arith, named.1))

-- The number of a line that is read.
pub way_is : (book line : Bytes) {B : Book} {words : Words} {targets : List Basic} {number : ℕ} → parse book ≡ accepted B → line_check B line ≡ passed words → B.targets ≡ targets
    → number ≡ way_of (below (length B.names) B.pairs) targets words → way_parsed (parse book) line ≡ number
unfolding way_parsed way_against
way_is book line {B} {words} is-accepted l t e =
    rw (is-accepted, l) (ap (λ (s : List Basic). way_of (below (length B.names) B.pairs) s words) t ∙ sym e)
