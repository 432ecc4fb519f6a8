-- Rendering: a piece that was counted is written if there is room for it; and the listing by its cases: book, line and values.
use Prim.Native.Nat.{ℕ, ◌+◌, ◌≤◌, ◌<◌}
use native.Mathlib.Omega.{arith}
use mathlib.Core.Path.{◌≡◌, refl, sym, ap, ◌∙◌}
use mathlib.Core.Bool.{Bool, true, false}
use mathlib.Core.List.{List, ◌++◌, map}
use lib.ListN.{length, take, drop, length-map}
use lib.Seq.{sets-eq}
use Rattle.pregroup.specs.Order.{Relation}
use Rattle.pregroup.specs.Tests.{Test, Decides}
use Rattle.pregroup.specs.Held.{held, in_rows}
use Rattle.pregroup.proofs.LinkKinds.{rows_decide}
use Rattle.linking.specs.Reading.{target_at}
use Rattle.letters.specs.Letters.{letters as lettersOf}
use Rattle.letters.proofs.LetterTheorems.{letters_agree}
use Rattle.format.specs.Records.{Bytes, bodies_at}
use Rattle.book.specs.Format.{Book, accepted, refused, parse}
use Rattle.book.specs.Kept.{entry_from}
use Rattle.lookup.specs.Entries.{Lexicon}
use Rattle.line.specs.LineWords.{words_of}
use Rattle.line.specs.Split.{SplitInto, Stopped, at_byte, at_word}
use Rattle.line.proofs.LineLaws.{words_length}
use Rattle.answer.specs.Parts.{target_part, entries_part, partners_part}
use Rattle.answer.proofs.PartLaws.{Narrow, target_narrow, entries_narrow, partners_narrow}
use Rattle.opening.specs.Open.{Open}
use Rattle.printing.specs.Rows.{refusal_row}
use Rattle.listing.specs.Listing.{joined, listed_type, listed_letters, answer_rows, listed, Renders}
use Rattle.std.specs.Prelude.{Ok, Err}
use Rattle.printing.specs.Kept.{kept_rows}
use Rattle.writing.specs.Placed.{Countable, Placed}
use Rattle.listing.proofs.Bounds.{shown_countable}

-- The piece was counted, with no room at all, and is then put where there is room.
pub renders_written : (piece text : Bytes) {after : Bytes} {needed behind : ℕ} → needed ≡ 0 + length piece → needed ≤ length text
    → Placed text 0 piece after behind → Renders piece text (Ok needed) after
renders_written piece text size room p =
    let start : 0 + length piece ≡ length piece = omega arith in
    (size ∙ start, omega arith, p.put ∙ sets-eq piece text 0 (omega arith) ∙ ap (λ (n : ℕ). piece ++ drop n text) start)

pub renders_short : (piece text : Bytes) {needed : ℕ} → needed ≡ 0 + length piece → length text < needed → Renders piece text (Err (record { needed = needed })) text
renders_short piece text size short = (omega arith, omega arith, refl)

pub book_refused : (book line : Bytes) (values : List ℕ) (number value : ℕ) → parse book ≡ refused number value → refusal_row number value ≡ listed book line values
book_refused book line values number value e = rw e

module _ (book line : Bytes) (values : List ℕ) {B : Book} (parsed : parse book ≡ accepted B) where
  pub line_stopped : {number value : ℕ} → Stopped line number value → refusal_row number value ≡ listed book line values
  line_stopped (at_byte e) = rw (parsed, e)
  line_stopped (at_word e f) = rw (parsed, e, f)

  line_split : {starts ends : List ℕ} → SplitInto line starts ends → answer_rows B (words_of line) values ≡ listed book line values
  line_split s = rw (parsed, s.bytes_fine, s.words_fine)

-- Two tests that decide one relation agree.
tests_agree : {le le' : Test} {Le : Relation} → Decides le Le → Decides le' Le → (a b : ℕ) → le a b ≡ le' a b
tests_agree {le} {le'} d d' a b = by (le a b) (le' a b) (λ h. (d' a b).1 ((d a b).0 h)) (λ h. (d a b).1 ((d' a b).0 h))
  where
    by : (x y : Bool) → (x ≡ true → y ≡ true) → (y ≡ true → x ≡ true) → x ≡ y
    by true y f g = sym (f refl)
    by false true f g = g refl
    by false false f g = refl

-- What an open book keeps of its entries.
module _ {book : Bytes} {names entries alike order targets : List ℕ} {B : Book} (o : Open book names entries alike order targets B) where
  entries_kept : B.entries ≡ map (entry_from book (bodies_at book names (length order))) entries
  entries_kept = o.kept.all ∙ ap (λ (all : List Bytes). map (entry_from book all) entries) o.type_names

  pub lexicon_kept : Lexicon book (bodies_at book names (length order)) entries
  lexicon_kept = rw (← o.type_names) o.kept.lexicon

-- What the code makes of an open book, a split line and values: the string and its letters are those that are listed, and so are the rows.
module _ {book : Bytes} {names entries alike order targets : List ℕ} {B : Book}
    (o : Open book names entries alike order targets B) {line : Bytes} {starts ends : List ℕ} (s : SplitInto line starts ends)
    (values string letters : List ℕ) (spells : map held string ≡ joined (map (entry_from book (bodies_at book names (length order))) entries) (take (length starts) (entries_part values))) where
  string_listed : map held string ≡ listed_type B (words_of line) (entries_part values)
  string_listed = rw (entries_kept o, words_length line starts ends s) spells

  -- The values are narrow, so that the places of their rows can be counted.
  pub kept_countable : Narrow values → Countable 0 (kept_rows book names (length order) line values string letters)
  kept_countable narrow =
      let entries = entries_narrow values narrow in
      let partners = partners_narrow values narrow in
      rw (string_listed, ← o.type_names)
      (shown_countable book B o.parsed (words_of line) s.words_fine (entries_part values) (target_part values) letters (partners_part values) (target_narrow values narrow)
      entries.0 partners.0 (omega (arith, entries.1)) (omega (arith, partners.1)))

  module _ {goal : ℕ} (is : goal ≡ target_at targets (target_part values))
      (told : letters ≡ lettersOf (in_rows order) goal (map held string) (partners_part values) (length string)) where
    letters_listed : letters ≡ listed_letters B (target_part values) (listed_type B (words_of line) (entries_part values)) (partners_part values)
    letters_listed =
        let many : length string ≡ length (map held string) = sym (length-map string held) in
        rw (o.chosen, ← is, ← string_listed, ← many)
        (told ∙ letters_agree goal (map held string) (partners_part values) (tests_agree (rows_decide order) o.decides) (length string))

    pub kept_listed : kept_rows book names (length order) line values string letters ≡ listed book line values
    kept_listed = rw (letters_listed, string_listed, ← o.type_names) (line_split book line values o.parsed s)
