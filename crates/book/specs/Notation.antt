-- Document 02, 2.5: when two books differ only in the notation of types, and what such books come to.
use Rattle.std.specs.Prelude.{ℕ, ◌*◌, ◌%◌, ◌≤◌, ◌≡◌, true, false, ◌++◌, length}
use Rattle.figures.specs.Limits.{max_entry_simples}
use Rattle.format.specs.Records.{Bytes, record_of}
use Rattle.notation.specs.Brackets.{too_deep}
use Rattle.notation.specs.Trees.{has_tree, text_type}
use Rattle.rules.specs.Layouts.{entry, kind_number, slashed, entry_body, simples_of}
use Rattle.book.specs.Format.{Book, Parsed, accepted, refused, add}

-- Two books, behind records that hold B, that differ only in notation: record by record they have the same bytes, or the first has an entry of
-- simple types (kind 3) and the second a slashed entry (kind 5) with the same word and the same type. What stands behind these records, a faulty
-- rest perhaps, has the same bytes. The simple types are whole and no more than 12, and the text breaks neither 19 nor 20; all else may be faulty.
pub data DifferInNotation : Book → Bytes → Bytes → Type 0 where
  same_rest : {B : Book} {rest : Bytes} → DifferInNotation B rest rest
  same_record : {B : Book} (kind : ℕ) (body : Bytes) {a b : Bytes} → DifferInNotation (add kind body B) a b
      → DifferInNotation B (record_of kind body ++ a) (record_of kind body ++ b)
  in_slashes : {B : Book} (word part text : Bytes) {a b : Bytes} → length part % 2 ≡ 0 → length part ≤ 2 * max_entry_simples
      → too_deep text ≡ false → has_tree text ≡ true → simples_of part ≡ text_type B.names text → DifferInNotation (add (kind_number entry) (entry_body word part) B) a b
      → DifferInNotation B (record_of (kind_number entry) (entry_body word part) ++ a) (record_of slashed (entry_body word text) ++ b)

-- Two books come to the same: both are accepted and hold the same, or both are refused with the same number. The values may differ, since texts
-- and simple types take different room.
pub data AlikeParsed : Parsed → Parsed → Type 0 where
  both_accepted : {B : Book} → AlikeParsed (accepted B) (accepted B)
  both_refused : {number v w : ℕ} → AlikeParsed (refused number v) (refused number w)
