-- Document 02, 2.1: books that spell their words in other letters.
use Rattle.std.specs.Prelude.{ℕ, ◌≡◌, true, ◌++◌}
use Rattle.format.specs.Records.{Bytes, record_of}
use Rattle.rules.specs.Layouts.{EntryKind, entry_body}
use Rattle.capitals.specs.Capitals.{same_word}

-- Two books that differ only in the case of their entries' words: record by record they have the same bytes, or are entries of one kind and of the
-- same word, with the same bytes as their type. What stands behind these records, a faulty rest perhaps, has the same bytes.
pub data DifferInCase : Bytes → Bytes → Type 0 where
  same_rest : {rest : Bytes} → DifferInCase rest rest
  same_record : (kind : ℕ) (body : Bytes) {a b : Bytes} → DifferInCase a b → DifferInCase (record_of kind body ++ a) (record_of kind body ++ b)
  respelt : {kind : ℕ} → EntryKind kind → (v w type : Bytes) {a b : Bytes} → same_word v w ≡ true → DifferInCase a b
      → DifferInCase (record_of kind (entry_body v type) ++ a) (record_of kind (entry_body w type) ++ b)
