-- Document 01, "A book to try": what `reading` prints of an answer or a refusal, in rows as `printing` defines them.
use Rattle.std.specs.Prelude.{Result, Ok, Err, ℕ, ◌+◌, ◌*◌, ◌≤◌, ◌<◌, ◌≡◌, List, [], ◌∷◌, ◌++◌, length, get_or, take, drop}
use Rattle.std.proofs.Math.Option.{Option, none, some}
use Rattle.figures.specs.Limits.{max_words, max_string}
use Rattle.figures.specs.Refusals.{bad_line_byte, bad_word}
use Rattle.pregroup.specs.Types.{PregroupType}
use Rattle.format.specs.Records.{Bytes}
use Rattle.linking.specs.Reading.{target_at}
use Rattle.order.specs.Closed.{below}
use Rattle.letters.specs.Letters.{letters}
use Rattle.book.specs.Format.{Entry, Book, Parsed, accepted, refused, parse}
use Rattle.line.specs.LineWords.{Word, words_of}
use Rattle.line.specs.LineFaults.{byte_fault, word_fault}
use Rattle.answer.specs.Parts.{target_part, entries_part, partners_part}
use Rattle.answer.specs.Answers.{LineAnswer}
use Rattle.listing.specs.declared.TooShort.{TooShort}
use Rattle.printing.specs.Rows.{refusal_row, shown_rows}

-- The type of an entry. A number that the book does not have stands for the empty type.
abbrev pub type_of : List Entry → ℕ → PregroupType
type_of entries number = (get_or {A = Entry} entries number (record { word = []; type = [] })).type

-- The types of these entries, joined.
unfoldable pub joined : List Entry → List ℕ → PregroupType
joined entries [] = []
joined entries (number ∷ chosen) = type_of entries number ++ joined entries chosen

-- The simple types that are listed: those of the entries of the line's words.
abbrev pub listed_type : Book → List Word → List ℕ → PregroupType
listed_type B words chosen = joined B.entries (take (length words) chosen)

-- Their letters, with that of position 0, for a target's number and partners.
abbrev pub listed_letters : Book → ℕ → PregroupType → List ℕ → List ℕ
listed_letters B target string partners = letters (below (length B.names) B.pairs) (target_at B.targets target) string partners (length string)

-- The rows of a reading, by its target's number, its entry numbers and its partners.
abbrev pub reading_rows : Book → List Word → ℕ → List ℕ → List ℕ → Bytes
reading_rows B words target chosen partners =
    let string = listed_type B words chosen in
    shown_rows B.names words target chosen string (listed_letters B target string partners) partners

-- The rows of an answer's values.
abbrev pub answer_rows : Book → List Word → List ℕ → Bytes
answer_rows B words values = reading_rows B words (target_part values) (entries_part values) (partners_part values)

-- A line that breaks 11 or 12 has no words to list: its refusal is listed.
abbrev pub or_refused : ℕ → Option ℕ → Bytes → Bytes
or_refused number none rows = rows
or_refused number (some value) rows = refusal_row number value

-- The rows of an answer's values for a line.
abbrev pub line_rows : Book → Bytes → List ℕ → Bytes
line_rows B line values =
    or_refused bad_line_byte (byte_fault 0 line) (or_refused bad_word (word_fault 0 (words_of line)) (answer_rows B (words_of line) values))

-- The rows for what a book's bytes are. A book that is refused has no entries to list: its refusal is listed.
abbrev pub parsed_rows : Parsed → Bytes → List ℕ → Bytes
parsed_rows (refused number value) line values = refusal_row number value
parsed_rows (accepted B) line values = line_rows B line values

abbrev pub listed : Bytes → Bytes → List ℕ → Bytes
listed book line values = parsed_rows (parse book) line values

-- The listing of what reading a line against a book answers, with the buffer that it wrote to.
abbrev pub listing : Bytes → Bytes → LineAnswer → List ℕ → Bytes
listing book line (Ok n) buffer = listed book line (take n buffer)
listing book line (Err r) buffer = refusal_row r.number r.value

-- How many bytes the listing of what `read_line` answers has at most: 13 for its first row (`yes 24 288 7` and the byte that ends it),
-- 40 for each word and 29 for each simple type. `src/lib.rt` has the same figure.
abbrev pub max_listing : ℕ
max_listing = 13 + 40 * max_words + 29 * max_string

-- What rendering gives: how many bytes of the buffer are the listing, or that it is too short.
abbrev pub Rendered : Type 0
Rendered = Result ℕ TooShort

-- A listing for which there is room is written whole, and the bytes behind it stay. For a longer one the bytes needed are returned, and
-- nothing is written.
abbrev pub Renders : Bytes → Bytes → Rendered → Bytes → Type 0
Renders text before (Ok bytes) after = (bytes ≡ length text) × (length text ≤ length before) × (after ≡ text ++ drop (length text) before)
Renders text before (Err short) after = (short.needed ≡ length text) × (length before < length text) × (after ≡ before)
