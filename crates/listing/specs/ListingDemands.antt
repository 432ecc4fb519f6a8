-- What is promised of a listing, in the papers' terms: readings, links and the bytes that are lent. `listing` has all of this, which
-- proofs/ListingPromises.antt proves.
use Rattle.std.specs.Prelude.{ℕ, ◌≤◌, ◌≡◌, List, length, get_or, Ok}
use Rattle.pregroup.specs.Types.{PregroupType}
use Rattle.linking.specs.Reading.{Words, Choice, target_at, IsFirst}
use Rattle.letters.specs.Letters.{t}
use Rattle.letters.specs.Lettered.{Lettered}
use Rattle.format.specs.Records.{Bytes}
use Rattle.book.specs.Format.{Book}
use Rattle.line.specs.LineWords.{words_of}
use Rattle.answer.specs.Answers.{LineAnswer}
use Rattle.figures.specs.Refusals.{Refused}
use Rattle.reader.specs.Demands.{OrderOf, Readable, Promised}
use Rattle.printing.specs.Rows.{refusal_row, shown_rows}
use Rattle.listing.specs.Listing.{listed_type, max_listing, Rendered, Renders}

-- The listing of a reading.
pub record ListsReading (book line text : Bytes) : Type 0 where
  pub contents : Book
  pub words : Words
  pub target : ℕ
  pub entries : List ℕ
  pub partners : List ℕ
  pub type : PregroupType
  -- It is the first reading of the line, by this choice.
  pub readable : Readable book line contents words
  pub first : IsFirst (OrderOf contents) contents.targets words target entries partners
  pub chosen : Choice words entries type
  -- Each word has an entry, each simple type a partner, and the simple types that are listed are those of the choice.
  pub entry_each : length entries ≡ length (words_of line)
  pub partner_each : length partners ≡ length type
  pub joins : listed_type contents (words_of line) entries ≡ type
  -- Each row of a simple type ends with the letter of its link: `t` exactly where the link needs the order.
  pub letters : List ℕ
  pub lettered : Lettered (OrderOf contents) (target_at contents.targets target) type partners (λ i. get_or {A = ℕ} letters i t)
  pub rows : text ≡ shown_rows contents.names (words_of line) target entries type letters partners

-- The promises, for an answer and the buffer behind it, the bytes lent, what is returned and the bytes after it.
pub record ListingPromised (book line : Bytes) (answer : LineAnswer) (buffer : List ℕ) (before : Bytes) (rendered : Rendered) (after : Bytes) : Type 0 where
  -- What `read_line` answered, whatever it was lent, is listed as the line's first reading.
  pub reading : (lent : List ℕ) (n : ℕ) → answer ≡ Ok n → Promised book line lent (Ok n) buffer
      → (text : Bytes) × ListsReading book line text × Renders text before rendered after
  -- For that `max_listing` bytes are enough.
  pub enough : (lent : List ℕ) (n : ℕ) → answer ≡ Ok n → Promised book line lent (Ok n) buffer → max_listing ≤ length before
      → (bytes : ℕ) × (rendered ≡ Ok bytes)
  -- A refusal is listed by its row.
  pub refusal : (number value : ℕ) → answer ≡ Refused number value → Renders (refusal_row number value) before rendered after
