-- The entries of a word, by their numbers and types, and the entries that are kept of a book: the offsets of their records.
use Rattle.std.specs.Prelude.{ℕ, ◌+◌, ◌≤◌, ◌<◌, ◌≡◌, true, cond, length, get_or}
use mathlib.Core.List.{List, [], ◌∷◌, map, foldr}
use Rattle.figures.specs.Limits.{max_entries}
use Rattle.linking.specs.Reading.{NumberedEntry, Words}
use Rattle.format.specs.Records.{Bytes, body_at, next_at, bodies_at}
use Rattle.format.specs.Names.{Named}
use Rattle.rules.specs.Layouts.{is_worded}
use Rattle.book.specs.Format.{Entry, Book}
use Rattle.book.specs.Kept.{entry_from, Formed}
use Rattle.capitals.specs.Capitals.{same_word}

-- The entries of a word, numbered as they stand in the book: the rest of its entries, and the number of the first of them.
unfoldable pub entries_from : ℕ → List Entry → Bytes → List NumberedEntry
entries_from n [] word = []
entries_from n (e ∷ entries) word =
    let rest = entries_from (n + 1) entries word in
    cond (same_word e.word word) (record { number = n; type = e.type } ∷ rest) rest

-- The number of simple types of entries ..
unfoldable pub simples_in : List NumberedEntry → ℕ
simples_in entries = foldr (λ (e : NumberedEntry) (n : ℕ). length e.type + n) 0 entries

-- .. and of the entries of all words, a repeated word counted each time.
unfoldable pub simples_of_words : Words → ℕ
simples_of_words words = foldr (λ (entries : List NumberedEntry) (n : ℕ). simples_in entries + n) 0 words

-- The kept offsets are those of whole records with a word in front.
pub record Entries (bytes : Bytes) (entries : List ℕ) : Type 0 where
  pub few : length entries ≤ max_entries
  pub whole : (i : ℕ) → i < length entries → next_at bytes (get_or {A = ℕ} entries i 0) ≤ length bytes
  pub worded : (i : ℕ) → i < length entries → is_worded (body_at bytes (get_or {A = ℕ} entries i 0)) ≡ true

-- They are those of entries, where basic types have these names.
pub record Lexicon (bytes : Bytes) (names : List Bytes) (entries : List ℕ) : Type 0 where
  pub kept : Entries bytes entries
  pub formed : (i : ℕ) → i < length entries → Formed bytes names (get_or {A = ℕ} entries i 0)

-- What is kept of a book's basic types and entries.
pub record Vocabulary (bytes : Bytes) (names : List ℕ) (types : ℕ) (entries : List ℕ) : Type 0 where
  pub named : Named bytes names types
  pub lexicon : Lexicon bytes (bodies_at bytes names types) entries

-- The entries are those of B, in their order.
pub record KeptOf (bytes : Bytes) (entries : List ℕ) (B : Book) : Type 0 where
  pub lexicon : Lexicon bytes B.names entries
  pub all : B.entries ≡ map (entry_from bytes B.names) entries

-- The kept entry of a number.
abbrev pub entry_at : Bytes → List Bytes → List ℕ → ℕ → NumberedEntry
entry_at bytes names entries i = record { number = i; type = (entry_from bytes names (get_or {A = ℕ} entries i 0)).type }
