-- Words that are looked up in a book, and against an open one.
use Rattle.std.specs.Prelude.{ℕ, ◌≤◌, ◌≡◌, List, length}
use Rattle.figures.specs.Limits.{max_words, max_line_simples, max_targets}
use Rattle.pregroup.specs.Tests.{Test, Decides}
use Rattle.pregroup.specs.Held.{InRows}
use Rattle.linking.specs.Reading.{Words}
use Rattle.format.specs.Records.{Bytes, bodies_at}
use Rattle.lookup.specs.Entries.{Vocabulary, simples_of_words}
use Rattle.lookup.specs.Threads.{Threads}
use Rattle.line.specs.Passing.{AllKnown, AllBrief}

-- Each word is found by the thread of its entries, from its first one on, and the words keep within 12 to 14. The words of a line that passes are
-- such, and so are these without one of them.
pub record ThreadedWords (bytes : Bytes) (names : List ℕ) (types : ℕ) (entries same firsts : List ℕ) (words : Words) : Type 0 where
  pub vocabulary : Vocabulary bytes names types entries
  pub same_room : length entries ≤ length same
  pub threads : Threads bytes (bodies_at bytes names types) entries same firsts 0 words
  pub as_many : length words ≡ length firsts
  pub few : length firsts ≤ max_words
  pub small : simples_of_words words ≤ max_line_simples
  pub known_words : AllKnown words
  pub brief_words : AllBrief words

-- Such words against the order and the targets of a book, where the test decides the order. It has a row for each basic type.
pub record FoundWords (bytes : Bytes) (names entries same firsts order targets : List ℕ) (le : Test) (words : Words) : Type 0 where
  pub threaded : ThreadedWords bytes names (length order) entries same firsts words
  pub few_targets : length targets ≤ max_targets
  pub decides : Decides le (InRows order)

-- Some words are found so.
abbrev pub AreFound : Bytes → List ℕ → List ℕ → List ℕ → List ℕ → List ℕ → List ℕ → Type 0
AreFound bytes names entries same firsts order targets =
    (le : Test) × (words : Words) × FoundWords bytes names entries same firsts order targets le words
