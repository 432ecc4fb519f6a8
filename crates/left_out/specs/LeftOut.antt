-- Document 02, 2.6, on words: a number whose bits tell for each word whether the others have a reading.
use Rattle.std.specs.Prelude.{ℕ, zero, suc, ◌+◌, ◌*◌, ◌≡◌, Bool, true, false, List, length}
use Rattle.pregroup.specs.Types.{Basic}
use Rattle.pregroup.specs.Tests.{Test}
use Rattle.format.specs.Records.{Bytes}
use Rattle.linking.specs.Reading.{Words, reads}
use Rattle.line.specs.Remaining.{without}
use Rattle.line.specs.FoundWords.{FoundWords}

-- A bit that says yes or no.
abbrev pub bit_of : Bool → ℕ
bit_of true = 1
bit_of false = 0

-- The number for n words from word k + 1 on: its bit j tells whether the words without word k + j + 1 have a reading.
unfoldable pub way_from : Test → List Basic → Words → ℕ → ℕ → ℕ
way_from le targets words k zero = 0
way_from le targets words k (suc n) = bit_of (reads le targets (without k words)) + 2 * way_from le targets words (k + 1) n

-- The number for all words.
abbrev pub way_of : Test → List Basic → Words → ℕ
way_of le targets words = way_from le targets words 0 (length words)

-- It is the number for the words that are looked up so.
abbrev pub IsWay : Bytes → List ℕ → List ℕ → List ℕ → List ℕ → List ℕ → List ℕ → ℕ → Type 0
IsWay bytes names entries same firsts order targets number =
    (le : Test) (words : Words) → FoundWords bytes names entries same firsts order targets le words → number ≡ way_of le targets words
