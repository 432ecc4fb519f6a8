-- What the look-up of a line's words finds: a thread of entries for each of them, or 13 or 14.
use Rattle.std.specs.Prelude.{Result, Ok, Err, ℕ, ◌<◌, ◌≤◌, ◌≡◌, List, length, take}
use Rattle.std.proofs.Math.Option.{none, some}
use Rattle.figures.specs.Limits.{max_words, max_line_simples}
use Rattle.figures.specs.declared.refusals.Refusal.{Refusal}
use Rattle.figures.specs.Refusals.{unknown_word, too_many_simples}
use Rattle.format.specs.Records.{Bytes}
use Rattle.book.specs.Format.{Book}
use Rattle.lookup.specs.Entries.{simples_of_words}
use Rattle.lookup.specs.Threads.{Threads}
use Rattle.line.specs.LineFaults.{entries_of_line, entry_fault, passed, stopped, line_check}
use Rattle.line.specs.LineWords.{words_of}

-- A line that breaks 13, or 14 and not 13.
pub data Missing (B : Book) (line : Bytes) : ℕ → ℕ → Type 0 where
  no_entry : {value : ℕ} → entry_fault B (words_of line) ≡ some value → Missing B line unknown_word value
  too_many : entry_fault B (words_of line) ≡ none → max_line_simples < simples_of_words (entries_of_line B line) → Missing B line too_many_simples 0

-- The words of a line that breaks neither: each has entries, and they are threaded.
pub record Known (bytes : Bytes) (entries : List ℕ) (B : Book) (line : Bytes) (firsts same : List ℕ) : Type 0 where
  pub found : entry_fault B (words_of line) ≡ none
  pub small : simples_of_words (entries_of_line B line) ≤ max_line_simples
  pub as_many : length (entries_of_line B line) ≡ length firsts
  pub few : length firsts ≤ max_words
  pub threads : Threads bytes B.names entries same firsts 0 (entries_of_line B line)

-- The look-up of words that are split off: the first entries of so many words stand in front.
abbrev pub LookedUp : Bytes → List ℕ → Book → Bytes → List ℕ → List ℕ → Result ℕ Refusal → Type 0
LookedUp bytes entries B line firsts same (Ok words) = (words ≤ length firsts) × Known bytes entries B line (take words firsts) same
LookedUp bytes entries B line firsts same (Err r) = Missing B line r.number r.value

-- What the check of a line says, against a book whose entries are kept: the line passes with the entries that are threaded, or is stopped.
abbrev pub LineSays : Bytes → List ℕ → Book → Bytes → List ℕ → List ℕ → Result ℕ Refusal → Type 0
LineSays bytes entries B line firsts same (Ok words) =
    (line_check B line ≡ passed (entries_of_line B line)) × (words ≤ length firsts) × Known bytes entries B line (take words firsts) same
LineSays bytes entries B line firsts same (Err r) = line_check B line ≡ stopped r.number r.value
