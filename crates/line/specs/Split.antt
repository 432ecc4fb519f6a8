-- What the code keeps of a line's words: where each starts and ends.
use Rattle.std.specs.Prelude.{Result, Ok, Err, ℕ, ◌-◌, ◌≤◌, ◌<◌, ◌≡◌, List, [], ◌∷◌, length, get_or, take, drop}
use Rattle.std.proofs.Math.Option.{none, some}
use Rattle.figures.specs.Limits.{max_word, max_words}
use Rattle.figures.specs.declared.refusals.Refusal.{Refusal}
use Rattle.figures.specs.Refusals.{bad_line_byte, bad_word}
use Rattle.format.specs.Records.{Bytes}
use Rattle.line.specs.LineWords.{Word, words_from, words_of}
use Rattle.line.specs.LineFaults.{byte_fault, word_fault}

-- The word that starts at `at` and ends before `end`.
abbrev pub word_at : Bytes → ℕ → ℕ → Word
word_at line at end = record { at = at; bytes = take (end - at) (drop at line) }

-- Words by where they start and end.
unfoldable pub words_kept : Bytes → List ℕ → List ℕ → List Word
words_kept line [] ends = []
words_kept line (at ∷ starts) [] = []
words_kept line (at ∷ starts) (end ∷ ends) = word_at line at end ∷ words_kept line starts ends

-- Spaces are passed from `from` up to `at`: the words are the same, and no space stands there.
pub record Skipped (line : Bytes) (from at : ℕ) : Type 0 where
  pub forth : from ≤ at
  pub inside : at ≤ length line
  pub same : words_from from (drop from line) ≡ words_from at (drop at line)
  pub stops : at < length line → get_or {A = ℕ} line at 0 ≡ 32 → ⊥

-- A kept word lies within the line, is not empty and not too long.
abbrev pub Lies : Bytes → ℕ → ℕ → Type 0
Lies line at end = (at < end) × (end ≤ length line) × (end - at ≤ max_word)

-- The words of a line that breaks neither 11 nor 12.
pub record SplitInto (line : Bytes) (starts ends : List ℕ) : Type 0 where
  pub bytes_fine : byte_fault 0 line ≡ none
  pub words_fine : word_fault 0 (words_of line) ≡ none
  pub words : words_of line ≡ words_kept line starts ends
  pub as_many : length ends ≡ length starts
  pub few : length starts ≤ max_words
  pub lying : (i : ℕ) → i < length starts → Lies line (get_or {A = ℕ} starts i 0) (get_or {A = ℕ} ends i 0)

-- A line that breaks 11, or 12 and not 11.
pub data Stopped (line : Bytes) : ℕ → ℕ → Type 0 where
  at_byte : {value : ℕ} → byte_fault 0 line ≡ some value → Stopped line bad_line_byte value
  at_word : {value : ℕ} → byte_fault 0 line ≡ none → word_fault 0 (words_of line) ≡ some value → Stopped line bad_word value

-- What splitting a line comes to: so many words, with their places in front, or a refusal.
abbrev pub SplitSays : Bytes → List ℕ → List ℕ → Result ℕ Refusal → Type 0
SplitSays line starts ends (Ok words) = SplitInto line (take words starts) (take words ends) × (words ≤ length starts) × (words ≤ length ends)
SplitSays line starts ends (Err r) = Stopped line r.number r.value
