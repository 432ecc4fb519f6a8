-- What the writing of a whole answer asks and gives.
use Rattle.std.specs.Prelude.{ℕ, ◌≤◌, ◌<◌, ◌≡◌, List, ◌∷◌, ◌++◌, get_or, length, drop}
use Rattle.figures.specs.Limits.{max_words, max_targets}
use Rattle.bits.specs.Rows.{HasRow}
use Rattle.pregroup.specs.Types.{Basic}
use Rattle.pregroup.specs.Order.{Relation}
use Rattle.pregroup.specs.Vanish.{Reduces}
use Rattle.linking.specs.Greedy.{GreedyFrom}
use Rattle.table.specs.Table.{string_of, Right, StringThere}
use Rattle.answer.specs.Answers.{answer_length}
use Rattle.answer.specs.Entries.{entry_numbers}

-- The string can be linked: it is there with its table, and reduces to the target.
pub record Linkable (Le : Relation) (string table : List ℕ) (s : Basic) : Type 0 where
  pub string_there : StringThere string (length string)
  pub room : HasRow table (length string)
  pub right : Right Le (string_of string (length string)) table (length string)
  pub reduces : Reduces Le s (string_of string (length string))

-- What the writing of an answer for target number t, of the chosen slots and m simple types, asks besides.
pub record Writable (t : ℕ) (slots chosen : List ℕ) (m : ℕ) (answer : List ℕ) : Type 0 where
  pub low : t < max_targets
  pub few : length chosen ≤ max_words
  pub numbered : (i : ℕ) → i < length chosen → get_or chosen i 0 < length slots
  pub space : answer_length (length chosen) m ≤ length answer

-- The answer is written: t, the number of words, the entries of their slots, the number of simple types, and the first linking of the string with the
-- target s. What stands behind it is kept.
pub record WroteAnswer (Le : Relation) (string : List ℕ) (s : Basic) (t : ℕ) (slots chosen before after : List ℕ) : Type 0 where
  pub partners : List ℕ
  pub whole : length partners ≡ length string
  pub greedy : GreedyFrom Le s (string_of string (length string)) partners 1
  pub written : after ≡ (t ∷ length chosen ∷ (entry_numbers slots chosen ++ (length string ∷ partners))) ++ drop (answer_length (length chosen) (length string)) before
