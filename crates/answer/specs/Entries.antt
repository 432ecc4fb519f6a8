-- What the code writes of an answer: the target's number, the number of words and the number of each word's entry.
use Rattle.std.specs.Prelude.{ℕ, ◌+◌, ◌<◌, List, map, get_or, length}
use Rattle.figures.specs.Limits.{value_bound}
use Rattle.graph.specs.Graph.{number_at}

-- The numbers of the chosen slots' entries.
unfoldable pub entry_numbers : List ℕ → List ℕ → List ℕ
entry_numbers slots chosen = map (λ s. number_at slots s) chosen

-- The chosen slots are there, and the buffer has a place for t, for their number and for each of them.
pub record Enterable (t : ℕ) (slots chosen answer : List ℕ) : Type 0 where
  pub target_fits : t < value_bound
  pub fits : length chosen < value_bound
  pub space : length chosen + 1 < length answer
  pub numbered : (i : ℕ) → i < length chosen → get_or chosen i 0 < length slots
