-- What writing the first reading asks and gives: the chart of the words reaches a target.
use Rattle.std.specs.Prelude.{ℕ, ◌<◌, ◌≡◌, List, length}
use Rattle.figures.specs.Limits.{chart_words}
use Rattle.pregroup.specs.Types.{Basic}
use Rattle.pregroup.specs.Order.{Relation}
use Rattle.pregroup.specs.Tests.{Test}
use Rattle.linking.specs.Reading.{Words, first_reading}
use Rattle.graph.specs.Graph.{Graph}
use Rattle.answer.specs.Answers.{LineAnswer, given, Gives}
use Rattle.reach.specs.Charted.{Charted}

-- Some words are charted, and target t is reached.
pub record IsReached (Le : Relation) (g : Graph) (targets : List Basic) (last : ℕ) (chart : List ℕ) (t : ℕ) : Type 0 where
  pub le : Test
  pub words : Words
  pub charted : Charted le Le g targets last words chart t
  pub target_there : t < length targets
  pub chart_room : length chart ≡ chart_words

-- What writing the reading for t gives: what the first reading of the words comes to.
abbrev pub ReachGives : Relation → Graph → List Basic → ℕ → List ℕ → ℕ → List ℕ → LineAnswer → List ℕ → Type 0
ReachGives Le g targets last chart t before answer after =
    (le : Test) (words : Words) → Charted le Le g targets last words chart t → Gives (given (first_reading le targets words) before) answer after
