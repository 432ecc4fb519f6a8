-- What the first choice asks and gives.
use Rattle.std.specs.Prelude.{ℕ, ◌+◌, ◌≤◌, ◌<◌, List, [], length, take}
use Rattle.figures.specs.Limits.{max_places}
use Rattle.bits.specs.Rows.{HasRow}
use Rattle.pregroup.specs.Types.{PregroupType}
use Rattle.pregroup.specs.Order.{Relation}
use Rattle.graph.specs.Graph.{Graph, Upward, Path, VanishTo, Boundary}
use Rattle.graph.specs.Layout.{End}
use Rattle.chart.specs.Chart.{FilledFrom}
use Rattle.table.specs.Table.{string_of, Right}
use Rattle.choice.specs.Completion.{SlotChoice, FirstChoice, Scanned}

-- The buffers have room for the longest string, for a slot at each node, and for a row before and behind each place.
pub record Roomy (g : Graph) (string chosen table needs : List ℕ) : Type 0 where
  pub places : max_places ≤ length string
  pub words : length g.nodes ≤ length chosen
  pub table_rows : (j : ℕ) → j ≤ max_places → HasRow table j
  pub needs_rows : (j : ℕ) → j ≤ max_places → HasRow needs j

-- The chart is filled, the line reads, it begins at a boundary and comes to an end, and no path has too many simple types.
pub record Choosable (Le : Relation) (g : Graph) (chart : List ℕ) (end : ℕ) : Type 0 where
  pub upward : Upward g
  pub filled : FilledFrom Le g chart 0
  pub chart_rows : (u : ℕ) → u < length g.nodes → HasRow chart u
  pub inside : end < length g.nodes
  pub begins : Boundary g 0
  pub ends : End g end
  pub reads : VanishTo Le g 0 end
  pub brief : {X : PregroupType} → Path g 0 X end → length X ≤ max_places

-- The slots of the words are the first choice that reads, the string is what it spells, and the table is that of the string.
pub record Chose (Le : Relation) (g : Graph) (string chosen table : List ℕ) (end words places : ℕ) : Type 0 where
  pub scanned : Scanned Le g end [] 0 (take words chosen)
  pub first : FirstChoice Le g [] 0 (take words chosen) end
  pub spelled : SlotChoice g 0 (take words chosen) (string_of string places) end
  pub right : Right Le (string_of string places) table places
  pub few : places + words ≤ end
  pub few_places : places ≤ max_places
