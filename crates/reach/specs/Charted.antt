-- Words that are charted: their graph, its chart, and the first target that it reaches.
use Rattle.std.specs.Prelude.{ℕ, ◌≤◌, ◌<◌, ◌≡◌, List, length, Option, Some, None}
use Rattle.figures.specs.Limits.{max_words, max_targets, max_nodes}
use Rattle.bits.specs.Rows.{HasRow, InRow}
use Rattle.pregroup.specs.Types.{Basic}
use Rattle.pregroup.specs.Order.{Relation}
use Rattle.pregroup.specs.Tests.{Test, Decides}
use Rattle.linking.specs.Reading.{Words, target_at}
use Rattle.line.specs.Passing.{AllKnown, AllBrief}
use Rattle.graph.specs.Graph.{Graph, Upward}
use Rattle.graph.specs.Layout.{End, Laid}
use Rattle.layout.specs.LineLayout.{end_at, nodes_with}
use Rattle.chart.specs.Chart.{FilledFrom}

-- The graph is that of these words and of the targets behind the last boundary; its edges go up, and the test decides the order.
pub record Drawn (le : Test) (Le : Relation) (g : Graph) (targets : List Basic) (last : ℕ) (words : Words) : Type 0 where
  pub upward : Upward g
  pub nodes : length g.nodes ≡ nodes_with last (length targets)
  pub few : length g.nodes ≤ max_nodes
  pub few_targets : length targets ≤ max_targets
  pub few_words : length words ≤ max_words
  pub decides : Decides le Le
  pub ends : (t : ℕ) → t < length targets → End g (end_at last t)
  pub laid : (t : ℕ) → t < length targets → Laid g (target_at targets t) 0 words (end_at last t)
  pub known_words : AllKnown words
  pub brief_words : AllBrief words

-- What the search for the first target asks: the chart has a row for node 0, and the ends are nodes.
pub record EndsThere (chart : List ℕ) (last count : ℕ) : Type 0 where
  pub room : HasRow chart 0
  pub few : nodes_with last count ≤ max_nodes

-- r is the first of `count` targets whose end is in the row of node 0, or `count` where there is none.
pub record FirstEnd (chart : List ℕ) (last count r : ℕ) : Type 0 where
  pub within : r ≤ count
  pub reached : r < count → InRow chart 0 (end_at last r)
  pub none : (t : ℕ) → t < r → InRow chart 0 (end_at last t) → ⊥

-- What the search for the first target gives: the first whose end is in the row of node 0, or that there is none.
abbrev pub FirstReached : List ℕ → ℕ → ℕ → Option ℕ → Type 0
FirstReached chart last count (Some r) = (r < count) × FirstEnd chart last count r
FirstReached chart last count None = (t : ℕ) → t < count → InRow chart 0 (end_at last t) → ⊥

-- The graph is drawn, its chart filled, and t is the first target whose end that reaches.
pub record Charted (le : Test) (Le : Relation) (g : Graph) (targets : List Basic) (last : ℕ) (words : Words) (chart : List ℕ) (t : ℕ) : Type 0 where
  pub drawn : Drawn le Le g targets last words
  pub filled : FilledFrom Le g chart 0
  pub first : FirstEnd chart last (length targets) t
