-- What the chart's rows hold: row u has the nodes to which some path from u spells a string that vanishes. The functions that make one row
-- go by what the rows behind it hold.
use Rattle.std.specs.Prelude.{ℕ, ◌≤◌, ◌<◌, List, length}
use Rattle.pregroup.specs.Order.{Relation}
use Rattle.pregroup.specs.Vanish.{Contracts}
use Rattle.pregroup.specs.Held.{held}
use Rattle.bits.specs.Rows.{InRow, HasRow, RowSays}
use Rattle.graph.specs.Graph.{Graph, simple_at, next_at, entered_at, Upward, VanishTo}

-- The rows of the nodes from `from` on are filled.
abbrev pub FilledFrom : Relation → Graph → List ℕ → ℕ → Type 0
FilledFrom Le g chart from = (u : ℕ) → from ≤ u → u < length g.nodes → RowSays chart u (VanishTo Le g u)

-- What filling asks: edges go up, and every node has a row.
pub record Fillable (g : Graph) (chart : List ℕ) : Type 0 where
  pub upward : Upward g
  pub room : (u : ℕ) → u < length g.nodes → HasRow chart u

-- The part of a slot: what the node that it enters has.
pub record SlotPart (slots chart : List ℕ) (from to s v : ℕ) : Type 0 where
  pub from_on : from ≤ s
  pub before : s < to
  pub behind : InRow chart (entered_at slots s) v

-- What a boundary's row asks: the slots and the rows that they lead to are there.
pub record SlotsThere (slots chart : List ℕ) (from to : ℕ) : Type 0 where
  pub there : to ≤ length slots
  pub room : (s : ℕ) → from ≤ s → s < to → HasRow chart (entered_at slots s)

-- y is simple, x could contract with it, and v is in the row of the node behind y.
pub record Joined (Le : Relation) (nodes chart : List ℕ) (x y v : ℕ) : Type 0 where
  pub simple : 0 < next_at nodes y
  pub contracts : Contracts Le (held x) (held (simple_at nodes y))
  pub behind : InRow chart (next_at nodes y) v

-- The part of a node y, for a simple node u: y is in the row of the node behind u, and joined.
pub record LinkPart (Le : Relation) (nodes chart : List ℕ) (u y v : ℕ) : Type 0 where
  pub reached : InRow chart (next_at nodes u) y
  pub joined : Joined Le nodes chart (simple_at nodes u) y v

-- What a simple node's row asks: it and what it reaches are there, with the rows behind them; the node behind it is the first that is reached.
pub record LinksThere (nodes chart : List ℕ) (u : ℕ) : Type 0 where
  pub node : u < length nodes
  pub room : HasRow chart (next_at nodes u)
  pub first : InRow chart (next_at nodes u) (next_at nodes u)
  pub reached : (y : ℕ) → InRow chart (next_at nodes u) y → (next_at nodes u ≤ y) × (y < length nodes) × HasRow chart (next_at nodes y)
