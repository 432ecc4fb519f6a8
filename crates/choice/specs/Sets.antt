-- What the functions of this crate gather from rows, in terms of rows alone: those of the chart, the table of the chosen string, and the needs, whose row
-- n has nodes that are needed after n places. `specs/Grown.antt` says what these mean.
use Rattle.std.specs.Prelude.{ℕ, ◌+◌, ◌/◌, ◌≤◌, ◌<◌, ◌≡◌, List, length}
use Rattle.figures.specs.Limits.{row_bits}
use Rattle.bits.specs.Rows.{InRow, HasRow, RowSays}
use Rattle.bits.specs.Gathered.{Gathered, Only}
use Rattle.pregroup.specs.Types.{PregroupType}
use Rattle.pregroup.specs.Order.{Relation}
use Rattle.pregroup.specs.Vanish.{Contracts}
use Rattle.pregroup.specs.Held.{held}
use Rattle.graph.specs.Graph.{simple_at, next_at, entered_at}
use Rattle.chart.specs.Chart.{LinksThere}
use Rattle.table.specs.Table.{string_of, Right, StringThere, Closable}

-- Row u of the chart and row n of the needs have a member in common.
pub data Meets (chart : List ℕ) (u : ℕ) (needs : List ℕ) (n : ℕ) : Type 0 where
  meets : (v : ℕ) → InRow chart u v → InRow needs n v → Meets chart u needs n

-- They have one in word k of the row.
pub data MeetsIn (chart : List ℕ) (u : ℕ) (needs : List ℕ) (n k : ℕ) : Type 0 where
  meets_in : (v : ℕ) → v / 64 ≡ k → InRow chart u v → InRow needs n v → MeetsIn chart u needs n k

-- y is simple, x could contract with it, and from behind it the chart reaches a node that is needed after n places.
pub record LinksTo (Le : Relation) (nodes chart needs : List ℕ) (n x y : ℕ) : Type 0 where
  pub simple : 0 < next_at nodes y
  pub contracts : Contracts Le (held x) (held (simple_at nodes y))
  pub behind : Meets chart (next_at nodes y) needs n

-- The simple node u, chosen behind n places, may be linked to y: the chart reaches y from behind u.
pub record Partner (Le : Relation) (nodes chart needs : List ℕ) (n u y : ℕ) : Type 0 where
  pub reached : InRow chart (next_at nodes u) y
  pub links : LinksTo Le nodes chart needs n (simple_at nodes u) y

-- The part of a place i that the simple type at n may close: what row i of the needs has.
pub record ClosedPart (Le : Relation) (X : PregroupType) (needs : List ℕ) (n i v : ℕ) : Type 0 where
  pub closed : Closable Le X n i
  pub needed : InRow needs i v

-- Nothing is chosen: the rows of the empty string. The end is needed.
pub record Started (end : ℕ) (table needs : List ℕ) : Type 0 where
  pub table_new : RowSays table 0 (λ i. i ≡ 0)
  pub needs_new : RowSays needs 0 (Only end)

-- What starting asks.
pub record Startable (end : ℕ) (table needs : List ℕ) : Type 0 where
  pub small : end < row_bits
  pub table_room : HasRow table 0
  pub needs_room : HasRow needs 0

-- The simple node u is chosen too, at place n: the table is that of the string with it, and the needs have one row more, of the nodes that it may be
-- linked to and of what was needed before each place that it may close.
pub record Grew (Le : Relation) (nodes chart string : List ℕ) (n u : ℕ) (needs table' needs' : List ℕ) : Type 0 where
  pub right : Right Le (string_of string (n + 1)) table' (n + 1)
  pub needs_new :
      RowSays needs' (n + 1) (Gathered (Partner Le nodes chart needs n u) (ClosedPart Le (string_of string (n + 1)) needs n))
  pub needs_kept : (j : ℕ) → (j ≡ n + 1 → ⊥) → RowSays needs' j (InRow needs j)

-- What growing asks.
pub record Growable (Le : Relation) (nodes chart string : List ℕ) (n u : ℕ) (table needs : List ℕ) : Type 0 where
  pub links_there : LinksThere nodes chart u
  pub string_there : StringThere string (n + 1)
  pub right : Right Le (string_of string n) table n
  pub table_room : HasRow table (n + 1)
  pub needs_room : HasRow needs (n + 1)

-- r is the first of the slots from `from` to before `to` from whose node the chart reaches what is needed after n places; or it is `to`, or more,
-- where there is none.
pub record FirstSlot (slots chart needs : List ℕ) (n from to r : ℕ) : Type 0 where
  pub from_on : from ≤ r
  pub found : r < to → Meets chart (entered_at slots r) needs n
  pub none : (s : ℕ) → from ≤ s → s < r → Meets chart (entered_at slots s) needs n → ⊥

-- What the search asks.
pub record Searchable (slots chart needs : List ℕ) (n from to : ℕ) : Type 0 where
  pub there : to ≤ length slots
  pub chart_room : (s : ℕ) → from ≤ s → s < to → HasRow chart (entered_at slots s)
  pub needs_room : HasRow needs n
