-- What the rows of the chosen string mean.
use Rattle.std.specs.Prelude.{ℕ, ◌≤◌, ◌≡◌, List, length, take, drop}
use Rattle.bits.specs.Rows.{InRow}
use Rattle.pregroup.specs.Types.{PregroupType}
use Rattle.pregroup.specs.Order.{Relation}
use Rattle.graph.specs.Graph.{Graph}
use Rattle.table.specs.Table.{Right}
use Rattle.choice.specs.Completion.{Finishes, Needed}

-- P is chosen, of n simple types, and the walk is at node u. The table is that of P. Row j of the needs has only nodes that are needed after the first j
-- simple types of P. It has every such node that a path from u leads to by what makes the rest of P vanish; no other is asked for any more.
pub record Grown (Le : Relation) (g : Graph) (P : PregroupType) (end u n : ℕ) (table needs : List ℕ) : Type 0 where
  pub long : length P ≡ n
  pub right : Right Le P table n
  pub only : (j z : ℕ) → j ≤ n → InRow needs j z → Needed Le g end (take j P) z
  pub every : (j z : ℕ) → j ≤ n → Needed Le g end (take j P) z → Finishes Le g (drop j P) u z → InRow needs j z
