use mathlib.Core.Path.{◌≡◌}
use Rattle.graph.specs.Graph.{next_at, simple_at}
use Rattle.pregroup.specs.Held.{InRows}
use Rattle.bits.specs.Gathered.{Only}
use Rattle.chart.specs.Chart.{LinkPart}
use Rattle.bits.proofs.MemberWalks.{Walks}
use Rattle.chart.proofs.simple_row.Given as goal

abbrev pub invariant-loop-y : goal.invariant-loop-y
invariant-loop-y l =
    (l.x ≡ simple_at l.nodes l.fn.u) × Walks l.chart (next_at l.nodes l.fn.u) (next_at l.nodes l.fn.u) (Only l.fn.u) (LinkPart (InRows l.order) l.nodes l.chart l.fn.u) l.row.words l.y-iterator
