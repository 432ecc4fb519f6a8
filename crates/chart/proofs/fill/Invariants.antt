use Rattle.pregroup.specs.Held.{InRows}
use Rattle.graph.specs.Graph.{graph}
use Rattle.chart.specs.Chart.{FilledFrom}
use Rattle.chart.proofs.fill.Given as goal

abbrev pub invariant-loop-u : goal.invariant-loop-u
invariant-loop-u l = FilledFrom (InRows l.order) (graph l.nodes l.slots) l.chart l.u
