use Prim.Native.Nat.{◌-◌}
use Rattle.figures.specs.Limits.{row_bits}
use Rattle.pregroup.specs.Held.{InRows}
use Rattle.graph.specs.Graph.{graph}
use Rattle.choice.specs.First.{Roomy}
use Rattle.choice.proofs.Choosing.{Choosing}
use Rattle.choice.proofs.choose.Given as goal

abbrev pub invariant-loop-u : goal.invariant-loop-u
invariant-loop-u l = record {
  now : Choosing (InRows l.order) (graph l.nodes l.slots) l.string l.chosen l.table l.needs l.end l.u l.words l.places;
  roomy : Roomy (graph l.nodes l.slots) l.string l.chosen l.table l.needs;
}

abbrev pub decreases-loop-u : goal.decreases-loop-u
decreases-loop-u l = row_bits - l.u
