use Rattle.graph.specs.Graph.{graph}
use Rattle.layout.proofs.GoalLaws.{Ending}
use Rattle.layout.proofs.lay_goals.Given as goal

abbrev pub invariant-loop-t : goal.invariant-loop-t
invariant-loop-t l = Ending l.targets l.p.node l.p.slot (graph l.initial.nodes l.initial.slots) (graph l.nodes l.slots) l.t
