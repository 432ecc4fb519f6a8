use Rattle.slots.proofs.TypeLaws.{Typing}
use Rattle.slots.proofs.lay_type.Given as goal

abbrev pub invariant-loop-i : goal.invariant-loop-i
invariant-loop-i l = Typing l.t l.node l.boundary l.initial.nodes l.nodes l.first l.i
