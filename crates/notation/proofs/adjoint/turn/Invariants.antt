use Rattle.notation.proofs.TurnLaws.{Turning}
use Rattle.notation.proofs.adjoint.turn.Given as goal

abbrev pub invariant-loop-i : goal.invariant-loop-i
invariant-loop-i l = Turning l.side l.initial.simples l.simples l.i
