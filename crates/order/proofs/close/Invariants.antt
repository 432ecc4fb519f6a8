use Rattle.pregroup.specs.Held.{InRows}
use Rattle.order.proofs.Filling.{Filled}
use Rattle.order.proofs.close.Given as goal

abbrev pub invariant-loop-p : goal.invariant-loop-p
invariant-loop-p l = Filled (InRows l.direct) l.rows l.p
