use Prim.Native.Nat.{◌-◌}
use Rattle.bits.specs.Bits.{size}
use Rattle.pregroup.specs.Held.{InRows}
use Rattle.order.proofs.Walk.{Walked}
use Rattle.order.proofs.reach.Given as goal

abbrev pub invariant-loop-todo : goal.invariant-loop-todo
invariant-loop-todo l = Walked (InRows l.direct) l.p l.seen l.todo

abbrev pub decreases-loop-todo : goal.decreases-loop-todo
decreases-loop-todo l = 64 - size l.seen
