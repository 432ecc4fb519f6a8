use Prim.Native.Nat.{◌*◌}
use Rattle.bytewise.proofs.Comparing.{Agree}
use Rattle.bytewise.proofs.compare.first_other.Given as goal

abbrev pub invariant-loop-k : goal.invariant-loop-k
invariant-loop-k l = Agree l.a l.b (8 * l.k)
