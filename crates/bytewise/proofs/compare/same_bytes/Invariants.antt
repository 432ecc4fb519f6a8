use Rattle.bytewise.proofs.Comparing.{Agree}
use Rattle.bytewise.proofs.compare.same_bytes.Given as goal

abbrev pub invariant-loop-i : goal.invariant-loop-i
invariant-loop-i l = Agree l.a l.b l.i
