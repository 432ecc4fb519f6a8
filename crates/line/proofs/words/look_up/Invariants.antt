use Rattle.line.proofs.LineLaws.{LookingUp}
use Rattle.line.proofs.words.look_up.Given as goal

abbrev pub invariant-loop-k : goal.invariant-loop-k
invariant-loop-k l = LookingUp l.book l.entries l.line l.starts l.ends l.initial.firsts l.initial.same l.firsts l.same l.sum l.k
