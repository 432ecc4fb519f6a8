use Prim.Native.Nat.{◌-◌}
use lib.ListN.{length}
use Rattle.line.proofs.SplitLaws.{Splitting}
use Rattle.line.proofs.split.split.Given as goal

abbrev pub invariant-loop-at : goal.invariant-loop-at
invariant-loop-at l = Splitting l.line l.initial.starts l.initial.ends l.starts l.ends l.count l.at

abbrev pub decreases-loop-at : goal.decreases-loop-at
decreases-loop-at l = length l.line - l.at
