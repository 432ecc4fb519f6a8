use Rattle.left_out.proofs.TryLaws.{LeftOut, IsWayFrom}
use Rattle.left_out.proofs.try_each.Given as goal

abbrev pub invariant-loop-k : goal.invariant-loop-k
invariant-loop-k l = record {
  leaving : LeftOut l.initial.firsts l.firsts l.left_out l.k;
  told : IsWayFrom l.book l.names l.entries l.same l.initial.firsts l.order l.targets l.k l.number;
}
