use Rattle.bits.proofs.Testing.{Testing}
use Rattle.bits.proofs.rows.members_where.Given as goal

abbrev pub invariant-loop-m : goal.invariant-loop-m
invariant-loop-m g l = Testing l.rows l.u l.from l.down (goal.F-post g l.test) l.words l.m-iterator
