use Prim.Native.Nat.{◌-◌}
use Rattle.figures.specs.Limits.{row_bits}
use Rattle.bits.proofs.RowLaws.{Walked}
use Rattle.bits.proofs.rows.next_member.Given as goal

abbrev pub invariant-loop-at : goal.invariant-loop-at
invariant-loop-at l = Walked l.rows l.u l.from l.at

abbrev pub decreases-loop-at : goal.decreases-loop-at
decreases-loop-at l = row_bits - l.at
