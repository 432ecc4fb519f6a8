use Rattle.bits.specs.Rows.{InRow}
use Rattle.bits.specs.Gathered.{RowPart}
use Rattle.bits.proofs.MemberWalks.{Walks}
use Rattle.bits.proofs.rows.unite_all.Given as goal

abbrev pub invariant-loop-u : goal.invariant-loop-u
invariant-loop-u l = Walks l.fn.set.words 0 0 (InRow l.fn.row.words 0) (RowPart l.fn.set.words l.rows) l.row.words l.u-iterator
