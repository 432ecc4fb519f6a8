use Rattle.bits.specs.Gathered.{Only}
use Rattle.chart.specs.Chart.{SlotPart}
use Rattle.bits.proofs.Gathering.{GatheredTo}
use Rattle.chart.proofs.boundary_row.Given as goal

abbrev pub invariant-loop-s : goal.invariant-loop-s
invariant-loop-s l = GatheredTo l.row.words (Only l.u) (SlotPart l.slots l.chart l.from l.to) l.s
