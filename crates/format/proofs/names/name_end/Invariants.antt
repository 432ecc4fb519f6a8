use Rattle.format.proofs.NameFronts.{NamePassed}
use Rattle.format.proofs.names.name_end.Given as goal

abbrev pub invariant-loop-i : goal.invariant-loop-i
invariant-loop-i l = NamePassed l.text l.at l.i
