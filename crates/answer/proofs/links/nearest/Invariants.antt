use Rattle.pregroup.specs.Held.{InRows}
use Rattle.answer.proofs.LinkSearch.{WalkSearched}
use Rattle.answer.proofs.links.nearest.Given as goal

abbrev pub invariant-loop-j : goal.invariant-loop-j
invariant-loop-j l = WalkSearched (InRows l.order) l.string l.table l.ends l.fn.e l.i l.j-iterator
