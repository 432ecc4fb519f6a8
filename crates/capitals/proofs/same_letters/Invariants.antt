use Rattle.capitals.specs.Letters.{SameLetters}
use Rattle.capitals.proofs.same_letters.Given as goal

abbrev pub invariant-loop-i : goal.invariant-loop-i
invariant-loop-i l = SameLetters l.a l.b 0 l.i
