use Prim.Native.Nat.{◌+◌, ◌*◌}
use Rattle.capitals.specs.Letters.{SameLetters}
use Rattle.capitals.proofs.same_eights.Given as goal

abbrev pub invariant-loop-k : goal.invariant-loop-k
invariant-loop-k l = SameLetters l.a l.b l.from (l.from + 8 * l.k)
