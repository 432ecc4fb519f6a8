use Prim.Native.Nat.{◌*◌}
use mathlib.Core.Path.{◌≡◌}
use Rattle.figures.specs.Limits.{row_words}
use Rattle.bits.proofs.RowLaws.{Uniting}
use Rattle.bits.proofs.rows.unite.Given as goal

abbrev pub invariant-loop-k : goal.invariant-loop-k
invariant-loop-k l = (l.at ≡ row_words * l.u) × Uniting l.initial.word-items l.rows l.at l.word-items l.k
