use mathlib.Core.Path.{◌≡◌}
use Rattle.line.proofs.WordLaws.{words_here}
use Rattle.line.proofs.split.skip_spaces.Given as goal

abbrev pub invariant-loop-i : goal.invariant-loop-i
invariant-loop-i l = words_here l.line l.from ≡ words_here l.line l.i
