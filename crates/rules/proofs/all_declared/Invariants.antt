use Prim.Native.Nat.{◌*◌}
use mathlib.Core.Path.{◌≡◌}
use lib.ListN.{drop}
use Rattle.format.specs.Records.{every}
use Rattle.rules.specs.Layouts.{simples_of}
use Rattle.rules.specs.Rules.{bases, declared_among}
use Rattle.rules.proofs.all_declared.Given as goal

abbrev pub invariant-loop-k : goal.invariant-loop-k
invariant-loop-k l = every (declared_among l.types) (bases (simples_of l.part)) ≡ every (declared_among l.types) (bases (simples_of (drop (2 * l.k) l.part)))
