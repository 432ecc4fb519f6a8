use Prim.Native.Nat.{◌*◌}
use mathlib.Core.Path.{◌≡◌}
use lib.ListN.{drop}
use Rattle.format.specs.Records.{every}
use Rattle.rules.specs.Layouts.{simples_of}
use Rattle.rules.specs.Rules.{exponents, exponent_listed}
use Rattle.rules.proofs.all_exponents.Given as goal

abbrev pub invariant-loop-k : goal.invariant-loop-k
invariant-loop-k l = every exponent_listed (exponents (simples_of l.part)) ≡ every exponent_listed (exponents (simples_of (drop (2 * l.k) l.part)))
