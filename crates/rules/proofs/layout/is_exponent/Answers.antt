-- `rules::layout::is_exponent` meets its contract: the range that led to each answer decides the test.
use native.Mathlib.Omega.{arith}
use Rattle.rules.proofs.Bools.{exponent_up, exponent_down, exponent_no}
use Rattle.rules.proofs.layout.is_exponent.Goals as goal

pub returns-in_default : goal.returns-in_default
returns-in_default c = exponent_no _ (omega arith) (omega arith)

pub returns-in-0-to-8 : goal.returns-in-0-to-8
returns-in-0-to-8 c = exponent_up _ (omega arith)

pub returns-in-0-to-8-2 : goal.returns-in-0-to-8-2
returns-in-0-to-8-2 c = exponent_down _ (omega arith)
