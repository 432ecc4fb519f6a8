-- `line::split::is_line_byte` meets its contract: the range that led to each answer decides the test.
use native.Mathlib.Omega.{arith}
use mathlib.Core.Path.{sym}
use Rattle.format.proofs.Bools.{inside, outside}
use Rattle.line.proofs.split.is_line_byte.Goals as goal

pub returns-in-32-to-126 : goal.returns-in-32-to-126
returns-in-32-to-126 c = sym (inside 32 126 c.args.byte (omega arith))

pub returns-in_default : goal.returns-in_default
returns-in_default c = sym (outside 32 126 c.args.byte (omega arith))

pub returns-in_default-2 : goal.returns-in_default-2
returns-in_default-2 c = sym (outside 32 126 c.args.byte (omega arith))
