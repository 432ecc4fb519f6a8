-- How the code holds simple types and the order: a simple type is one number, 256 times its exponent and then its basic type, the exponent
-- raised by an even bias so that it is never negative and keeps its parity; the order is a row of 64 bits for each basic type.
use Rattle.std.specs.Prelude.{ℕ, ◌/◌, ◌%◌, List, get_or, pos, ◌-ℤ◌, eqb}
use Rattle.bits.specs.Bits.{bit, Has}
use Rattle.pregroup.specs.Types.{Simple, ◌⁽◌⁾}
use Rattle.pregroup.specs.Order.{Relation}
use Rattle.pregroup.specs.Tests.{Test}

-- What is added to an exponent to hold it: `EXPONENT_BIAS` of the code.
abbrev pub bias : ℕ
bias = 8

-- The simple type a^(z) with its exponent raised, x = z + bias.
abbrev pub lowered : ℕ → ℕ → Simple
lowered a x = a ⁽ pos x -ℤ pos bias ⁾

-- The simple type that a number holds.
unfoldable pub held : ℕ → Simple
held x = lowered (x % 256) (x / 256)

-- p ≤ q by the rows: row p has q. A row that is not there has nothing.
unfoldable pub InRows : List ℕ → Relation
InRows rows p q = Has (get_or rows p 0) q

-- The same as a test.
unfoldable pub in_rows : List ℕ → Test
in_rows rows p q = eqb (bit (get_or rows p 0) q) 1
