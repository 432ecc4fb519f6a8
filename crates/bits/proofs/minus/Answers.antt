-- `bits::minus` meets its contract, bit by bit.
use native.Mathlib.Omega.{arith}
use Rattle.bits.proofs.BitLaws.{difference_members}
use Rattle.bits.proofs.minus.Goals as goal

pub returns : goal.returns
returns c = difference_members c.args.a c.args.b (omega arith) (omega arith)
