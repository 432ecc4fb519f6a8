-- `bits::lowest` meets its contract: trailing zeros find the lowest member.
use native.Mathlib.Omega.{arith}
use Rattle.bits.proofs.Trailing.{trailing_lowest}
use Rattle.bits.proofs.lowest.Goals as goal

pub returns : goal.returns
returns c = trailing_lowest c.args.word c.requires (omega arith)
