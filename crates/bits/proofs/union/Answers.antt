-- `bits::union` meets its contract, bit by bit.
use Rattle.bits.proofs.BitLaws.{or_members}
use Rattle.bits.proofs.union.Goals as goal

pub returns : goal.returns
returns c = or_members c.args.a c.args.b
