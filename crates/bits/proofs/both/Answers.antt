-- `bits::both` meets its contract, bit by bit.
use Rattle.bits.proofs.BitLaws.{and_members}
use Rattle.bits.proofs.both.Goals as goal

pub returns : goal.returns
returns c = and_members c.args.a c.args.b
