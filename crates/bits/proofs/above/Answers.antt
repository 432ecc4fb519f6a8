-- `bits::above` meets its contract: a shift down takes the low bits off.
use Rattle.bits.proofs.BitLaws.{shifted_members}
use Rattle.bits.proofs.above.Goals as goal

pub returns : goal.returns
returns c = shifted_members c.args.word c.args.q
