-- `bits::count` meets its contract: the set bits are the sum of the bits.
use native.Mathlib.Omega.{arith}
use lib.Count.{ones-le}
use Rattle.bits.proofs.CountLaws.{ones_total}
use Rattle.bits.proofs.count.Goals as goal

pub returns : goal.returns
returns c = rw c.from.ensures (record { number = ones_total 64 c.args.word (omega arith); small = ones-le 64 c.args.word (omega arith) })
