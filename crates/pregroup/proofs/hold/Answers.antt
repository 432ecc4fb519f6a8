-- `pregroup::hold` meets its contract: the basic type is the remainder at 256, and the raised exponent the quotient.
use native.Mathlib.Omega.{arith}
use Rattle.pregroup.proofs.HeldLaws.{held_of}
use Rattle.pregroup.proofs.hold.Goals as goal

pub returns : goal.returns
returns c =
    let a = c.args in
    rw (c.from.ensures, c.from-2.ensures) (held_of a.base a.raised (omega arith))
