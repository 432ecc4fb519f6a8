-- `bits::has` meets its contract: a bit from 64 on is 0, and any other bit is tested.
use borrow.Author.Tests.{eqb-true, eq-eqb, ltb-true}
use native.Mathlib.Omega.{arith}
use Rattle.bits.specs.Bits.{bit}
use Rattle.bits.proofs.BitLaws.{no_bit_past}
use Rattle.bits.proofs.has.Goals as goal

pub returns-then-q-lt64 : goal.returns-then-q-lt64
unfolding bit
returns-then-q-lt64 c = (eqb-true _ _, eq-eqb _ _)

pub returns-else-q-lt64 : goal.returns-else-q-lt64
returns-else-q-lt64 c =
    let a = c.args in
    (λ h. absurd (omega (arith, ltb-true a.q 64 h)), λ h. absurd (no_bit_past 64 a.word a.q (omega arith) (omega arith) h))
