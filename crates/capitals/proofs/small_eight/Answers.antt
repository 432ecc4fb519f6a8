-- `capitals::small_eight` meets its contract: the sums stay within each byte, and what is added is 32 to each capital.
use native.Mathlib.Omega.{arith}
use Rattle.capitals.proofs.EightLaws.{number_small, number_below}
use Rattle.capitals.proofs.small_eight.Goals as goal

pub overflow_add-result : goal.overflow_add-result
overflow_add-result c =
    let bytes = c.args.bytes in
    let sum = number_small 8 bytes (omega arith) in
    omega (arith, sum, number_below 8 bytes)

pub returns : goal.returns
returns c = number_small 8 c.args.bytes (omega arith)
