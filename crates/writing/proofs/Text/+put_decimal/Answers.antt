-- `writing::Text::put_decimal` meets its contract, by recursion on the number: the digits before the last one are those of its tenth.
use Rattle.std.proofs.Common.{arith}
use Rattle.writing.specs.Placed.{Placed}
use Rattle.writing.proofs.Decimals.{front_of, front_countable, front_more, front_none, last_countable, decimal_placed}
use Rattle.writing.proofs.Text.+put_decimal.Goals as goal
use Rattle.writing.proofs.Text.+put_decimal.Goals.{then-number-ge10, else-number-ge10}

pub put_decimal-requires : goal.put_decimal-requires
put_decimal-requires t c = (omega arith, front_countable c.args.number c.if-number-ge10.true c.requires)

pub put_byte-requires : goal.put_byte-requires
put_byte-requires t c =
    let front : Placed c.args.self.now.bytes.now c.args.self.now.place (front_of c.args.number) c.if-number-ge10.self.bytes.now c.if-number-ge10.self.place =
    elim c.if-number-ge10.branch [ then-number-ge10 w ↦ rw w.self-is (front_more c.args.number w.if-number-ge10.true w.put_decimal.ensures.placed) | else-number-ge10 w ↦ rw w.self-is (front_none c.args.number w.if-number-ge10.false) ] in
    last_countable c.args.number front _ c.requires

pub returns-clause-placed : goal.returns-clause-placed
returns-clause-placed t c =
    let front : Placed c.args.self.now.bytes.now c.args.self.now.place (front_of c.args.number) c.if-number-ge10.self.bytes.now c.if-number-ge10.self.place =
    elim c.if-number-ge10.branch [ then-number-ge10 w ↦ rw w.self-is (front_more c.args.number w.if-number-ge10.true w.put_decimal.ensures.placed) | else-number-ge10 w ↦ rw w.self-is (front_none c.args.number w.if-number-ge10.false) ] in
    decimal_placed c.args.number front c.last_digit.ensures c.put_byte.ensures.placed
